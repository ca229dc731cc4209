-- `split_to` meets its contract: what has been split so far stands for the same.
use Prim.Native.Nat.{suc, ◌-◌, ◌≤◌}
use native.Mathlib.Omega.{arith}
use Rattle.run_lines.specs.Records.{Splits}
use Rattle.run_lines.proofs.Turn.{splits-none, splits-on, splits-placed}
use Rattle.run_lines.proofs.lines.split_to.Reads as reads
use Rattle.run_lines.proofs.lines.split_to.Lts as lts
use Rattle.run_lines.proofs.lines.split_one.Reads as split-one-reads
use Rattle.run_lines.proofs.lines.split_to.Given as goal

abbrev pub invariant-loop-r : goal.invariant-loop-r
invariant-loop-r l = (Splits l.edition.number l.t l.kind l.initial.work l.work l.initial.r l.r) × (l.initial.r.known ≤ l.k → l.r.known ≤ l.k)

abbrev pub decreases-loop-r : goal.decreases-loop-r
decreases-loop-r l = suc l.r.size - l.r.after
