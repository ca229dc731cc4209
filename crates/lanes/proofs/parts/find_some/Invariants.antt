-- `find_some` meets its contract: `t` is nowhere below k.
use Prim.Native.Nat.{ℕ, ◌+◌, ◌-◌, ◌≤◌}
use lib.ListN.{length}
use Rattle.buffer.specs.First.{Stands}
use Rattle.lanes.proofs.parts.find_some.Given as goal

abbrev pub invariant-loop-k : goal.invariant-loop-k
invariant-loop-k l = (l.k ≤ length l.s) × ((j : ℕ) → Stands l.t l.s j → l.k ≤ j)

abbrev pub decreases-loop-k : goal.decreases-loop-k
decreases-loop-k l = length l.s + 1 - l.k
