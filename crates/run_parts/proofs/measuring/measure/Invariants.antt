-- `measure` meets its contract: the size of the fields so far.
use Prim.Native.Nat.{◌≤◌}
use Rattle.edition.specs.Limits.{text_bytes}
use Rattle.run_parts.proofs.Measured.{Sum}
use Rattle.run_parts.proofs.measuring.measure.Given as goal

abbrev pub invariant-loop-i : goal.invariant-loop-i
invariant-loop-i l = (l.i ≤ l.count) × (l.sum ≤ text_bytes) × (Sum l.work l.line l.k l.v l.n l.i l.sum)
