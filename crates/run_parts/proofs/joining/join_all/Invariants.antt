-- `join_all` meets its contract: so many fields have been joined.
use Rattle.buffer.specs.Parts.{part}
use Prim.Native.Nat.{◌≤◌}
use Rattle.run_parts.specs.Join.{Joins}
use Rattle.run_parts.proofs.joining.join_all.Given as goal

abbrev pub invariant-loop-i : goal.invariant-loop-i
invariant-loop-i l = (l.i ≤ l.count) × (Joins l.initial.work l.work l.line l.k l.v (part l.from l.n l.initial.work) l.i l.at)
