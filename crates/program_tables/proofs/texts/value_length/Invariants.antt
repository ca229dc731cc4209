-- `value_length`: what is counted and what is left are the value's bytes.
use mathlib.Core.Path.{◌≡◌}
use Prim.Native.Nat.{◌+◌, ◌-◌, ◌≤◌}
use lib.ListN.{length}
use Rattle.program_tables.specs.Texts.{value_in}
use Rattle.program_tables.proofs.texts.value_length.Given as goal

abbrev pub invariant-loop-i : goal.invariant-loop-i
invariant-loop-i l =
    (l.n + l.start ≤ l.i) × (l.n + length (value_in l.s l.escapes l.i l.stop) ≡ length (value_in l.s l.escapes l.start l.stop))

abbrev pub decreases-loop-i : goal.decreases-loop-i
decreases-loop-i l = l.stop - l.i
