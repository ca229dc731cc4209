-- `same_value`: what is left of both is equal as the whole of both is.
use mathlib.Core.Path.{◌≡◌}
use Prim.Native.Nat.{◌-◌, ◌≤◌}
use Rattle.program_tokens.specs.Words.{same_bytes}
use Rattle.program_tables.specs.Texts.{value_in}
use Rattle.program_tables.proofs.texts.same_value.Given as goal

abbrev pub invariant-loop-i : goal.invariant-loop-i
invariant-loop-i l =
    (l.a ≤ l.i) × ((l.b ≤ l.j)
    × (same_bytes (value_in l.s l.escapes l.a l.p) (value_in l.s l.escapes l.b l.q)
    ≡ same_bytes (value_in l.s l.escapes l.i l.p) (value_in l.s l.escapes l.j l.q)))

abbrev pub decreases-loop-i : goal.decreases-loop-i
decreases-loop-i l = l.p - l.i
