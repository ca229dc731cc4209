-- `put_section`: what is left to write comes to the whole.
use mathlib.Core.Path.{◌≡◌}
use Prim.Native.Nat.{◌+◌, ◌*◌, ◌≤◌}
use lib.ListN.{length}
use Rattle.program_image.proofs.Remaining.{Left}
use Rattle.program_image.proofs.Parts.{instruction_most, code_left}
use Rattle.program_image.proofs.writing.put_section.Given as goal

abbrev pub invariant-loop-i : goal.invariant-loop-i
invariant-loop-i l =
    (l.i ≤ l.n) × ((l.at ≤ l.initial.at + instruction_most * l.i)
    × (Left l.initial.room l.initial.at (code_left l.section 0 l.n) l.room l.at (code_left l.section l.i l.n) × (length l.room ≡ length l.initial.room)))
