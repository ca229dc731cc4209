-- `put_entries`: what is left to write comes to the whole.
use mathlib.Core.Path.{◌≡◌}
use Prim.Native.Nat.{◌+◌, ◌-◌, ◌*◌, ◌≤◌}
use lib.ListN.{length}
use Rattle.program_image.proofs.Remaining.{Left}
use Rattle.program_image.proofs.Parts.{entry_most}
use Rattle.program_image.proofs.Parts.{entries_left}
use Rattle.program_image.proofs.writing.put_entries.Given as goal

abbrev pub invariant-loop-i : goal.invariant-loop-i
invariant-loop-i l =
    (l.i ≤ l.n) × ((l.at ≤ l.initial.at + entry_most * l.i)
    × (Left l.initial.room l.initial.at (entries_left l.s l.constants l.table 0 l.n) l.room l.at (entries_left l.s l.constants l.table l.i (l.n - l.i))
    × (length l.room ≡ length l.initial.room)))
