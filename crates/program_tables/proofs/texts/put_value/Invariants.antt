-- `put_value`: the room with what is left from the index on is the room with the whole value.
use mathlib.Core.Path.{◌≡◌}
use Prim.Native.Nat.{◌+◌, ◌-◌, ◌≤◌}
use lib.ListN.{length}
use Rattle.varint.specs.Room.{with_all}
use Rattle.program_tables.specs.Texts.{value_in}
use Rattle.program_tables.proofs.texts.put_value.Given as goal

abbrev pub invariant-loop-i : goal.invariant-loop-i
invariant-loop-i l =
    (l.n + l.start ≤ l.k + l.i) × ((l.start ≤ l.i)
    × ((l.n + length (value_in l.s l.escapes l.i l.stop) ≡ l.k + length (value_in l.s l.escapes l.start l.stop))
    × ((with_all l.initial.room l.k (value_in l.s l.escapes l.start l.stop) ≡ with_all l.room l.n (value_in l.s l.escapes l.i l.stop))
    × (length l.room ≡ length l.initial.room))))

abbrev pub decreases-loop-i : goal.decreases-loop-i
decreases-loop-i l = l.stop - l.i
