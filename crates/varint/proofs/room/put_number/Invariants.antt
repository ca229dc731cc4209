-- `put_number` meets its contract: the number's groups, from its lowest on, are those of what is left of it, group by
-- group.
use lib.ListN.{length}
use mathlib.Core.Path.{◌≡◌}
use Rattle.varint.proofs.Puts.{Puts}
use Rattle.varint.proofs.room.put_number.Given as goal

abbrev pub invariant-loop-rest : goal.invariant-loop-rest
invariant-loop-rest l = (Puts l.initial.room l.k l.n l.room l.rest l.i) × (length l.room ≡ length l.initial.room)

abbrev pub decreases-loop-rest : goal.decreases-loop-rest
decreases-loop-rest l = l.rest
