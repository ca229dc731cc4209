-- `take_number` meets its contract: k groups are read, and what the bytes after them give, with these, is the number.
use Rattle.varint.proofs.Groups.{ReadTo}
use lib.ListN.{length}
use mathlib.Core.Path.{◌≡◌}
use Prim.Native.Nat.{◌+◌, ◌-◌, ◌^◌, ◌≤◌, ◌<◌}
use Rattle.varint.proofs.numbers.take_number.Given as goal

abbrev pub invariant-loop-k : goal.invariant-loop-k
invariant-loop-k l =
    (l.at + l.k ≤ length l.image) × (l.k ≤ 7) × (l.scale ≡ 128 ^ l.k) × (l.value < l.scale) × (ReadTo l.image l.at (l.at + l.k) l.value l.scale)

abbrev pub decreases-loop-k : goal.decreases-loop-k
decreases-loop-k l = length l.image - (l.at + l.k)
