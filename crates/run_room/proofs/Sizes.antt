-- The layout in numbers, and that it fits.
use mathlib.Core.Path.{◌≡◌, refl}
use Prim.Native.Nat.{◌≤◌}
use native.Mathlib.Omega.{arith}
use Rattle.edition.specs.Limits.{working_room}
use Rattle.run_room.specs.Layout.{slot_bytes, slot_count, record_start, entries_start, base_end}

pub slot-bytes : slot_bytes ≡ 544
slot-bytes = refl

pub slot-count : slot_count ≡ 66
slot-count = refl

pub records-from : record_start 0 ≡ 35920
records-from = refl

pub entries_from : entries_start ≡ 36992
entries_from = refl

pub base-end : base_end ≡ 39040
base-end = refl

-- what the base uses is in the working room
pub base-fits : base_end ≤ working_room
base-fits = omega arith
