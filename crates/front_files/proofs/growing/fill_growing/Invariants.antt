-- `fill_growing`: what is filled lies inside the room, and the bytes that were there stay.
use Rattle.std.proofs.Common.{◌≡◌, ◌≤◌, length, take}
use Rattle.front_files.proofs.growing.fill_growing.Given as goal

abbrev pub invariant-loop : goal.invariant-loop
invariant-loop g l = (l.from ≤ l.at) × (l.from ≤ length l.initial.room.bytes.items → l.from ≤ length l.room.bytes.items) × (l.from ≤ length l.initial.room.bytes.items → take l.from l.room.bytes.items ≡ take l.from l.initial.room.bytes.items)
