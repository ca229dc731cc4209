-- `fill`: what is filled lies inside the room, and the bytes that were there stay.
use Rattle.std.proofs.Common.{◌≡◌, ◌≤◌, length, take}
use Rattle.front_files.proofs.reading.fill.Given as goal

abbrev pub invariant-loop : goal.invariant-loop
invariant-loop g l = (length l.room ≡ length l.initial.room) × (l.size ≡ length l.initial.room) × (l.from ≤ l.at) × (take l.from l.room ≡ take l.from l.initial.room)
