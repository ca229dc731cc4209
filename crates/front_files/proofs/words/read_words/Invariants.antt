-- `read_words`: what is filled lies inside the room.
use Rattle.std.proofs.Common.{◌≤◌, length, ◌≡◌}
use Rattle.front_files.proofs.words.read_words.Given as goal

abbrev pub invariant-loop-i : goal.invariant-loop-i
invariant-loop-i g l = (length l.room ≡ length l.initial.room) × (l.at ≤ length l.initial.room)
