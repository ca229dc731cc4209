-- `load_lines`: each turn takes one word more, and what is filled lies inside the room.
use Rattle.std.proofs.Common.{◌≡◌, ◌≤◌, ◌-◌, length}
use Rattle.front_io.proofs.loading.load_lines.Given as goal

abbrev pub invariant-loop-place : goal.invariant-loop-place
invariant-loop-place l = (length l.room ≡ length l.initial.room) × (l.at ≤ length l.initial.room)

abbrev pub decreases-loop-place : goal.decreases-loop-place
decreases-loop-place l = length l.block - l.place
