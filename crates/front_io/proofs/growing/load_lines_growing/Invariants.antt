-- `load_lines_growing`: each turn takes one word more, and what is filled lies inside the room.
use Rattle.std.proofs.Common.{◌≤◌, ◌-◌, length}
use Rattle.front_io.proofs.growing.load_lines_growing.Given as goal

abbrev pub invariant-loop-place : goal.invariant-loop-place
invariant-loop-place l = l.at ≤ length l.room.bytes.items

abbrev pub decreases-loop-place : goal.decreases-loop-place
decreases-loop-place l = length l.block - l.place
