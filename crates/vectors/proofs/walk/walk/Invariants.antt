-- `vectors::walk::walk` is safe and ends. The invariant: the room keeps its length. The measure is the number of frames
-- that may be left.
use mathlib.Core.Path.{◌≡◌}
use lib.ListN.{length}
use Rattle.vectors.proofs.walk.walk.Given as goal

abbrev pub invariant-loop-tally : goal.invariant-loop-tally
invariant-loop-tally g l = length l.room ≡ length l.initial.room

abbrev pub decreases-loop-tally : goal.decreases-loop-tally
decreases-loop-tally g l = l.tally.left
