-- Each frame that is counted leaves fewer.
use borrow.Author.Rules.{rules}
use Rattle.vectors_frames.proofs.Counting.{left-fewer}
use Rattle.vectors.proofs.walk.walk.Goals as goal

pub loop-tally-smaller : goal.loop-tally-smaller
loop-tally-smaller g c = left-fewer c.loop-tally.tally _ c.look.result c.counted-tally.ensures (search rules)
