use Rattle.ere_classes.proofs.Columns.{up_to}
use Rattle.ere_classes.proofs.Bounded.{follows_on}
use Rattle.ere_classes.proofs.hull.seconds.Goals as goal

pub loop-c-preserved : goal.loop-c-preserved
loop-c-preserved c = up_to c.loop-c.c (λ x h. follows_on c.seconds_of-out.result c.requires.1 c.seconds_of-out.ensures.keeps (c.loop-c.invariant x h)) c.seconds_of-out.ensures.follows
