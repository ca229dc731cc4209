-- `next_of` meets its contract: what comes next after a byte of each class up to c is in `out`.
use Rattle.ere_classes.proofs.Reaching.{nexts-more}
use Rattle.ere_classes.proofs.reach.next_of.Goals as goal

pub loop-c-preserved : goal.loop-c-preserved
loop-c-preserved c =
    let a = c.args in
    let l = c.loop-c in
    nexts-more a.t.now a.bytes.now l.c a.s l.out c.step.result c.union-next.result c.step.ensures c.union-next.ensures l.invariant
