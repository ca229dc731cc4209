-- `since_newline`: with what is counted, what is left gives the same as the text.
use native.Mathlib.Omega.{arith}
use Rattle.front_places.proofs.Counting.{since-next, since-end}
use Rattle.front_places.proofs.place.since_newline.Goals as goal

pub since-n-requires : goal.since-n-requires
since-n-requires c = omega arith

pub loop-b-preserved : goal.loop-b-preserved
loop-b-preserved c =
    (omega arith, since-next c.args.s.now _ _ _ c.loop-b-test.true c.loop-b.invariant.1 c.since-n.ensures.0)

pub returns : goal.returns
returns c = (omega (arith, c.loop-b.invariant.1, since-end c.args.s.now c.loop-b.b-index c.loop-b.n c.loop-b-test.false), omega arith)
