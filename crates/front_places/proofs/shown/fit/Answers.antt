-- `fit`: bytes are taken as long as the columns that are left have room for the next.
use native.Mathlib.Omega.{arith}
use Rattle.front_places.proofs.Widths.{fit-more, fit-stop, fit-end}
use Rattle.front_places.proofs.shown.fit.Goals as goal

pub returns-then-rest-w : goal.returns-then-rest-w
returns-then-rest-w c =
    (omega (arith, fit-stop c.args.s.now c.loop-i.rest c.loop-i.i c.loop-i-test.true (omega (arith, c.width-w.ensures.0))), omega arith)

pub loop-i-preserved : goal.loop-i-preserved
loop-i-preserved c = fit-more c.args.s.now _ c.loop-i-test.true c.width-w.ensures.0 (omega arith) c.loop-i.invariant

pub returns : goal.returns
returns c = (omega (arith, fit-end c.args.s.now c.loop-i.rest c.loop-i.i c.loop-i-test.false), omega arith)
