-- `columns`: what is counted, and the columns of what is left, are those of the list.
use native.Mathlib.Omega.{arith}
use Rattle.front_places.proofs.Widths.{columns-next, columns-end}
use Rattle.front_places.proofs.shown.columns.Goals as goal

pub overflow_add-n : goal.overflow_add-n
overflow_add-n c = omega arith

pub loop-b-preserved : goal.loop-b-preserved
loop-b-preserved c =
    let h = columns-next c.args.s.now c.loop-b.b-index c.loop-b-test.true in
    (omega arith, omega (arith, h, c.width-n.ensures.0))

pub returns : goal.returns
returns c = (omega (arith, columns-end c.args.s.now c.loop-b.b-index c.loop-b-test.false), omega arith)
