-- `left_out`: bytes go as long as the rest takes too many columns, which are counted down.
use native.Mathlib.Omega.{arith}
use Rattle.front_places.proofs.Widths.{columns-next, out-next, out-stop, out-end}
use Rattle.front_places.proofs.shown.left_out.Goals as goal

pub returns-then-rest-most : goal.returns-then-rest-most
returns-then-rest-most c =
    let a = c.args in
    (omega (arith, out-stop a.s.now a.most c.loop-i.i c.loop-i-test.true (omega arith)), omega arith)

pub overflow_sub-rest : goal.overflow_sub-rest
overflow_sub-rest c = omega (arith, columns-next c.args.s.now c.loop-i.i c.loop-i-test.true, c.width-rest.ensures.0)

pub loop-i-preserved : goal.loop-i-preserved
loop-i-preserved c =
    let a = c.args in
    let s = a.s.now in
    let h = columns-next s c.loop-i.i c.loop-i-test.true in
    let o = out-next s a.most c.loop-i.i c.loop-i-test.true (omega arith) in
    (omega (arith, h, c.width-rest.ensures.0), omega (arith, o))

pub returns : goal.returns
returns c = (omega (arith, out-end c.args.s.now c.args.most c.loop-i.i c.loop-i-test.false), omega arith)
