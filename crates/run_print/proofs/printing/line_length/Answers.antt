-- `line_length` meets its contract: the invariant is that the sum is the length of the texts so far.
use native.Mathlib.Omega.{arith}
use Rattle.run_print.proofs.Joined.{counted-first, counted_next, counted-all}
use Rattle.run_print.proofs.printing.line_length.Goals as goal

pub loop-i-init : goal.loop-i-init
loop-i-init c =
    let a = c.args in
    let p = c.requires in
    counted-first a.work.now _ a.first a.n a.between c.show-sum.result
    p.0 p.1 p.2 p.3 c.show-sum.ensures

pub overflow_add-sum : goal.overflow_add-sum
overflow_add-sum c =
    omega (arith, c.loop-i.invariant.most, c.requires.3.most)

pub show-requires : goal.show-requires
show-requires c =
    (omega (arith, c.show-sum.ensures.slotted.outside.size, c.loop-i.invariant.kept.size), omega arith)

pub overflow_add-sum-in-loop-i : goal.overflow_add-sum-in-loop-i
overflow_add-sum-in-loop-i c =
    omega (arith, c.loop-i.invariant.most, c.requires.3.most, c.show.ensures.most)

pub loop-i-preserved : goal.loop-i-preserved
loop-i-preserved c =
    let a = c.args in
    let p = c.requires in
    let i = c.loop-i in
    counted_next a.work.now _ a.first a.n a.between c.show-sum.result
    p.0 p.1 p.2 p.3 c.show-sum.ensures
    i.work _ i.i c.show.result i.sum i.invariant c.loop-i-test.true c.show.ensures

pub returns : goal.returns
returns c =
    let a = c.args in
    let p = c.requires in
    let i = c.loop-i in
    counted-all a.work.now _ a.first a.n a.between c.show-sum.result
    p.0 p.1 p.2 p.3 c.show-sum.ensures
    i.work i.i i.sum i.invariant c.loop-i-test.false
