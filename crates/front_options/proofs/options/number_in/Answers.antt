-- `number_in`: what was passed, and the number among the words that are left.
use native.Mathlib.Omega.{arith}
use Rattle.front_options.proofs.Walking.{number-here, number-on, number-end}
use Rattle.front_options.proofs.options.number_in.Goals as goal

pub slice_bounds-equal-count : goal.slice_bounds-equal-count
slice_bounds-equal-count c = omega arith

pub returns-then-equal : goal.returns-then-equal
returns-then-equal c =
    let a = c.args in
    omega (arith, c.loop-at.invariant.2, number-here a.block.now a.word.now c.loop-at.at _ c.word_at-w.ensures c.equal.ensures c.if-equal.true)

pub overflow_add-k : goal.overflow_add-k
overflow_add-k c = omega arith

pub loop-at-smaller : goal.loop-at-smaller
loop-at-smaller c = omega (arith, c.word_at-w.ensures.further, c.word_at-w.ensures.within)

pub loop-at-preserved : goal.loop-at-preserved
loop-at-preserved c =
    let a = c.args in
    let e = c.word_at-w.ensures in
    (e.within, omega (arith, e.further), omega (arith, c.loop-at.invariant.2, number-on a.block.now a.word.now c.loop-at.at _ e c.equal.ensures c.if-equal.false))

pub returns : goal.returns
returns c =
    let a = c.args in
    omega (arith, c.loop-at.invariant.2, number-end a.block.now a.word.now c.loop-at.at c.loop-at-test.false)
