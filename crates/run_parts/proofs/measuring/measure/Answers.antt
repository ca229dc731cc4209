-- `measure` meets its contract: the size of the fields so far.
use native.Mathlib.Omega.{arith}
use lib.ListN.{length}
use mathlib.Core.Path.{ap, ◌∙◌}
use Prim.Native.Nat.{◌-◌}
use Rattle.values.specs.Value.{Value, text_of}
use Rattle.run_parts.proofs.Measured.{sum-none, measured-big, measured-over, measured-more, measured-end}
use Rattle.run_parts.proofs.measuring.measure.Goals as goal

pub loop-i-init : goal.loop-i-init
loop-i-init c = let a = c.args in (omega arith, omega arith, sum-none a.work.now a.line a.k a.v a.n)

pub field_part-p-requires : goal.field_part-p-requires
field_part-p-requires c = (c.requires.0, c.requires.1, omega (arith, c.loop-i-test.true, c.requires.2), c.requires.3)

pub text_length-m-requires : goal.text_length-m-requires
text_length-m-requires c = tt

pub overflow_add-result : goal.overflow_add-result
overflow_add-result c = omega arith

pub returns-then-m-gt-TEXT : goal.returns-then-m-gt-TEXT
returns-then-m-gt-TEXT c =
    let a = c.args in
    let p = c.requires in
    let f = c.field_part-p.ensures in
    let m = c.text_length-m.ensures a.work.now (omega (arith, (f.1 (1 - a.line.side) (omega (arith, p.1.side))).fits, p.0)) ∙ ap (λ (q : Value). length (text_of q)) f.0 in
    measured-big a.work.now a.line a.k a.v a.n c.loop-i.i a.count c.loop-i.sum c.text_length-m.result c.loop-i.invariant.2 m c.loop-i-test.true c.if-m-gt-TEXT.true

pub gap_length-requires : goal.gap_length-requires
gap_length-requires c = tt

pub overflow_add-sum : goal.overflow_add-sum
overflow_add-sum c = omega (arith, c.loop-i.invariant.1, c.gap_length.ensures.0, c.requires.4)

pub overflow_add-sum-in-loop-i : goal.overflow_add-sum-in-loop-i
overflow_add-sum-in-loop-i c = omega (arith, c.loop-i.invariant.1, c.gap_length.ensures.0, c.requires.4, c.if-m-gt-TEXT.false)

pub overflow_add-result-then-sum-gt-TEXT : goal.overflow_add-result-then-sum-gt-TEXT
overflow_add-result-then-sum-gt-TEXT c = omega arith

pub returns-then-sum-gt-TEXT : goal.returns-then-sum-gt-TEXT
returns-then-sum-gt-TEXT c =
    let a = c.args in
    let p = c.requires in
    let f = c.field_part-p.ensures in
    let m = c.text_length-m.ensures a.work.now (omega (arith, (f.1 (1 - a.line.side) (omega (arith, p.1.side))).fits, p.0)) ∙ ap (λ (q : Value). length (text_of q)) f.0 in
    measured-over a.work.now a.line a.k a.v a.n c.loop-i.i a.count c.loop-i.sum c.text_length-m.result c.loop-i.invariant.2 m c.loop-i-test.true c.gap_length.result c.gap_length.ensures.1 c.if-sum-gt-TEXT.true

pub loop-i-preserved : goal.loop-i-preserved
loop-i-preserved c =
    let a = c.args in
    let p = c.requires in
    let f = c.field_part-p.ensures in
    let m = c.text_length-m.ensures a.work.now (omega (arith, (f.1 (1 - a.line.side) (omega (arith, p.1.side))).fits, p.0)) ∙ ap (λ (q : Value). length (text_of q)) f.0 in
    (omega (arith, c.loop-i-test.true), c.if-sum-gt-TEXT.false, measured-more a.work.now a.line a.k a.v a.n c.loop-i.i a.count c.loop-i.sum c.text_length-m.result c.loop-i.invariant.2 m c.loop-i-test.true c.gap_length.result c.gap_length.ensures.1)

pub returns : goal.returns
returns c =
    let a = c.args in
    let p = c.requires in
    measured-end a.work.now a.line a.k a.v a.n c.loop-i.i a.count c.loop-i.sum (omega (arith, c.loop-i-test.false, c.loop-i.invariant.0)) c.loop-i.invariant.1 c.loop-i.invariant.2
