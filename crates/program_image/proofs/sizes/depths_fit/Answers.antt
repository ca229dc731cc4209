-- `depths_fit`: the instructions that are left say what all do.
use mathlib.Core.Path.{refl, sym, ◌∙◌}
use native.Mathlib.Omega.{arith}
use Rattle.program_image.proofs.Judged.{depth-over, depth-within, depth-end}
use Rattle.program_image.proofs.sizes.depths_fit.Goals as goal

pub loop-i-init : goal.loop-i-init
loop-i-init c = (omega arith, refl)

pub bounds-section-i : goal.bounds-section-i
bounds-section-i c = omega (arith, c.loop-i-test.true, c.requires)

pub returns-then-depth_in : goal.returns-then-depth_in
returns-then-depth_in c =
    let a = c.args in
    let p = c.requires in
    let l = c.loop-i in
    let below = c.loop-i-test.true in
    let over = depth-over a.section.now l.i a.count below p in
    sym (l.invariant.1 ∙ over (omega (arith, c.if-depth_in.true, c.depth_in.ensures)))

pub loop-i-preserved : goal.loop-i-preserved
loop-i-preserved c =
    let a = c.args in
    let p = c.requires in
    let l = c.loop-i in
    let below = c.loop-i-test.true in
    let within = depth-within a.section.now l.i a.count below p in
    (omega (arith, below), l.invariant.1 ∙ within (omega (arith, c.if-depth_in.false, c.depth_in.ensures)))

pub returns : goal.returns
returns c =
    let a = c.args in
    let l = c.loop-i in
    sym (l.invariant.1 ∙ depth-end a.section.now l.i a.count c.loop-i-test.false)
