-- `ere_close`: what is left of the text closes where the whole does.
use mathlib.Core.Path.{refl, sym, ◌∙◌}
use native.Mathlib.Omega.{arith}
use Rattle.program_scanner.proofs.Closing.{ere-newline, ere-closed, ere-more, ere-end}
use Rattle.program_scanner.proofs.closings.ere_close.Goals as goal

pub loop-i-init : goal.loop-i-init
loop-i-init c = refl

pub returns-then-b-eq10 : goal.returns-then-b-eq10
returns-then-b-eq10 c =
    let a = c.args in
    let l = c.loop-i in
    sym (l.invariant ∙ ere-newline a.s.now l.i l.escaped (omega arith) c.if-b-eq10.true)

pub returns-then-escaped-b : goal.returns-then-escaped-b
returns-then-escaped-b c =
    let a = c.args in
    let if1 = c.if-b-eq10 in
    let l = c.loop-i in
    sym (l.invariant ∙ ere-closed a.s.now l.i l.escaped (omega arith) if1.false c.if-escaped-b.true)

pub loop-i-smaller : goal.loop-i-smaller
loop-i-smaller c = omega arith

pub loop-i-preserved : goal.loop-i-preserved
loop-i-preserved c =
    let a = c.args in
    let if1 = c.if-b-eq10 in
    let l = c.loop-i in
    l.invariant ∙ ere-more a.s.now l.i l.escaped (omega arith) if1.false c.if-escaped-b.false

pub returns : goal.returns
returns c =
    let l = c.loop-i in
    sym (l.invariant ∙ ere-end c.args.s.now l.i l.escaped (omega arith))
