-- `constants_fit`: the entries that are left say what all do.
use mathlib.Core.Path.{sym, ◌∙◌}
use native.Mathlib.Omega.{arith}
use borrow.Author.Tests.{not-true, not-false}
use Rattle.program_image.proofs.Judged.{small-start, small-over, small-within, small-end}
use Rattle.program_image.proofs.sizes.constants_fit.Goals as goal
use mathlib.Core.Path.{ap}
use mathlib.Core.Bool.{not}

pub loop-k-init : goal.loop-k-init
loop-k-init c =
    let a = c.args in
    (omega arith, small-start a.s.now a.table.now a.n)

pub constant_fits-requires : goal.constant_fits-requires
constant_fits-requires c =
    let below = c.loop-k-test.true in
    let p = c.requires in
    (omega (arith, below, p.0), p.1 c.loop-k.k below)

pub returns-then-not-constant_fits : goal.returns-then-not-constant_fits
returns-then-not-constant_fits c =
    let a = c.args in
    let l = c.loop-k in
    let f = c.constant_fits in
    let long = sym f.ensures ∙ not-true f.result (ap not c.if-not-constant_fits.true) in
    sym (l.invariant.1 ∙ small-over a.s.now a.table.now l.k a.n c.loop-k-test.true long)

pub loop-k-preserved : goal.loop-k-preserved
loop-k-preserved c =
    let a = c.args in
    let l = c.loop-k in
    let f = c.constant_fits in
    let below = c.loop-k-test.true in
    let short = sym f.ensures ∙ not-false f.result (ap not c.if-not-constant_fits.false) in
    (omega (arith, below), l.invariant.1 ∙ small-within a.s.now a.table.now l.k a.n below short)

pub returns : goal.returns
returns c =
    let a = c.args in
    let l = c.loop-k in
    sym (l.invariant.1 ∙ small-end a.s.now a.table.now l.k a.n c.loop-k-test.false)
