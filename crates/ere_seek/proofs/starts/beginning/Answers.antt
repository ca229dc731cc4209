-- `beginning` meets its contract: each byte before i leads to the state in which nothing may come next.
use mathlib.Core.Path.{◌≡◌, sym, subst, ◌∙◌}
use native.Mathlib.Omega.{arith}
use borrow.Author.Tests.{eqb-true, not-false}
use lib.ListN.{length}
use Rattle.ere_seek.specs.Starts.{Passed}
use Rattle.ere_seek.proofs.Bareness.{passed_none, passed-more}
use Rattle.ere_seek.proofs.starts.beginning.Goals as goal

pub loop-i-init : goal.loop-i-init
loop-i-init c = passed_none _ _ _ c.requires.1

pub loop-i-preserved : goal.loop-i-preserved
loop-i-preserved c =
    let l = c.loop-i in
    let off = eqb-true _ _ (not-false _ (sym c.begins.ensures ∙ c.if-begins.false)) in
    passed-more c.args.d.now c.args.x.now c.args.from l.i l.invariant
    (omega arith) off

pub returns : goal.returns
returns c =
    let a = c.args in
    let z : c.loop-i.i ≡ length a.x.now = omega arith in
    subst (Passed a.d.now a.x.now a.from) z c.loop-i.invariant
