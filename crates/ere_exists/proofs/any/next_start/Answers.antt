-- `next_start` meets its contract: the run from `from` on goes to i and on from there.
use mathlib.Core.Path.{sym, ap, ◌∙◌}
use mathlib.Core.Bool.{not}
use native.Mathlib.Omega.{arith}
use Rattle.lists.proofs.Leading.{leading-more, leading-stop, leading_end}
use Rattle.ere_exists.specs.Any.{no_start}
use Rattle.ere_exists.proofs.any.next_start.Goals as goal

pub returns-then-may_begin : goal.returns-then-may_begin
returns-then-may_begin c =
    let a = c.args in
    let l = c.loop-i in
    omega (arith, l.invariant, leading-stop (no_start a.t.now a.empty) a.text.now l.i (omega arith) (ap not (sym c.may_begin.ensures ∙ c.if-may_begin.true)))

pub loop-i-preserved : goal.loop-i-preserved
loop-i-preserved c =
    let a = c.args in
    let l = c.loop-i in
    omega (arith, l.invariant, leading-more (no_start a.t.now a.empty) a.text.now l.i (omega arith) (ap not (sym c.may_begin.ensures ∙ c.if-may_begin.false)))

pub returns : goal.returns
returns c =
    let a = c.args in
    let l = c.loop-i in
    omega (arith, l.invariant, leading_end (no_start a.t.now a.empty) a.text.now l.i (omega arith))
