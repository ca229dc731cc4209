use borrow.Author.Tests.{not-true, not-false}
use mathlib.Core.Path.{sym, ◌∙◌}
use native.Mathlib.Omega.{arith}
use Rattle.lists.proofs.Leading.{leading-more, leading-stop, leading_end}
use Rattle.numeral.specs.Form.{is_blank}
use Rattle.numeral.proofs.digits.count_blanks.Goals as goal
use mathlib.Core.Path.{ap}
use mathlib.Core.Bool.{not}

pub returns-then-not-is_blank : goal.returns-then-not-is_blank
returns-then-not-is_blank c = omega (arith, leading-stop is_blank c.args.t.now c.loop-k.k (omega arith) (sym c.is_blank.ensures ∙ not-true _ (ap not c.if-not-is_blank.true)))

pub loop-k-preserved : goal.loop-k-preserved
loop-k-preserved c = omega (arith, leading-more is_blank c.args.t.now c.loop-k.k (omega arith) (sym c.is_blank.ensures ∙ not-false _ (ap not c.if-not-is_blank.false)))

pub returns : goal.returns
returns c = omega (arith, leading_end is_blank c.args.t.now c.loop-k.k (omega arith))
