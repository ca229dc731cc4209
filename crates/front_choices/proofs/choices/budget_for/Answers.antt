-- `budget_for`, by its test.
use borrow.Author.Tests.{eq-eqb, ne_eqb}
use mathlib.Core.Path.{ap, ◌∙◌}
use Rattle.front_options.specs.Budgets.{budget_of}
use Rattle.front_choices.specs.Choices.{budget_for}
use Rattle.front_choices.proofs.choices.budget_for.Goals as goal

pub returns-then-k-eq0 : goal.returns-then-k-eq0
unfolding budget_for
returns-then-k-eq0 c = simp (eq-eqb _ _ c.if-k-eq0.true)

pub returns : goal.returns
unfolding budget_for
returns c = simp (ne_eqb _ _ c.if-k-eq0.false) (c.read_budget.ensures ∙ ap budget_of c.word.ensures)
