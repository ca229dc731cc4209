use mathlib.Core.Path.{sym, ◌∙◌}
use Rattle.lists.proofs.Tests.{clash}
use Rattle.ere_sets.proofs.sets.is_fair.Goals as goal

pub returns-then-has : goal.returns-then-has
returns-then-has c = λ e. record { fair = λ h. sym c.has-then-has.ensures ∙ e }

pub returns : goal.returns
returns c = λ e. record { fair = λ h. absurd (clash (sym h ∙ sym c.has.ensures ∙ c.if-has.false)) }
