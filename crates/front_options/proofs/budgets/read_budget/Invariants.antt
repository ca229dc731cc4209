-- `read_budget`: the number so far, and the digits that are left.
use mathlib.Core.Path.{◌≡◌}
use lib.ListN.{drop}
use Rattle.front_options.specs.Budgets.{digits_from, budget_of}
use Rattle.front_options.proofs.budgets.read_budget.Given as goal

abbrev pub invariant-loop-b : goal.invariant-loop-b
invariant-loop-b l = budget_of l.word ≡ digits_from (drop l.b-index l.word) l.value
