-- `after`, by whether there is a number after k.
use Rattle.std.proofs.Common.{◌≡◌, ◌∙◌, ℕ, ◌+◌, ◌<◌, ◌^◌, arith}
use Rattle.std.specs.Prelude.{Option, Some, None, SomeIff}
use Rattle.std.specs.Option.{unwrap_or}
use borrow.Author.Tests.{lt-ltb, le-ltb}
use Rattle.front_options.specs.Budgets.{MOST}
use Rattle.front_choices.specs.Choices.{after}
use Rattle.front_choices.proofs.choices.after.Goals as goal

number-after : (k : ℕ) (r : Option ℕ) → SomeIff r (k + 1 < 2 ^ 64) (k + 1) → unwrap_or r 0 ≡ after k
number-after k None h = simp (le-ltb k MOST (omega (arith, h)))
number-after k (Some x) (h, e) = simp (lt-ltb k MOST (omega arith)) e

pub returns : goal.returns
returns c = c.unwrap_or.ensures ∙ number-after c.args.k _ c.checked_add.ensures
