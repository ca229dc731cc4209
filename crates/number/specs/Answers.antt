-- Internal: cited by private contracts only. What each case of an answer says: document 01's number and value.
use Rattle.std.specs.Prelude.{◌≡◌, ◌≤◌, ℕ, Result, Ok, Err, IfOk}
use Rattle.edition.specs.Outcomes.{number_out_of_range, number_not_whole, divisor_zero}
use Rattle.number.specs.Range.{Answer, number, stop, unbias, top}
use Rattle.number.specs.declared.arithmetic.Stop.{Stop}
use Rattle.number.specs.declared.arithmetic.Stop.TheVariants.{OutOfRange, NotWhole, ZeroDivisor}

abbrev pub outcome_of : Stop → ℕ
outcome_of OutOfRange = number_out_of_range
outcome_of NotWhole = number_not_whole
outcome_of ZeroDivisor = divisor_zero

abbrev pub answer_of : Result ℕ Stop → Answer
answer_of (Ok w) = number (unbias w)
answer_of (Err s) = stop (outcome_of s)

-- a number that is handed on is one of the edition
abbrev pub Bounded : Result ℕ Stop → Type 0
Bounded r = IfOk r (λ w. w ≤ top)

-- r is the answer a
pub record Computes (r : Result ℕ Stop) (a : Answer) : Type 0 where
  pub answer : answer_of r ≡ a
  pub bounded : Bounded r
