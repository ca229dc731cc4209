-- Document 01, "Sizes": "numbers -2^53 to 2^53".
use Rattle.std.specs.Prelude.{ℕ, ◌*◌, ◌≤◌, Bool, cond, ℤ, pos, nat_abs, ◌-ℤ◌, leb}
use Rattle.edition.specs.Limits.{number_bound}
use Rattle.edition.specs.Outcomes.{number_out_of_range}

-- z is a number of the edition; and the test of it
pub record InRange (z : ℤ) : Type 0 where
  pub within : nat_abs z ≤ number_bound

abbrev pub in_range : ℤ → Bool
in_range z = leb (nat_abs z) number_bound

-- a number, or the outcome that stops
pub data Answer : Type 0 where
  number : ℤ → Answer
  stop : ℕ → Answer

-- "Results out of range: 11."
unfoldable pub ranged : ℤ → Answer
ranged z = cond (in_range z) (number z) (stop number_out_of_range)

-- In code a number is its distance from the least number: this is the number at a distance, and the greatest distance.
unfoldable pub unbias : ℕ → ℤ
unbias w = pos w -ℤ pos number_bound

abbrev pub top : ℕ
top = 2 * number_bound
