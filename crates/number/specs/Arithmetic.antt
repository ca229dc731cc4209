-- Document 01, "Values": the operators. 13 comes before 12.
use Rattle.std.specs.Prelude.{◌≡◌, ◌⊎◌, Bool, true, false, cond, ◌<◌, ℤ, pos, negsuc, neg_ℤ, nat_abs, ◌+ℤ◌, ◌-ℤ◌, ◌*ℤ◌, eqb}
use Rattle.std.specs.Int.Signed.{quot_z, rem_z}
use Rattle.edition.specs.Outcomes.{number_not_whole, divisor_zero}
use Rattle.number.specs.Range.{Answer, stop, ranged}

unfoldable pub sum_of : ℤ → ℤ → Answer
sum_of a b = ranged (a +ℤ b)

unfoldable pub difference_of : ℤ → ℤ → Answer
difference_of a b = ranged (a -ℤ b)

unfoldable pub product_of : ℤ → ℤ → Answer
product_of a b = ranged (a *ℤ b)

abbrev pub is_zero : ℤ → Bool
is_zero z = eqb (nat_abs z) 0

-- "Inexact `/`: 12."
unfoldable pub quotient_of : ℤ → ℤ → Answer
quotient_of a b = cond (is_zero b) (stop divisor_zero)
    (cond (is_zero (rem_z a b)) (ranged (quot_z a b)) (stop number_not_whole))

-- "`%` takes the sign of the left operand, or is 0."
unfoldable pub remainder_of : ℤ → ℤ → Answer
remainder_of a b = cond (is_zero b) (stop divisor_zero) (ranged (rem_z a b))

unfoldable pub negation_of : ℤ → Answer
negation_of a = ranged (neg_ℤ a)

-- What quotient and remainder are, without naming an operation of the machine: proofs/Division.antt shows that `quot_z`
-- and `rem_z` are these, and that no other pair is.
abbrev pub negative : ℤ → Bool
negative (pos n) = false
negative (negsuc n) = true

pub record Division (a b q r : ℤ) : Type 0 where
  pub whole : a ≡ b *ℤ q +ℤ r
  pub small : nat_abs r < nat_abs b
  pub sign : (r ≡ pos 0) ⊎ (negative r ≡ negative a)
