-- The cases of `/` and `%`.
use mathlib.Core.Path.{◌≡◌}
use lib.IntN.{ℤ, nat_abs}
use lib.Signed.{quot_z, rem_z}
use borrow.Author.Tests.{eq-eqb, ne_eqb}
use Rattle.edition.specs.Outcomes.{number_not_whole, divisor_zero}
use Rattle.number.specs.Range.{stop, ranged}
use Rattle.number.specs.Arithmetic.{quotient_of, remainder_of}

module _ (a b : ℤ) where
  pub quotient-zero : nat_abs b ≡ 0 → quotient_of a b ≡ stop divisor_zero
  unfolding quotient_of
  quotient-zero h = simp (eq-eqb _ _ h)

  pub quotient-exact : (nat_abs b ≡ 0 → ⊥) → nat_abs (rem_z a b) ≡ 0 → quotient_of a b ≡ ranged (quot_z a b)
  unfolding quotient_of
  quotient-exact h k = simp (ne_eqb _ _ h, eq-eqb _ _ k)

  pub quotient-inexact : (nat_abs b ≡ 0 → ⊥) → (nat_abs (rem_z a b) ≡ 0 → ⊥) → quotient_of a b ≡ stop number_not_whole
  unfolding quotient_of
  quotient-inexact h k = simp (ne_eqb _ _ h, ne_eqb _ _ k)

  pub remainder-zero : nat_abs b ≡ 0 → remainder_of a b ≡ stop divisor_zero
  unfolding remainder_of
  remainder-zero h = simp (eq-eqb _ _ h)

  pub remainder-some : (nat_abs b ≡ 0 → ⊥) → remainder_of a b ≡ ranged (rem_z a b)
  unfolding remainder_of
  remainder-some h = simp (ne_eqb _ _ h)
