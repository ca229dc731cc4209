-- The number and the text of a value, and what arithmetic and field numbers give.
use mathlib.Core.Path.{◌≡◌, refl}
use mathlib.Core.List.{List, []}
use Prim.Native.Nat.{ℕ, ◌≤◌, ◌<◌}
use lib.IntN.{ℤ, pos, negsuc, neg_ℤ, nat_abs, ◌+ℤ◌, ◌-ℤ◌, ◌*ℤ◌}
use borrow.Author.Tests.{le-leb, lt-leb}
use Rattle.edition.specs.Limits.{number_bound, field_count}
use Rattle.edition.specs.Outcomes.{number_not_whole, divisor_zero, bad_field_number}
use Rattle.number.specs.Range.{InRange, ranged}
use Rattle.number.specs.Arithmetic.{Division, sum_of, difference_of, product_of}
use Rattle.number.proofs.Bias.{ranged-in, ranged-out}
use Rattle.number.proofs.Division.{divide-exact, divide-inexact, remainder_is, divide-by-zero, remainder-by-zero}
use Rattle.number.proofs.Division.{negation-is}
use Rattle.numeral.specs.Judgement.{number_of as text_number}
use Rattle.decimals.specs.Decimal.{decimal_text}
use Rattle.image_format.specs.Codes.{Arithmetic, add, subtract, multiply, divide, remainder}
use Rattle.values.specs.Value.{Value, unset, number, text, field_text, Stop, gives, stops, result, text_of}
use Rattle.values.specs.Value.{number_of}
use Rattle.values.specs.Operations.{computed, arithmetic_of, negate_of, to_number_of, field_number}
use Rattle.values.specs.Explained.{stops_with, Ranged}

-- ---- "Numbers become plain decimal. Unset is 0 and \"\"."

pub unset-is : (number_of unset ≡ gives (pos 0)) × (text_of unset ≡ [])
unfolding number_of text_of
unset-is = (refl, refl)

pub number_is : (z : ℤ) → (number_of (number z) ≡ gives z) × (text_of (number z) ≡ decimal_text z)
unfolding number_of text_of
number_is z = (refl, refl)

pub text-is : (l : List ℕ) → (number_of (text l) ≡ result (text_number l)) × (text_of (text l) ≡ l)
unfolding number_of text_of
text-is l = (refl, refl)

pub field-text-is : (l : List ℕ) → (number_of (field_text l) ≡ result (text_number l)) × (text_of (field_text l) ≡ l)
unfolding number_of text_of
field-text-is l = (refl, refl)

-- ---- "left operand before right"

module _ (o : Arithmetic) (a b : Value) where
  pub arithmetic-stops-left : {s : Stop} → number_of a ≡ stops s → arithmetic_of o a b ≡ stops s
  unfolding arithmetic_of
  arithmetic-stops-left p = rw p

  pub arithmetic-stops-right : {x : ℤ} {s : Stop} → number_of a ≡ gives x → number_of b ≡ stops s
      → arithmetic_of o a b ≡ stops s
  unfolding arithmetic_of
  arithmetic-stops-right p q = rw (p, q)

-- ---- "Results out of range: 11."

module _ (a b : Value) {x y : ℤ} (p : number_of a ≡ gives x) (q : number_of b ≡ gives y) where
  ranged-is : (o : Arithmetic) (z : ℤ) → computed o x y ≡ ranged z → Ranged z (arithmetic_of o a b)
  unfolding arithmetic_of
  ranged-is o z e =
      record {
        in-range = λ h. rw (p, q, e, ranged-in z (le-leb (nat_abs z) number_bound h));
        out_of_range = λ h. rw (p, q, e, ranged-out z (lt-leb (nat_abs z) number_bound h));
      }

  pub add_is : Ranged (x +ℤ y) (arithmetic_of add a b)
  unfolding sum_of
  add_is = ranged-is add (x +ℤ y) refl

  pub subtract-is : Ranged (x -ℤ y) (arithmetic_of subtract a b)
  unfolding difference_of
  subtract-is = ranged-is subtract (x -ℤ y) refl

  pub multiply-is : Ranged (x *ℤ y) (arithmetic_of multiply a b)
  unfolding product_of
  multiply-is = ranged-is multiply (x *ℤ y) refl

  -- ---- "Inexact `/`: 12. `%` takes the sign of the left operand, or is 0.": the quotient and the remainder of
  -- the one division there is

  module _ {m r : ℤ} (d : Division x y m r) where
    pub quotient-exact : InRange x → r ≡ pos 0 → arithmetic_of divide a b ≡ gives (number m)
    unfolding arithmetic_of
    quotient-exact h e = rw (p, q, divide-exact d h e)

    pub quotient-inexact : (r ≡ pos 0 → ⊥) → arithmetic_of divide a b ≡ stops_with number_not_whole
    unfolding arithmetic_of
    quotient-inexact n = rw (p, q, divide-inexact d n)

    pub remainder-gives : InRange x → arithmetic_of remainder a b ≡ gives (number r)
    unfolding arithmetic_of
    remainder-gives h = rw (p, q, remainder_is d h)

  pub quotient-by-zero : y ≡ pos 0 → arithmetic_of divide a b ≡ stops_with divisor_zero
  unfolding arithmetic_of
  quotient-by-zero e = rw (p, q, e, divide-by-zero x)

  pub remainder-zero : y ≡ pos 0 → arithmetic_of remainder a b ≡ stops_with divisor_zero
  unfolding arithmetic_of
  remainder-zero e = rw (p, q, e, remainder-by-zero x)

-- ---- negate, to number

module _ (a : Value) where
  pub negate-is : {x : ℤ} → number_of a ≡ gives x → InRange x → negate_of a ≡ gives (number (neg_ℤ x))
  unfolding negate_of
  negate-is {x} p h = rw (p, negation-is x h)

  pub negate-stops : {s : Stop} → number_of a ≡ stops s → negate_of a ≡ stops s
  unfolding negate_of
  negate-stops p = rw p

  pub to-number-is : {x : ℤ} → number_of a ≡ gives x → to_number_of a ≡ gives (number x)
  unfolding to_number_of
  to-number-is p = rw p

  pub to-number-stops : {s : Stop} → number_of a ≡ stops s → to_number_of a ≡ stops s
  unfolding to_number_of
  to-number-stops p = rw p

  -- ---- field numbers: 16 exactly outside 0 to 128

  pub field-number-is : {k : ℕ} → number_of a ≡ gives (pos k) → k ≤ field_count → field_number a ≡ gives k
  unfolding field_number
  field-number-is {k} p h = rw (p, le-leb k field_count h)

  pub field-number-over : {k : ℕ} → number_of a ≡ gives (pos k) → field_count < k
      → field_number a ≡ stops_with bad_field_number
  unfolding field_number
  field-number-over {k} p h = rw (p, lt-leb k field_count h)

  pub field-number-negative : {k : ℕ} → number_of a ≡ gives (negsuc k) → field_number a ≡ stops_with bad_field_number
  unfolding field_number
  field-number-negative p = rw p

  pub field-number-stops : {s : Stop} → number_of a ≡ stops s → field_number a ≡ stops s
  unfolding field_number
  field-number-stops p = rw p
