-- The parts of a prefix: where each is, and the prefix's length by whether there is a point.
use mathlib.Core.Path.{◌≡◌, refl, sym, ap, ◌∙◌}
use mathlib.Core.Bool.{Bool, true, false, cond, false≢true}
use mathlib.Core.List.{List, []}
use Prim.Native.Nat.{ℕ, ◌+◌, ◌-◌, ◌≤◌, ◌<◌}
use native.Mathlib.Decide.{dec_le}
use native.Mathlib.Nat.{add-zero}
use native.Mathlib.Omega.{arith}
use lib.ListN.{length, get_or, take, drop, length-drop, get_or-eq_default}
use lib.Seq.{length-take-le}
use lib.Dec.{eqb}
use borrow.Author.Tests.{eqb-true}
use borrow.Rule.Slice.PartMut.{mid_of}
use Rattle.lists.proofs.Leading.{leading_le}
use Rattle.lists.specs.Elements.{leading}
use Rattle.buffer.proofs.Lent.{tail-lent}
use Rattle.numeral.specs.Form.{is_digit, is_sign, digits_from, sign_length, whole_digits, point_at, has_point, fraction_digits, prefix_length}
use Rattle.numeral.specs.Judgement.{digits_value}
use Rattle.numeral.specs.Capped.{capped, ReadsDigits}
use Rattle.numeral.specs.declared.digits.Digits.{Digits}

-- a byte that is not 0 is before the end
pub inside : (t : List ℕ) (k : ℕ) → (get_or t k 0 ≡ 0 → ⊥) → k < length t
inside t k h = elim (dec_le (k + 1) (length t)) [ yes p ↦ omega arith | no p ↦ absurd (h (get_or-eq_default t 0 {n = k} (omega arith))) ]

module _ (t : List ℕ) where
  pub length_digits : (a : ℕ) → length (digits_from a t) ≡ leading is_digit (drop a t)
  unfolding digits_from
  length_digits a = length-take-le (leading is_digit (drop a t)) (drop a t) (leading_le is_digit (drop a t))

  pub digits-inside : (a : ℕ) → a ≤ length t → a + length (digits_from a t) ≤ length t
  digits-inside a h = omega (arith, length_digits a, leading_le is_digit (drop a t), length-drop a t)

  -- what `read_digits` answers of the rest from index a on
  module _ (a : ℕ) (r : Digits) (reads : ReadsDigits r (mid_of a (length t - a) t)) where
    pub digits-counted : r.count ≡ length (digits_from a t)
    digits-counted = reads.counted ∙ ap (leading is_digit) (tail-lent t a) ∙ sym (length_digits a)

    pub digits-valued : r.value ≡ capped (digits_value (digits_from a t))
    unfolding digits_from
    digits-valued = reads.valued ∙ ap (λ (u : List ℕ). capped (digits_value (take (leading is_digit u) u))) (tail-lent t a)

  sign-by : (b : Bool) → is_sign (get_or t 0 0) ≡ b → cond b 1 0 ≤ length t
  sign-by true h = inside t 0 (λ e. false≢true (sym (ap is_sign e) ∙ h))
  sign-by false h = omega arith

  pub sign-inside : sign_length t ≤ length t
  unfolding sign_length
  sign-inside = sign-by (is_sign (get_or t 0 0)) refl

  pub point-inside : point_at t ≤ length t
  unfolding point_at whole_digits
  point-inside = digits-inside (sign_length t) sign-inside

  pub after-point : has_point t ≡ true → point_at t + 1 ≤ length t
  unfolding has_point
  after-point h = omega (arith, inside t (point_at t) (λ e. absurd (omega (arith, eqb-true (get_or t (point_at t) 0) 46 h))))

  -- without a point
  module _ (h : has_point t ≡ false) where
    pub fraction-none : fraction_digits t ≡ []
    unfolding fraction_digits
    fraction-none = rw h

    pub prefix-unpointed : prefix_length t ≡ cond (eqb (length (whole_digits t)) 0) 0 (point_at t)
    unfolding prefix_length
    prefix-unpointed = simp (fraction-none, h, add-zero)

  -- with one
  module _ (h : has_point t ≡ true) where
    pub fraction-some : fraction_digits t ≡ digits_from (point_at t + 1) t
    unfolding fraction_digits
    fraction-some = rw h

    pub prefix-pointed : prefix_length t ≡ cond (eqb (length (whole_digits t) + length (fraction_digits t)) 0) 0 (point_at t + 1 + length (fraction_digits t))
    unfolding prefix_length
    prefix-pointed = simp h

  prefix-by : (b : Bool) (p : ℕ) → p ≤ length t → cond b 0 p ≤ length t
  prefix-by true p h = omega arith
  prefix-by false p h = h

  point-by : (b : Bool) → has_point t ≡ b → prefix_length t ≤ length t
  point-by true e =
      let f = ap length (fraction-some e) in
      let h : point_at t + 1 + length (fraction_digits t) ≤ length t = omega (arith, digits-inside (point_at t + 1) (after-point e)) in
      rw (prefix-pointed e) (prefix-by (eqb (length (whole_digits t) + length (fraction_digits t)) 0) _ h)
  point-by false e = rw (prefix-unpointed e) (prefix-by (eqb (length (whole_digits t)) 0) _ point-inside)

  pub prefix-inside : prefix_length t ≤ length t
  prefix-inside = point-by (has_point t) refl
