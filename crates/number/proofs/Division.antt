-- What `/` and `%` answer, without an operation of the machine: the one quotient and remainder that `Division` allows.
use mathlib.Core.Path.{◌≡◌, refl, sym, ap, ap₂, ◌∙◌}
use mathlib.Core.Logic.{◌⊎◌, inl, inr, ⊎_elim}
use mathlib.Core.Bool.{true, false, true≢false, false≢true}
use Prim.Native.Nat.{ℕ, zero, suc, ◌+◌, ◌-◌, ◌*◌, ◌/◌, ◌%◌, ◌≤◌, ◌<◌}
use native.Mathlib.Nat.{mod-lt, div-add-mod, mul-zero, mul_comm, le-mul_of_pos_right}
use native.Mathlib.Omega.{arith}
use lib.Arith.{digits_div, digits_mod}
use lib.IntN.{ℤ, pos, negsuc, neg_ℤ, nat_abs, ◌+ℤ◌, ◌*ℤ◌, neg_ℤ-neg_ℤ, neg_ℤ-+ℤ, pos-ne-negsuc}
use lib.Signed.{quot_z, rem_z}
use borrow.Author.Tests.{le-leb}
use Rattle.edition.specs.Limits.{number_bound}
use Rattle.edition.specs.Outcomes.{number_not_whole, divisor_zero}
use Rattle.number.specs.Range.{InRange, number, stop, ranged}
use Rattle.number.specs.Arithmetic.{Division, negative, quotient_of, remainder_of, negation_of}
use Rattle.number.proofs.Integers.{abs_neg, abs-quot, abs-rem, sub-lt}
use Rattle.number.proofs.Bias.{ranged-in}
use Rattle.number.proofs.Quotients.{quotient-zero, quotient-exact, quotient-inexact, remainder-zero, remainder-some}

-- ---- products with a negation

pub mul-neg : (b q : ℤ) → b *ℤ neg_ℤ q ≡ neg_ℤ (b *ℤ q)
mul-neg (pos b) (pos zero) = rw mul-zero
mul-neg (pos b) (pos (suc n)) = refl
mul-neg (pos b) (negsuc n) = sym (neg_ℤ-neg_ℤ (pos (b * suc n)))
mul-neg (negsuc b) (pos zero) = rw mul-zero
mul-neg (negsuc b) (pos (suc n)) = sym (neg_ℤ-neg_ℤ (pos (suc b * suc n)))
mul-neg (negsuc b) (negsuc n) = refl

-- ---- the machine's quotient and remainder are a division

nonzero : (b : ℤ) → (b ≡ pos 0 → ⊥) → 0 < nat_abs b
nonzero (pos zero) h = absurd (h refl)
nonzero (pos (suc n)) h = omega arith
nonzero (negsuc n) h = omega arith

whole_pos : (a : ℕ) (b : ℤ) → pos a ≡ b *ℤ quot_z (pos a) b +ℤ rem_z (pos a) b
whole_pos a (pos b) = ap pos (sym (div-add-mod a b))
whole_pos a (negsuc b) =
    ap pos (sym (div-add-mod a (suc b)))
    ∙ ap (λ (z : ℤ). z +ℤ pos (a % suc b)) (sym (mul-neg (negsuc b) (pos (a / suc b)) ∙ neg_ℤ-neg_ℤ (pos (suc b * (a / suc b)))))

-- a negative dividend is a positive one, negated
quot-neg : (a : ℕ) (b : ℤ) → quot_z (negsuc a) b ≡ neg_ℤ (quot_z (pos (suc a)) b)
quot-neg a (pos b) = refl
quot-neg a (negsuc b) = sym (neg_ℤ-neg_ℤ (pos (suc a / suc b)))

whole_neg : (a : ℕ) (b : ℤ) → negsuc a ≡ b *ℤ quot_z (negsuc a) b +ℤ rem_z (negsuc a) b
whole_neg a b =
    ap neg_ℤ (whole_pos (suc a) b)
    ∙ neg_ℤ-+ℤ (b *ℤ quot_z (pos (suc a)) b) (rem_z (pos (suc a)) b)
    ∙ ap (λ (z : ℤ). z +ℤ rem_z (negsuc a) b) (sym (mul-neg b (quot_z (pos (suc a)) b)) ∙ ap (λ (q : ℤ). b *ℤ q) (sym (quot-neg a b)))

negated-sign : (m : ℕ) → (neg_ℤ (pos m) ≡ pos 0) ⊎ (negative (neg_ℤ (pos m)) ≡ true)
negated-sign zero = inl refl
negated-sign (suc m) = inr refl

pub divides : (a b : ℤ) → (b ≡ pos 0 → ⊥) → Division a b (quot_z a b) (rem_z a b)
divides (pos a) b h = record { whole = whole_pos a b; small = mod-lt a (nonzero b h); sign = inr refl }
divides (negsuc a) b h =
    record {
      whole = whole_neg a b;
      small = rw abs_neg (mod-lt (suc a) (nonzero b h));
      sign = negated-sign (suc a % nat_abs b);
    }

-- ---- no other pair is one

-- a multiple of b that is not 0 is at least as large as b
multiple : (b q : ℕ) → b ≤ b * suc q
multiple b q = le-mul_of_pos_right b (omega arith)

-- so it takes a smaller remainder below 0
under : (x m n : ℕ) → m < x → pos n ≡ neg_ℤ (pos x) +ℤ pos m → ⊥
under zero m n h e = omega arith
under (suc x) m n h e = pos-ne-negsuc n (suc x - suc m) (e ∙ sub-lt m (suc x) h)

-- the quotient and remainder of natural numbers
module _ (n b q m : ℕ) (h : m < b) (e : n ≡ b * q + m) where
  digits : n ≡ q * b + m
  digits = e ∙ ap (λ (k : ℕ). k + m) (mul_comm b q)

  quotient_is : n / b ≡ q
  quotient_is = ap (λ (k : ℕ). k / b) digits ∙ digits_div q h

  rest-is : n % b ≡ m
  rest-is = ap (λ (k : ℕ). k % b) digits ∙ digits_mod q h

pos-only : (n : ℕ) (b q : ℤ) (m : ℕ) → m < nat_abs b → pos n ≡ b *ℤ q +ℤ pos m → (quot_z (pos n) b ≡ q) × (n % nat_abs b ≡ m)
pos-only n (pos b) (pos q) m h e = (ap pos (quotient_is n b q m h (ap nat_abs e)), rest-is n b q m h (ap nat_abs e))
pos-only n (pos b) (negsuc q) m h e = absurd (under (b * suc q) m n (omega (arith, multiple b q)) e)
pos-only n (negsuc b) (pos zero) m h e =
    let e' : n ≡ suc b * zero + m = ap nat_abs (e ∙ ap (λ (k : ℕ). neg_ℤ (pos k) +ℤ pos m) (mul-zero (suc b))) ∙ ap (λ (k : ℕ). k + m) (sym (mul-zero (suc b))) in
    (ap (λ (k : ℕ). neg_ℤ (pos k)) (quotient_is n (suc b) zero m h e'), rest-is n (suc b) zero m h e')
pos-only n (negsuc b) (pos (suc q)) m h e = absurd (under (suc b * suc q) m n (omega (arith, multiple (suc b) q)) e)
pos-only n (negsuc b) (negsuc q) m h e =
    (ap (λ (k : ℕ). neg_ℤ (pos k)) (quotient_is n (suc b) (suc q) m h (ap nat_abs e)), rest-is n (suc b) (suc q) m h (ap nat_abs e))

-- a remainder by its sign: 0, or of the dividend's
pos-rest : (r : ℤ) → (r ≡ pos 0) ⊎ (negative r ≡ false) → r ≡ pos (nat_abs r)
pos-rest (pos m) s = refl
pos-rest (negsuc m) s = ⊎_elim (λ e. absurd (pos-ne-negsuc 0 m (sym e))) (λ e. absurd (true≢false e)) s

neg-rest : (r : ℤ) → (r ≡ pos 0) ⊎ (negative r ≡ true) → r ≡ neg_ℤ (pos (nat_abs r))
neg-rest (pos m) s = ⊎_elim (λ e. e ∙ ap (λ (z : ℤ). neg_ℤ (pos (nat_abs z))) (sym e)) (λ e. absurd (false≢true e)) s
neg-rest (negsuc m) s = refl

pub only : {a b q r : ℤ} → Division a b q r → (quot_z a b ≡ q) × (rem_z a b ≡ r)
only {a = pos n} {b} {q} {r} d =
    let s = pos-rest r d.sign in
    let p = pos-only n b q (nat_abs r) d.small (d.whole ∙ ap (λ (z : ℤ). b *ℤ q +ℤ z) s) in
    (p.0, ap pos p.1 ∙ sym s)
only {a = negsuc n} {b} {q} {r} d =
    let s = neg-rest r d.sign in
    let t : neg_ℤ r ≡ pos (nat_abs r) = ap neg_ℤ s ∙ neg_ℤ-neg_ℤ (pos (nat_abs r)) in
    let w : pos (suc n) ≡ b *ℤ neg_ℤ q +ℤ pos (nat_abs r) =
    ap neg_ℤ d.whole ∙ neg_ℤ-+ℤ (b *ℤ q) r ∙ ap₂ ◌+ℤ◌ (sym (mul-neg b q)) t in
    let p = pos-only (suc n) b (neg_ℤ q) (nat_abs r) d.small w in
    (quot-neg n b ∙ ap neg_ℤ p.0 ∙ neg_ℤ-neg_ℤ q, ap (λ (k : ℕ). neg_ℤ (pos k)) p.1 ∙ sym s)

-- ---- so these are the answers

size-zero : (z : ℤ) → nat_abs z ≡ 0 → z ≡ pos 0
size-zero (pos n) h = ap pos h
size-zero (negsuc n) h = absurd (omega arith)

in-bound : (z : ℤ) → nat_abs z ≤ number_bound → ranged z ≡ number z
in-bound z h = ranged-in z (le-leb (nat_abs z) number_bound h)

module _ {a b q r : ℤ} (d : Division a b q r) where
  divisor : nat_abs b ≡ 0 → ⊥
  divisor h = omega (arith, d.small)

  -- `/` answers q exactly if the remainder is 0, and else stops with 12
  pub divide-exact : InRange a → r ≡ pos 0 → quotient_of a b ≡ number q
  divide-exact h e =
      quotient-exact a b divisor (ap nat_abs ((only d).1 ∙ e))
      ∙ in-bound (quot_z a b) (omega (arith, abs-quot a b))
      ∙ ap number (only d).0

  pub divide-inexact : (r ≡ pos 0 → ⊥) → quotient_of a b ≡ stop number_not_whole
  divide-inexact h = quotient-inexact a b divisor (λ e. h (size-zero r (ap nat_abs (sym (only d).1) ∙ e)))

  -- `%` answers r
  pub remainder_is : InRange a → remainder_of a b ≡ number r
  remainder_is h = remainder-some a b divisor ∙ in-bound (rem_z a b) (omega (arith, abs-rem a b)) ∙ ap number (only d).1

-- a divisor of 0 comes first
pub divide-by-zero : (a : ℤ) → quotient_of a (pos 0) ≡ stop divisor_zero
divide-by-zero a = quotient-zero a (pos 0) refl

pub remainder-by-zero : (a : ℤ) → remainder_of a (pos 0) ≡ stop divisor_zero
remainder-by-zero a = remainder-zero a (pos 0) refl

-- a number's negation is a number, and -0 is 0
pub negation-is : (a : ℤ) → InRange a → negation_of a ≡ number (neg_ℤ a)
unfolding negation_of
negation-is a h = in-bound (neg_ℤ a) (omega (arith, abs_neg a))

pub negation-zero : negation_of (pos 0) ≡ number (pos 0)
negation-zero = negation-is (pos 0) (record { within = omega arith })
