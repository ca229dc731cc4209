-- The digits of a number: turns are always enough, and the digits are those that `Spells` says.
use mathlib.Core.Path.{◌≡◌, refl, sym, ap, ap₂, subst, ◌∙◌}
use mathlib.Core.List.{List, [], ◌∷◌, ◌++◌}
use Prim.Native.Nat.{ℕ, zero, suc, ◌+◌, ◌-◌, ◌*◌, ◌/◌, ◌%◌, ◌^◌, ◌≤◌, ◌<◌}
use native.Mathlib.Decide.{dec_le}
use native.Mathlib.Nat.{pow-suc, pow-succ', one-le-pow, div-div-eq-div-mul}
use native.Mathlib.Omega.{arith}
use lib.ListN.{length, get_or, take, length-append}
use lib.Seq.{length-take-le, get_or-take, take-take, get_or_at, take_at}
use borrow.Author.Tests.{lt-ltb, le-ltb}
use Rattle.edition.specs.Limits.{number_bound}
use Rattle.number.specs.Range.{unbias}
use Rattle.number.proofs.Bias.{unbias-above, unbias-below}
use Rattle.decimals.specs.Decimal.{digits_within, decimal_digits, decimal_text, Spells, digit, longer}

within-small : (k n : ℕ) → n < 10 → digits_within k n ≡ (48 + n) ∷ []
unfolding digits_within
within-small zero n h = refl
within-small (suc k) n h = rw (lt-ltb n 10 h)

within_step : (k n : ℕ) → 10 ≤ n → digits_within (suc k) n ≡ digits_within k (n / 10) ++ ((48 + n % 10) ∷ [])
unfolding digits_within
within_step k n h = rw (le-ltb n 10 h)

-- any number of turns from n on gives the same
within_same : (k m n : ℕ) → n ≤ k → n ≤ m → digits_within k n ≡ digits_within m n
within_same zero m n hk hm = within-small zero n (omega arith) ∙ sym (within-small m n (omega arith))
within_same (suc k) zero n hk hm = within-small (suc k) n (omega arith) ∙ sym (within-small zero n (omega arith))
within_same (suc k) (suc m) n hk hm =
    elim (dec_le 10 n) [
      | yes h ↦ within_step k n h ∙ ap (λ (l : List ℕ). l ++ ((48 + n % 10) ∷ [])) (within_same k m (n / 10) (omega arith) (omega arith)) ∙ sym (within_step m n h)
      | no h ↦ within-small (suc k) n (omega arith) ∙ sym (within-small (suc m) n (omega arith))
    ]

pub digits-small : (n : ℕ) → n < 10 → decimal_digits n ≡ (48 + n) ∷ []
unfolding decimal_digits
digits-small n h = within-small n n h

pub digits_step : (n : ℕ) → 10 ≤ n → decimal_digits n ≡ decimal_digits (n / 10) ++ ((48 + n % 10) ∷ [])
unfolding decimal_digits
digits_step zero h = absurd (omega arith)
digits_step (suc k) h =
    within_step k (suc k) h
    ∙ ap (λ (l : List ℕ). l ++ ((48 + suc k % 10) ∷ [])) (within_same k (suc k / 10) (suc k / 10) (omega arith) (omega arith))

spelled_by : (k n : ℕ) → n ≤ k → Spells n (decimal_digits n)
spelled_by zero n h = rw (digits-small n (omega arith)) (digit {n = n} (omega arith))
spelled_by (suc k) n h =
    elim (dec_le 10 n) [
      | yes p ↦
          let e : n / 10 * 10 + n % 10 ≡ n = omega arith in
          rw (digits_step n p)
          (subst (λ (m : ℕ). Spells m (decimal_digits (n / 10) ++ ((48 + n % 10) ∷ []))) e
          (longer (omega arith) (spelled_by k (n / 10) (omega arith)) (omega arith)))
      | no p ↦ rw (digits-small n (omega arith)) (digit {n = n} (omega arith))
    ]

-- the digits of n are what `Spells` says
pub digits-spelled : (n : ℕ) → Spells n (decimal_digits n)
digits-spelled n = spelled_by n n (omega arith)

pub length-step : (n : ℕ) → 10 ≤ n → length (decimal_digits n) ≡ length (decimal_digits (n / 10)) + 1
length-step n h = ap length (digits_step n h) ∙ length-append (decimal_digits (n / 10)) ((48 + n % 10) ∷ [])

-- the two ways of a number's text
pub text-below : (w : ℕ) → w < number_bound → decimal_text (unbias w) ≡ 45 ∷ decimal_digits (number_bound - w)
unfolding decimal_text
text-below w h =
    let e : suc (number_bound - suc w) ≡ number_bound - w = omega arith in
    ap decimal_text (unbias-below w h) ∙ ap (λ (n : ℕ). 45 ∷ decimal_digits n) e

pub text-above : (w : ℕ) → number_bound ≤ w → decimal_text (unbias w) ≡ decimal_digits (w - number_bound)
unfolding decimal_text
text-above w h = ap decimal_text (unbias-above w h)

-- The last of the first k + 1 digits of a list, where those are the digits of a number; and the digits before it.
module _ (l : List ℕ) (k rest : ℕ) (inside : k < length l) (h : take (k + 1) l ≡ decimal_digits rest) where
  size : length (decimal_digits rest) ≡ k + 1
  size = ap length (sym h) ∙ length-take-le (k + 1) l (omega arith)

  last : get_or l k 0 ≡ get_or (decimal_digits rest) k 0
  last = sym (get_or-take (k + 1) l k 0 (omega arith)) ∙ ap (λ (d : List ℕ). get_or d k 0) h

  front : take k l ≡ take k (decimal_digits rest)
  front = sym (take-take k (k + 1) l (omega arith)) ∙ ap (take k) h

  pub last-digit : get_or l k 0 ≡ 48 + rest % 10
  last-digit =
      elim (dec_le 10 rest) [
        | yes p ↦
            let e : length (decimal_digits (rest / 10)) ≡ k = omega (arith, size, length-step rest p) in
            last ∙ ap (λ (d : List ℕ). get_or d k 0) (digits_step rest p) ∙ get_or_at (decimal_digits (rest / 10)) (48 + rest % 10) [] 0 k e
        | no p ↦
            let s = digits-small rest (omega arith) in
            let e : k ≡ 0 = omega (arith, size, ap length s) in
            let d : 48 + rest ≡ 48 + rest % 10 = omega arith in
            last ∙ ap₂ (λ (d : List ℕ) (j : ℕ). get_or d j 0) s e ∙ d
      ]

  pub front-digits : 0 < k → take k l ≡ decimal_digits (rest / 10)
  front-digits hk =
      elim (dec_le 10 rest) [
        | yes p ↦
            let e : length (decimal_digits (rest / 10)) ≡ k = omega (arith, size, length-step rest p) in
            front ∙ ap (take k) (digits_step rest p) ∙ take_at (decimal_digits (rest / 10)) ((48 + rest % 10) ∷ []) k e
        | no p ↦
            let s = digits-small rest (omega arith) in
            absurd (omega (arith, size, ap length s))
      ]

-- a number below a power of ten has as many digits at the most
pub length-within : (k n : ℕ) → n < 10 ^ suc k → length (decimal_digits n) ≤ suc k
length-within zero n h = omega (arith, ap length (digits-small n (omega arith)))
length-within (suc k) n h =
    let h' : n < 10 ^ suc k * 10 = rw pow-suc at h in
    elim (dec_le 10 n) [ yes p ↦ omega (arith, length-step n p, length-within k (n / 10) (omega arith)) | no p ↦ omega (arith, ap length (digits-small n (omega arith))) ]

-- without the last k of its digits
pub length-split : (k n : ℕ) → 10 ^ k ≤ n → length (decimal_digits n) ≡ k + length (decimal_digits (n / 10 ^ k))
length-split zero n h =
    let e : n / 1 ≡ n = omega arith in
    ap (λ (m : ℕ). length (decimal_digits m)) (sym e) ∙ omega arith
length-split (suc k) n h =
    let h' : 10 ^ k * 10 ≤ n = rw pow-suc at h in
    let some : 1 ≤ 10 ^ k = one-le-pow k 10 (omega arith) in
    let e : n / 10 / 10 ^ k ≡ n / 10 ^ suc k = div-div-eq-div-mul n 10 (10 ^ k) ∙ ap (λ (m : ℕ). n / m) (sym (pow-succ' 10 k)) in
    length-step n (omega arith)
    ∙ omega (arith, length-split k (n / 10) (omega arith), ap (λ (m : ℕ). length (decimal_digits m)) e)

-- there is a digit
pub length_some : (n : ℕ) → 1 ≤ length (decimal_digits n)
length_some n =
    elim (dec_le 10 n) [ yes p ↦ omega (arith, length-step n p) | no p ↦ omega (arith, ap length (digits-small n (omega arith))) ]

-- a number from a power of ten on and below the next
pub length-between : (k n : ℕ) → 10 ^ k ≤ n → n < 10 ^ suc k → length (decimal_digits n) ≡ suc k
length-between k n h g = omega (arith, length-split k n h, length_some (n / 10 ^ k), length-within k n g)

pub length-bound : (n : ℕ) → n ≤ number_bound → length (decimal_digits n) ≤ 16
length-bound n h = length-within 15 n (omega arith)
