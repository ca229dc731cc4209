-- The count of a word's trailing zeros, and the digits that it passes.
use mathlib.Core.Path.{◌≡◌, refl, sym, ap, ap₂, ◌∙◌}
use mathlib.Core.Bool.{true, false}
use mathlib.Core.List.{List}
use Prim.Native.Nat.{ℕ, zero, suc, ◌+◌, ◌-◌, ◌*◌, ◌/◌, ◌%◌, ◌^◌, ◌≤◌, ◌<◌, suc-le-suc, zero-le}
use native.Mathlib.Nat.{div-div-eq-div-mul, pow-suc, not-suc-le-zero, le_refl, le_of_suc-le-suc, mul_comm, mul_assoc, mul-one, suc-mul, mul-mod_left, div-one, div-lt_iff_lt-mul, zero-lt-suc, mod-lt}
use native.Mathlib.Numerals.{add-one}
use native.Mathlib.Omega.{arith}
use lib.ListN.{get_or}
use lib.Count.{count_trailing_zeros, under}
use lib.Pow.{pow-add, shl-shr}
use lib.Dec.{eqb}
use borrow.Author.Tests.{eqb-true}
use Rattle.lists.specs.Digit.{bit}
use Rattle.lists.proofs.Digits.{halved}
use Rattle.ere_table.specs.Table.{mem}

-- digit j above digit d
pub rest-div : (w d j : ℕ) → w / 2 ^ d / 2 ^ j ≡ w / 2 ^ (d + j)
rest-div w d j = div-div-eq-div-mul w (2 ^ d) (2 ^ j) ∙ ap (λ (m : ℕ). w / m) (sym (pow-add 2 d j))

pub rest-bit : (w d j : ℕ) → bit (w / 2 ^ d) j ≡ bit w (d + j)
rest-bit w d j = ap (λ (m : ℕ). eqb (m % 2) 1) (rest-div w d j)

-- digits below the count are not set
pub tz-low : (k n j : ℕ) → j < count_trailing_zeros k n → bit n j ≡ false
unfolding count_trailing_zeros
tz-low zero n j h = absurd (not-suc-le-zero h)
tz-low (suc k) n j h = go (λ i. tz-low k (n / 2) i) (n % 2) refl j h
  where
    go : ((i : ℕ) → i < count_trailing_zeros k (n / 2) → bit (n / 2) i ≡ false) → (r : ℕ) → n % 2 ≡ r → (j : ℕ) → j < under r (count_trailing_zeros k (n / 2)) → bit n j ≡ false
    go low zero e zero h = rw (div-one, e)
    go low zero e (suc j) h = ap (λ (m : ℕ). eqb (m % 2) 1) (sym (halved n j)) ∙ low j (le_of_suc-le-suc h)
    go low (suc r) e j h = absurd (not-suc-le-zero h)

-- a number of m digits that is not 0 has one of them set
pub tz-lt : (m k n : ℕ) → m ≤ k → 0 < n → n < 2 ^ m → count_trailing_zeros k n < m
unfolding count_trailing_zeros
tz-lt zero k n l p h = absurd (omega arith)
tz-lt (suc m) zero n l p h = absurd (omega arith)
tz-lt (suc m) (suc k) n l p h = go (λ q. tz-lt m k (n / 2) (le_of_suc-le-suc l) q ((div-lt_iff_lt-mul (zero-lt-suc 1)).1 (rw pow-suc at h))) (n % 2) refl
  where
    go : (0 < n / 2 → count_trailing_zeros k (n / 2) < m) → (r : ℕ) → n % 2 ≡ r → under r (count_trailing_zeros k (n / 2)) < suc m
    go ih zero e = suc-le-suc (ih (omega arith))
    go ih (suc r) e = suc-le-suc zero-le

-- the digit at the count is set
pub tz-high : (k n : ℕ) → count_trailing_zeros k n < k → bit n (count_trailing_zeros k n) ≡ true
unfolding count_trailing_zeros
tz-high zero n h = absurd (not-suc-le-zero h)
tz-high (suc k) n h = go (λ l. tz-high k (n / 2) l) (n % 2) refl h
  where
    go : (count_trailing_zeros k (n / 2) < k → bit (n / 2) (count_trailing_zeros k (n / 2)) ≡ true) → (r : ℕ) → n % 2 ≡ r
        → under r (count_trailing_zeros k (n / 2)) < suc k → bit n (under r (count_trailing_zeros k (n / 2))) ≡ true
    go high zero e h = ap (λ (m : ℕ). eqb (m % 2) 1) (sym (halved n (count_trailing_zeros k (n / 2)))) ∙ high (le_of_suc-le-suc h)
    go high (suc r) e h = let one : n % 2 ≡ 1 = omega (arith, mod-lt n (zero-lt-suc 1)) in rw (div-one, one)

-- the digits below the count hold nothing
tz-even : (k n : ℕ) → n / 2 ^ count_trailing_zeros k n * 2 ^ count_trailing_zeros k n ≡ n
unfolding count_trailing_zeros
tz-even zero n = rw (div-one, mul-one)
tz-even (suc k) n = go (tz-even k (n / 2)) (n % 2) refl
  where
    m : ℕ
    m = count_trailing_zeros k (n / 2)

    go : n / 2 / 2 ^ m * 2 ^ m ≡ n / 2 → (r : ℕ) → n % 2 ≡ r → n / 2 ^ under r m * 2 ^ under r m ≡ n
    go h zero e =
        let z : n / 2 * 2 ≡ n = omega arith in
        ap (λ (x : ℕ). x * 2 ^ suc m) (sym (halved n m)) ∙ ap (λ (x : ℕ). n / 2 / 2 ^ m * x) (pow-suc 2 m) ∙ sym (mul_assoc (n / 2 / 2 ^ m) (2 ^ m) 2)
        ∙ ap (λ (x : ℕ). x * 2) h ∙ z
    go h (suc r) e = rw (div-one, mul-one)

-- ---- a word without its lowest set digit

low_of : (n q p : ℕ) → q % 2 ≡ 1 → q * p ≡ n → n ≡ q / 2 * (p * 2) + p
low_of n q p o e =
    let h : q ≡ suc (q / 2 * 2) = omega arith in
    sym e ∙ ap (λ (x : ℕ). x * p) h ∙ suc-mul (q / 2 * 2) p ∙ ap (λ (x : ℕ). x + p) (mul_assoc (q / 2) 2 p ∙ ap (λ (x : ℕ). q / 2 * x) (mul_comm 2 p))

low-none : (q d j : ℕ) → j < d → bit (q * 2 ^ d) j ≡ false
low-none q d j h =
    let i = d - suc j in
    let e : d ≡ suc i + j = omega arith in
    let s : q * 2 ^ d ≡ q * 2 ^ i * 2 * 2 ^ j =
    ap (λ (x : ℕ). q * 2 ^ x) e ∙ ap (λ (x : ℕ). q * x) (pow-add 2 (suc i) j ∙ ap (λ (x : ℕ). x * 2 ^ j) (pow-suc 2 i))
    ∙ sym (mul_assoc q (2 ^ i * 2) (2 ^ j))
    ∙ ap (λ (x : ℕ). x * 2 ^ j) (sym (mul_assoc q (2 ^ i) 2)) in
    ap (λ (x : ℕ). bit x j) s ∙ ap (λ (x : ℕ). eqb (x % 2) 1) (shl-shr (q * 2 ^ i * 2) j) ∙ ap (λ (x : ℕ). eqb x 1) (mul-mod_left (q * 2 ^ i) 2)

module _ (n : ℕ) (h : count_trailing_zeros 64 n < 64) where
  abbrev k : ℕ
  k = count_trailing_zeros 64 n

  parts : n ≡ n / 2 ^ suc k * 2 ^ suc k + 2 ^ k
  parts =
      let o = low_of n (n / 2 ^ k) (2 ^ k) (eqb-true _ _ (tz-high 64 n h)) (tz-even 64 n) in
      o ∙ ap₂ (λ (x y : ℕ). x * y + 2 ^ k) (rest-div n k 1 ∙ ap (λ (x : ℕ). n / 2 ^ x) (add-one k)) (sym (pow-suc 2 k))

  pub low-le : 2 ^ k ≤ n
  low-le = omega (arith, parts)

  cleared : n - 2 ^ k ≡ n / 2 ^ suc k * 2 ^ suc k
  cleared = omega (arith, parts)

  pub off-low : (j : ℕ) → j < suc k → bit (n - 2 ^ k) j ≡ false
  off-low j l = rw cleared (low-none (n / 2 ^ suc k) (suc k) j l)

  pub off-high : (j : ℕ) → k < j → bit (n - 2 ^ k) j ≡ bit n j
  off-high j l =
      let e : suc k + (j - suc k) ≡ j = omega arith in
      ap₂ bit cleared (sym e) ∙ sym (rest-bit (n / 2 ^ suc k * 2 ^ suc k) (suc k) (j - suc k)) ∙ ap (λ (x : ℕ). bit x (j - suc k)) (shl-shr (n / 2 ^ suc k) (suc k))
      ∙ rest-bit n (suc k) (j - suc k)
      ∙ ap (bit n) e

-- a word that is not 0
pub tz-room : (n : ℕ) → n < 2 ^ 64 → (n ≡ 0 → ⊥) → count_trailing_zeros 64 n < 64
tz-room n h ne = tz-lt 64 64 n (le_refl 64) (omega arith) h

-- ---- words and places

at-word : (w k : ℕ) → k < 64 → (64 * w + k) / 64 ≡ w
at-word w k h = omega arith

at-bit : (w k : ℕ) → k < 64 → (64 * w + k) % 64 ≡ k
at-bit w k h = omega arith

pub mem_word : (s : List ℕ) (w k : ℕ) → k < 64 → mem s (64 * w + k) ≡ bit (get_or s w 0) k
mem_word s w k h = rw (at-word w k h, at-bit w k h)
