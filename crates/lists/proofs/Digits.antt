-- Laws on the bits of a word.
use mathlib.Core.Path.{◌≡◌, refl, sym, ap, ◌∙◌}
use mathlib.Core.Bool.{false, not, ◌||◌, ◌&&◌}
use Prim.Native.Nat.{ℕ, zero, suc, ◌-◌, ◌*◌, ◌/◌, ◌%◌, ◌^◌, ◌<◌, max, min}
use native.Mathlib.Nat.{mul-add-mod_self_right, mod-lt, mod-eq_of_lt, zero-lt-suc, zero-div, div-one, pow-suc, mul-mod_left, mul-div_cancel, one-mul, mul_comm, div-div-eq-div-mul, le_of_suc-le-suc}
use native.Mathlib.Omega.{arith}
use lib.Dec.{eqb, eqb-suc-zero, eqb-zero-suc, eqb-suc-suc}
use lib.Bits.{bit_or, bit_and, or_step, or_shr, and_step, and_shr}
use lib.Pow.{pow-lt, pow_pos}
use Rattle.lists.specs.Digit.{bit}

two_pos : 0 < 2
two_pos = zero-lt-suc 1

-- ---- the bits of an `or`

odd-or : (x y : ℕ) → bit_or x y % 2 ≡ max (x % 2) (y % 2)
odd-or x y =
    let hx = mod-lt x two_pos in
    let hy = mod-lt y two_pos in
    ap (λ (n : ℕ). n % 2) (or_step x y)
    ∙ mul-add-mod_self_right (bit_or (x / 2) (y / 2)) 2 (max (x % 2) (y % 2))
    ∙ mod-eq_of_lt (omega arith)

either : (u v : ℕ) → u < 2 → v < 2 → eqb (max u v) 1 ≡ (eqb u 1 || eqb v 1)
either zero zero hu hv = refl
either zero (suc zero) hu hv = refl
either zero (suc (suc v)) hu hv = absurd (omega arith)
either (suc zero) zero hu hv = refl
either (suc zero) (suc zero) hu hv = refl
either (suc zero) (suc (suc v)) hu hv = absurd (omega arith)
either (suc (suc u)) v hu hv = absurd (omega arith)

pub bit-or : (a b k : ℕ) → bit (bit_or a b) k ≡ (bit a k || bit b k)
bit-or a b k =
    ap (λ (n : ℕ). eqb (n % 2) 1) (or_shr a b k)
    ∙ ap (λ (n : ℕ). eqb n 1) (odd-or (a / 2 ^ k) (b / 2 ^ k))
    ∙ either (a / 2 ^ k % 2) (b / 2 ^ k % 2) (mod-lt _ two_pos) (mod-lt _ two_pos)

-- ---- the bits of an `and`

odd-and : (x y : ℕ) → bit_and x y % 2 ≡ min (x % 2) (y % 2)
odd-and x y =
    let hx = mod-lt x two_pos in
    let hy = mod-lt y two_pos in
    ap (λ (n : ℕ). n % 2) (and_step x y) ∙ mul-add-mod_self_right (bit_and (x / 2) (y / 2)) 2 (min (x % 2) (y % 2))
    ∙ mod-eq_of_lt (omega arith)

both : (u v : ℕ) → u < 2 → v < 2 → eqb (min u v) 1 ≡ (eqb u 1 && eqb v 1)
both zero zero hu hv = refl
both zero (suc zero) hu hv = refl
both zero (suc (suc v)) hu hv = absurd (omega arith)
both (suc zero) zero hu hv = refl
both (suc zero) (suc zero) hu hv = refl
both (suc zero) (suc (suc v)) hu hv = absurd (omega arith)
both (suc (suc u)) v hu hv = absurd (omega arith)

pub bit-and : (a b k : ℕ) → bit (bit_and a b) k ≡ (bit a k && bit b k)
bit-and a b k =
    ap (λ (n : ℕ). eqb (n % 2) 1) (and_shr a b k) ∙ ap (λ (n : ℕ). eqb n 1) (odd-and (a / 2 ^ k) (b / 2 ^ k))
    ∙ both (a / 2 ^ k % 2) (b / 2 ^ k % 2) (mod-lt _ two_pos) (mod-lt _ two_pos)

-- ---- a word of one bit

pub bit-zero : (k : ℕ) → bit 0 k ≡ false
bit-zero k = rw (zero-div)

pub halved : (n k : ℕ) → n / 2 / 2 ^ k ≡ n / 2 ^ suc k
halved n k = div-div-eq-div-mul n 2 (2 ^ k) ∙ ap (λ (m : ℕ). n / m) (mul_comm 2 (2 ^ k) ∙ sym (pow-suc 2 k))

-- bit k + 1 is bit k of the half
bit-half : (n k : ℕ) → bit n (suc k) ≡ bit (n / 2) k
bit-half n k = ap (λ (m : ℕ). eqb (m % 2) 1) (sym (halved n k))

pub bit-pow : (p k : ℕ) → bit (2 ^ p) k ≡ eqb k p
bit-pow zero zero = refl
bit-pow zero (suc k) = bit-half 1 k ∙ bit-zero k ∙ sym (eqb-suc-zero k)
bit-pow (suc p) zero = rw (div-one, pow-suc, mul-mod_left) (sym (eqb-zero-suc p))
bit-pow (suc p) (suc k) =
    bit-half (2 ^ suc p) k
    ∙ ap (λ (m : ℕ). bit m k) (ap (λ (m : ℕ). m / 2) (pow-suc 2 p) ∙ mul-div_cancel (2 ^ p) two_pos)
    ∙ bit-pow p k
    ∙ sym (eqb-suc-suc k p)

-- `1 << p`
pub word-pow : (p : ℕ) → p < 64 → 1 * 2 ^ p % 2 ^ 64 ≡ 2 ^ p
word-pow p h = ap (λ (m : ℕ). m % 2 ^ 64) (one-mul (2 ^ p)) ∙ mod-eq_of_lt (pow-lt h)

pub bit_shifted : (p k : ℕ) → p < 64 → bit (1 * 2 ^ p % 2 ^ 64) k ≡ eqb k p
bit_shifted p k h = ap (λ (m : ℕ). bit m k) (word-pow p h) ∙ bit-pow p k

-- ---- each bit turned, in a word of n bits

turned : (u v : ℕ) → u < 2 → v ≡ 1 - u → eqb v 1 ≡ not (eqb u 1)
turned zero v h e = rw e
turned (suc zero) v h e = rw e
turned (suc (suc u)) v h e = absurd (omega arith)

pub bit-turned : (n w k : ℕ) → w < 2 ^ n → k < n → bit (2 ^ n - 1 - w) k ≡ not (bit w k)
bit-turned zero w k hw hk = absurd (omega arith)
bit-turned (suc n) w zero hw hk =
    let pos : 0 < 2 ^ n = pow_pos n in
    let below : w < 2 ^ n * 2 = rw pow-suc at hw in
    let odd : (2 ^ n * 2 - 1 - w) % 2 ≡ 1 - w % 2 = omega arith in
    simp (div-one, pow-suc) (turned (w % 2) _ (mod-lt w two_pos) odd)
bit-turned (suc n) w (suc k) hw hk =
    let pos : 0 < 2 ^ n = pow_pos n in
    let below : w < 2 ^ n * 2 = rw pow-suc at hw in
    let half : (2 ^ suc n - 1 - w) / 2 ≡ 2 ^ n - 1 - w / 2 = rw pow-suc (omega arith) in
    bit-half (2 ^ suc n - 1 - w) k
    ∙ ap (λ (m : ℕ). bit m k) half
    ∙ bit-turned n (w / 2) k (omega arith) (le_of_suc-le-suc hk)
    ∙ ap not (sym (bit-half w k))
