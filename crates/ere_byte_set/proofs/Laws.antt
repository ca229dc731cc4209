-- Laws on classes: what is in the class of each operation.
use mathlib.Core.Path.{◌≡◌, refl, sym, ap, ◌∙◌}
use mathlib.Core.Bool.{Bool, true, false, true≢false, not, ◌||◌, ◌&&◌}
use mathlib.Core.Logic.{⊎_elim}
use mathlib.Core.List.{List, [], ◌∷◌}
use Prim.Native.Nat.{ℕ, zero, suc, ◌+◌, ◌-◌, ◌*◌, ◌/◌, ◌%◌, ◌^◌, ◌≤◌, ◌<◌}
use native.Mathlib.Numerals.{add-one}
use native.Mathlib.Decide.{ℕ_discrete}
use native.Mathlib.Omega.{arith}
use lib.ListN.{length, get_or, set, length-set}
use lib.Seq.{get_or-set_same, get_or-set_other}
use lib.Bits.{bit_or, or_lt}
use lib.Pow.{pow-lt}
use lib.Dec.{eqb, leb, ltb}
use borrow.Author.Tests.{eq-eqb, ne_eqb, eqb-true, le-leb, leb-true, lt-ltb, ltb-true}
use Rattle.lists.proofs.Tests.{same_test, or-none, or_swap, or-group, or_turned, or_cases, or_left, or_right, and-true, and-of}
use Rattle.ere_meaning.specs.Tree.{Range, in_range, in_some}
use Rattle.lists.specs.Digit.{bit}
use Rattle.ere_byte_set.specs.Words.{in_class, no_byte, every_byte, with_byte, with_bytes, with_span, with_spans, other_word, other_bytes, FourWords, ClassBit}
use Rattle.lists.proofs.Digits.{bit-or, bit-zero, bit_shifted, word-pow, bit-turned}

bit-other : (w k : ℕ) → w < 2 ^ 64 → k < 64 → bit (other_word w) k ≡ not (bit w k)
bit-other w k hw hk = bit-turned 64 w k hw hk

-- ---- no byte, and the bytes that are not in a class

none-at : (k : ℕ) → get_or no_byte k 0 ≡ 0
none-at zero = refl
none-at (suc zero) = refl
none-at (suc (suc zero)) = refl
none-at (suc (suc (suc zero))) = refl
none-at (suc (suc (suc (suc k)))) = refl

pub in-none : (x : ℕ) → in_class no_byte x ≡ false
in-none x = ap (λ (w : ℕ). bit w (x % 64)) (none-at (x / 64)) ∙ bit-zero (x % 64)

pub four-none : FourWords no_byte
four-none = record { four = refl; fit = λ k. rw (none-at k) (omega arith) }

other_at : (c : List ℕ) (k : ℕ) → k < 4 → get_or (other_bytes c) k 0 ≡ other_word (get_or c k 0)
other_at c zero h = refl
other_at c (suc zero) h = refl
other_at c (suc (suc zero)) h = refl
other_at c (suc (suc (suc zero))) h = refl
other_at c (suc (suc (suc (suc k)))) h = absurd (omega arith)

pub in-other : (c : List ℕ) (x : ℕ) → FourWords c → x < 256 → in_class (other_bytes c) x ≡ not (in_class c x)
in-other c x w h =
    ap (λ (y : ℕ). bit y (x % 64)) (other_at c (x / 64) (omega arith))
    ∙ bit-other (get_or c (x / 64) 0) (x % 64) (w.fit (x / 64)) (omega arith)

in-every : (x : ℕ) → x < 256 → in_class every_byte x ≡ true
in-every x h = in-other no_byte x four-none h ∙ ap not (in-none x)

-- ---- a byte more

-- two bytes of one word are the same exactly if their bits are
same_bit : (x b : ℕ) → x / 64 ≡ b / 64 → eqb (x % 64) (b % 64) ≡ eqb x b
same_bit x b h =
    elim (ℕ_discrete x b) [
      | yes e ↦ eq-eqb (x % 64) (b % 64) (ap (λ (y : ℕ). y % 64) e) ∙ sym (eq-eqb x b e)
      | no n ↦ ne_eqb (x % 64) (b % 64) (λ z. n (omega arith)) ∙ sym (ne_eqb x b n)
    ]

module _ (c : List ℕ) (b : ℕ) where
  -- the word of b, with b
  more : ℕ
  more = bit_or (get_or c (b / 64) 0) (1 * 2 ^ (b % 64) % 2 ^ 64)

  in-byte-here : (x : ℕ) → x < 256 → length c ≡ 4 → x / 64 ≡ b / 64 → in_class (with_byte c b) x ≡ (eqb x b || in_class c x)
  unfolding more
  in-byte-here x h four e =
      let w : get_or (set c (b / 64) more) (x / 64) 0 ≡ more = rw e (get_or-set_same c (b / 64) more 0 (omega arith)) in
      ap (λ (y : ℕ). bit y (x % 64)) w
      ∙ bit-or (get_or c (b / 64) 0) (1 * 2 ^ (b % 64) % 2 ^ 64) (x % 64)
      ∙ ap (λ (y : Bool). bit (get_or c (b / 64) 0) (x % 64) || y) (bit_shifted (b % 64) (x % 64) (omega arith) ∙ same_bit x b e)
      ∙ ap (λ (y : ℕ). bit (get_or c y 0) (x % 64) || eqb x b) (sym e)
      ∙ or_turned (in_class c x) (eqb x b)

  in-byte-elsewhere : (x : ℕ) → (x / 64 ≡ b / 64 → ⊥) → in_class (with_byte c b) x ≡ (eqb x b || in_class c x)
  unfolding more
  in-byte-elsewhere x n =
      rw (ne_eqb x b (λ e. n (ap (λ (y : ℕ). y / 64) e)))
      (ap (λ (y : ℕ). bit y (x % 64)) (get_or-set_other c (b / 64) (x / 64) more 0 n))

  pub in-byte : (x : ℕ) → x < 256 → length c ≡ 4 → in_class (with_byte c b) x ≡ (eqb x b || in_class c x)
  in-byte x h four = elim (ℕ_discrete (x / 64) (b / 64)) [ yes e ↦ in-byte-here x h four e | no n ↦ in-byte-elsewhere x n ]

fit-set : (c : List ℕ) (i k w m : ℕ) → get_or c k 0 < m → w < m → get_or (set c i w) k 0 < m
fit-set [] i k w m h hw = h
fit-set (x ∷ c) zero zero w m h hw = hw
fit-set (x ∷ c) zero (suc k) w m h hw = h
fit-set (x ∷ c) (suc i) zero w m h hw = h
fit-set (x ∷ c) (suc i) (suc k) w m h hw = fit-set c i k w m h hw

four-byte : (c : List ℕ) (b : ℕ) → FourWords c → FourWords (with_byte c b)
four-byte c b w =
    let p : b % 64 < 64 = omega arith in
    let one : 1 * 2 ^ (b % 64) % 2 ^ 64 < 2 ^ 64 = rw (word-pow (b % 64) p) (pow-lt p) in
    record {
      four = length-set c (b / 64) _ ∙ w.four;
      fit = λ k. fit-set c (b / 64) k _ (2 ^ 64) (w.fit k) (or_lt 64 (get_or c (b / 64) 0) _ (w.fit (b / 64)) one);
    }

-- ---- the bytes of a range, one after the other

pub bytes-none : (c : List ℕ) (lo : ℕ) → c ≡ with_bytes c lo 0
unfolding with_bytes
bytes-none c lo = refl

pub bytes-more : (c : List ℕ) (lo n : ℕ) (d r : List ℕ) → d ≡ with_bytes c lo n → r ≡ with_byte d (lo + n) → r ≡ with_bytes c lo (n + 1)
unfolding with_bytes
bytes-more c lo n d r h k = rw add-one (k ∙ ap (λ (o : List ℕ). with_byte o (lo + n)) h)

pub bytes-last : (c : List ℕ) (lo hi n : ℕ) (d r : List ℕ) → n ≡ hi - lo → lo ≤ hi → d ≡ with_bytes c lo n → r ≡ with_byte d hi
    → r ≡ with_bytes c lo (hi + 1 - lo)
bytes-last c lo hi n d r e l h k =
    let a : lo + n ≡ hi = omega arith in
    let b : hi + 1 - lo ≡ n + 1 = omega arith in
    rw b (bytes-more c lo n d r h (rw a k))

-- the range of one byte
pub bytes_one : (c : List ℕ) (b : ℕ) → with_byte c b ≡ with_bytes c b (b + 1 - b)
bytes_one c b = bytes-last c b b 0 c (with_byte c b) (omega arith) (omega arith) (bytes-none c b) refl

four_bytes : (c : List ℕ) (lo n : ℕ) → FourWords c → FourWords (with_bytes c lo n)
unfolding with_bytes
four_bytes c lo zero w = w
four_bytes c lo (suc n) w = four-byte (with_bytes c lo n) (lo + n) (four_bytes c lo n w)

-- x is one of the n bytes from lo on
abbrev between : ℕ → ℕ → ℕ → Bool
between lo n x = leb lo x && ltb x (lo + n)

between_none : (lo x : ℕ) → between lo 0 x ≡ false
between_none lo x =
    same_test (between lo 0 x) false
    (λ h. let z = and-true (leb lo x) (ltb x (lo + 0)) h in absurd (omega (arith, leb-true lo x z.0, ltb-true x (lo + 0) z.1)))
    (λ h. absurd (true≢false (sym h)))

between_more : (lo n x : ℕ) → (eqb x (lo + n) || between lo n x) ≡ between lo (suc n) x
between_more lo n x = same_test (eqb x (lo + n) || between lo n x) (between lo (suc n) x) there back
  where
    there : (eqb x (lo + n) || between lo n x) ≡ true → between lo (suc n) x ≡ true
    there h =
        ⊎_elim
        (λ e. let z = eqb-true x (lo + n) e in and-of _ _ (le-leb lo x (omega arith)) (lt-ltb x (lo + suc n) (omega arith)))
        (λ e.
        let z = and-true (leb lo x) (ltb x (lo + n)) e in
        and-of _ _ z.0 (lt-ltb x (lo + suc n) (omega (arith, ltb-true x (lo + n) z.1))))
        (or_cases (eqb x (lo + n)) (between lo n x) h)

    back : between lo (suc n) x ≡ true → (eqb x (lo + n) || between lo n x) ≡ true
    back h =
        let z = and-true (leb lo x) (ltb x (lo + suc n)) h in
        elim (ℕ_discrete x (lo + n)) [
          | yes e ↦ or_left _ _ (eq-eqb x (lo + n) e)
          | no m ↦ or_right (eqb x (lo + n)) _ (and-of _ _ z.0 (lt-ltb x (lo + n) (omega (arith, ltb-true x (lo + suc n) z.1))))
        ]

between_ends : (r : Range) (x : ℕ) → between r.low (r.high + 1 - r.low) x ≡ in_range r x
between_ends r x = same_test (between r.low (r.high + 1 - r.low) x) (in_range r x) there back
  where
    there : between r.low (r.high + 1 - r.low) x ≡ true → in_range r x ≡ true
    there h =
        let z = and-true (leb r.low x) _ h in
        and-of _ _ z.0
        (le-leb x r.high (omega (arith, leb-true r.low x z.0, ltb-true x (r.low + (r.high + 1 - r.low)) z.1)))

    back : in_range r x ≡ true → between r.low (r.high + 1 - r.low) x ≡ true
    back h =
        let z = and-true (leb r.low x) _ h in
        and-of _ _ z.0
        (lt-ltb x (r.low + (r.high + 1 - r.low)) (omega (arith, leb-true r.low x z.0, leb-true x r.high z.1)))

module _ (c : List ℕ) (x : ℕ) (w : FourWords c) (h : x < 256) where
  in_bytes : (lo n : ℕ) → in_class (with_bytes c lo n) x ≡ (between lo n x || in_class c x)
  unfolding with_bytes
  in_bytes lo zero = rw (between_none lo x)
  in_bytes lo (suc n) =
      in-byte (with_bytes c lo n) (lo + n) x h (four_bytes c lo n w).four
      ∙ ap (λ (y : Bool). eqb x (lo + n) || y) (in_bytes lo n)
      ∙ or-group (eqb x (lo + n)) (between lo n x) (in_class c x)
      ∙ ap (λ (y : Bool). y || in_class c x) (between_more lo n x)

  pub in_span : (r : Range) → in_class (with_span c r) x ≡ (in_range r x || in_class c x)
  in_span r = in_bytes r.low (r.high + 1 - r.low) ∙ ap (λ (y : Bool). y || in_class c x) (between_ends r x)

-- ---- some ranges

pub four-spans : (c : List ℕ) (rs : List Range) → FourWords c → FourWords (with_spans c rs)
unfolding with_spans
four-spans c [] w = w
four-spans c (r ∷ rs) w = four-spans (with_span c r) rs (four_bytes c r.low (r.high + 1 - r.low) w)

pub in-spans : (c : List ℕ) (rs : List Range) (x : ℕ) → FourWords c → x < 256 → in_class (with_spans c rs) x ≡ (in_some rs x || in_class c x)
unfolding with_spans in_some
in-spans c [] x w h = refl
in-spans c (r ∷ rs) x w h =
    in-spans (with_span c r) rs x (four_bytes c r.low (r.high + 1 - r.low) w) h
    ∙ ap (λ (y : Bool). in_some rs x || y) (in_span c x w h r)
    ∙ or_swap (in_range r x) (in_some rs x) (in_class c x)

-- the words of the ranges alone have the bytes of the ranges
pub in-ranges : (rs : List Range) (x : ℕ) → x < 256 → in_class (with_spans no_byte rs) x ≡ in_some rs x
in-ranges rs x h = in-spans no_byte rs x four-none h ∙ ap (λ (y : Bool). in_some rs x || y) (in-none x) ∙ or-none (in_some rs x)

-- ---- the theorem

pub class-bit : (c : List ℕ) (x : ℕ) → FourWords c → x < 256 → ClassBit c x
class-bit c x w h =
    record {
      empty = in-none x;
      full = in-every x h;
      single = λ b. in-byte no_byte b x h refl ∙ ap (λ (y : Bool). eqb x b || y) (in-none x) ∙ or-none (eqb x b);
      byte = λ b. in-byte c b x h w.four;
      range = λ r. in_span c x w h r;
      other = in-other c x w h;
    }
