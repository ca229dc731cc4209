-- Laws on blocks that have a byte, and on words that are passed where they have none.
use mathlib.Core.Path.{◌≡◌, refl, sym, ap, ap₂, ◌∙◌}
use mathlib.Core.Bool.{Bool, true, false, cond, false≢true}
use mathlib.Core.List.{List}
use Prim.Native.Nat.{ℕ, zero, suc, ◌+◌, ◌≤◌, ◌<◌}
use native.Mathlib.Decide.{dec_lt}
use native.Mathlib.Omega.{arith}
use lib.ListN.{length, get_or}
use lib.Dec.{eqb}
use lib.Bits.{bit_or, or_add_and, and_le_l, and_le_r}
use borrow.Author.Tests.{eqb-true}
use Rattle.buffer.specs.Parts.{part}
use Rattle.buffer.specs.First.{first_byte}
use Rattle.buffer.proofs.Parts.{length_part}
use Rattle.buffer.proofs.First.{first-byte-below}
use Rattle.lanes.specs.Block.{among, Nearer}
use Rattle.lanes.specs.Marks.{marks}
use Rattle.lanes.proofs.Passed.{first_part}
use Rattle.lanes.proofs.Lanes.{marks-none, none-marks}

-- a block that has b is not passed
pub some-among : (b n a : ℕ) (s : List ℕ) → among b n a s ≡ true → first_byte b s < a + n
unfolding among
some-among b zero a s e = absurd (false≢true e)
some-among b (suc n) a s e = by (among b n a s) refl (some-among b n a s)
  where
    by : (u : Bool) → among b n a s ≡ u → (among b n a s ≡ true → first_byte b s < a + n) → first_byte b s < a + suc n
    by true f below = omega (arith, below f)
    by false f below =
        let here : get_or s (a + n) 0 ≡ b =
        eqb-true (get_or s (a + n) 0) b (ap (λ (u : Bool). cond u true (eqb (get_or s (a + n) 0) b)) (sym f) ∙ e) in
        elim (dec_lt (a + n) (first_byte b s)) [ yes h ↦ absurd (first-byte-below b s (a + n) h here) | no h ↦ omega arith ]

module _ (b k n : ℕ) (s : List ℕ) (fits : k + n ≤ length s) (i : k ≤ first_byte b s) where
  -- n bytes without a mark are passed
  pub unmarked : marks b (part k n s) ≡ 0 → k + n ≤ first_byte b s
  unmarked e = omega (arith, marks-none b (part k n s) e, length_part k n s fits, first_part b k n s i)

  pub all-unmarked : k + n ≤ first_byte b s → marks b (part k n s) ≡ 0
  all-unmarked h = none-marks b (part k n s) (omega (arith, length_part k n s fits, first_part b k n s i))

  -- n bytes with a mark have b
  pub marked : (marks b (part k n s) ≡ 0 → ⊥) → first_byte b s < k + n
  marked e =
      elim (dec_lt (first_byte b s) (k + n)) [
        | yes h ↦ h
        | no h ↦ absurd (e (all-unmarked (omega arith)))
      ]

-- no digit of either
pub or-none : (x y : ℕ) → bit_or x y ≡ 0 → (x ≡ 0) × (y ≡ 0)
or-none x y e =
    (omega (arith, or_add_and x y, and_le_l x y, and_le_r x y), omega (arith, or_add_and x y, and_le_l x y, and_le_r x y))

module _ (b k : ℕ) (s : List ℕ) (fits : k + 16 ≤ length s) (i : k ≤ first_byte b s) where
  -- 16 bytes without a mark are passed
  pub unmarked-16 : {x y : ℕ} → x ≡ marks b (part k 8 s) → y ≡ marks b (part (k + 8) 8 s) → bit_or x y ≡ 0 → k + 16 ≤ first_byte b s
  unmarked-16 {x} {y} e f z =
      let none = or-none x y z in
      let first : k + 8 ≤ first_byte b s = unmarked b k 8 s (omega arith) i (sym e ∙ none.0) in
      omega (arith, unmarked b (k + 8) 8 s (omega arith) first (sym f ∙ none.1))

  -- 16 bytes with a mark have b
  pub marked-16 : {x y : ℕ} → x ≡ marks b (part k 8 s) → y ≡ marks b (part (k + 8) 8 s) → (bit_or x y ≡ 0 → ⊥) → first_byte b s < k + 16
  marked-16 {x} {y} e f n =
      elim (dec_lt (first_byte b s) (k + 16)) [
        | yes h ↦ h
        | no h ↦
            let first : x ≡ 0 = e ∙ all-unmarked b k 8 s (omega arith) i (omega arith) in
            let second : y ≡ 0 = f ∙ all-unmarked b (k + 8) 8 s (omega arith) (omega arith) (omega arith) in
            absurd (n (ap₂ bit_or first second))
      ]

-- at most n bytes from a on are passed: all of them, or none of them where they have b
module _ (b a n : ℕ) (s : List ℕ) where
  pub nearer-on : {r : ℕ} → r ≡ a + n → a + n ≤ first_byte b s → Nearer b s a n r
  nearer-on e h = record { within = omega arith; before = omega arith; near = λ g. omega arith }

  pub nearer-here : {r : ℕ} → r ≡ a → a ≤ first_byte b s → first_byte b s < a + n → Nearer b s a n r
  nearer-here e h g = record { within = omega arith; before = omega arith; near = λ f. omega arith }
