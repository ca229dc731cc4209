-- Laws on bytes in a set, or outside it, up to where they stop: a list is cut there in one way only.
use mathlib.Core.Path.{◌≡◌, refl, sym, ap, subst, ◌∙◌}
use mathlib.Core.Bool.{Bool, true, false, true≢false, cond, not, ◌||◌}
use mathlib.Core.List.{List, [], ◌∷◌, ◌++◌}
use Prim.Native.Nat.{ℕ, suc, ◌+◌, ◌≤◌}
use native.Mathlib.Omega.{arith}
use lib.ListN.{length, take, drop, length-drop}
use lib.Seq.{drop-drop}
use lib.Dec.{eqb}
use borrow.Author.Tests.{not-true, not-false, eqb-true, eq-eqb, ne_eqb}
use Rattle.lists.proofs.Leading.{leading-on, leading-ends, leading_le}
use Rattle.lists.specs.Elements.{one_of, leading, All, empty, cons}
use Rattle.buffer.specs.Parts.{part}
use Rattle.buffer.specs.First.{first_byte}
use Rattle.splitting.specs.Field.{is_in}
use Rattle.splitting.specs.Meaning.{Behind, at-end, apart}

pub nil-no-cons : {b : ℕ} {l : List ℕ} → [] ≡ b ∷ l → ⊥
nil-no-cons e = omega (arith, ap length e)

module _ (inside : Bool) (set : List ℕ) where
  -- nothing, or first a byte that is not
  abbrev pub Stops : List ℕ → Type 0
  Stops [] = Unit
  Stops (b ∷ t) = is_in inside set b ≡ false

  pub leading-all : (l : List ℕ) → All (is_in inside set) (take (leading (is_in inside set) l) l)
  unfolding leading
  leading-all [] = empty
  leading-all (b ∷ t) = by (is_in inside set b) refl (leading-all t)
    where
      by : (x : Bool) → is_in inside set b ≡ x → All (is_in inside set) (take (leading (is_in inside set) t) t) → All (is_in inside set) (take (leading (is_in inside set) (b ∷ t)) (b ∷ t))
      by true e r = rw (leading-on (is_in inside set) b t e) (cons e r)
      by false e r = rw (leading-ends (is_in inside set) b t e) empty

  pub leading-stop : (l : List ℕ) → Stops (drop (leading (is_in inside set) l) l)
  unfolding leading
  leading-stop [] = tt
  leading-stop (b ∷ t) = by (is_in inside set b) refl (leading-stop t)
    where
      by : (x : Bool) → is_in inside set b ≡ x → Stops (drop (leading (is_in inside set) t) t) → Stops (drop (leading (is_in inside set) (b ∷ t)) (b ∷ t))
      by true e r = rw (leading-on (is_in inside set) b t e) r
      by false e r = rw (leading-ends (is_in inside set) b t e) e

  -- a byte that is cannot be where the bytes stop
  stopped : {b : ℕ} {l t : List ℕ} → is_in inside set b ≡ true → t ≡ b ∷ l → Stops t → ⊥
  stopped h e s = true≢false (sym h ∙ subst Stops e s)

  -- a list is cut in one way
  pub cut-one : {f g : List ℕ} (t u : List ℕ) → All (is_in inside set) f → All (is_in inside set) g → Stops t → Stops u → f ++ t ≡ g ++ u → (f ≡ g) × (t ≡ u)
  cut-one t u empty empty s r e = (refl, e)
  cut-one t u empty (cons h y) s r e = absurd (stopped h e s)
  cut-one t u (cons h x) empty s r e = absurd (stopped h (sym e) r)
  cut-one t u (cons h x) (cons k y) s r e = let z = cut-one t u x y s r (cc) in (cc, z.1)

-- ---- the run from a place of a text on

module _ (text : List ℕ) (inside : Bool) (set : List ℕ) (at : ℕ) where
  pub run-all : All (is_in inside set) (part at (leading (is_in inside set) (drop at text)) text)
  unfolding part
  run-all = leading-all inside set (drop at text)

  pub run-stops : Stops inside set (drop (at + leading (is_in inside set) (drop at text)) text)
  run-stops = rw drop-drop at (leading-stop inside set (drop at text))

  pub run-most : at ≤ length text → at + leading (is_in inside set) (drop at text) ≤ length text
  run-most h = omega (arith, length-drop at text, leading_le (is_in inside set) (drop at text))

-- ---- one byte

-- a byte is no b exactly if it is another
no-byte-test : (b x : ℕ) → is_in false (b ∷ []) x ≡ not (eqb x b)
unfolding one_of
no-byte-test b x = by (eqb x b)
  where
    by : (y : Bool) → not (y || false) ≡ not y
    by true = refl
    by false = refl

pub byte-itself : (b : ℕ) → is_in false (b ∷ []) b ≡ false
byte-itself b = no-byte-test b b ∙ ap not (eq-eqb b b refl)

pub other_byte : (b x : ℕ) → (x ≡ b → ⊥) → is_in false (b ∷ []) x ≡ true
other_byte b x h = no-byte-test b x ∙ ap not (ne_eqb x b h)

-- where the bytes that are no b end, b follows
pub stop-byte : (b x : ℕ) → is_in false (b ∷ []) x ≡ false → x ≡ b
stop-byte b x h = eqb-true x b (not-false (eqb x b) (sym (no-byte-test b x) ∙ h))

-- the first place of a byte is where the bytes that are no such byte stop
pub first-leading : (b : ℕ) (l : List ℕ) → first_byte b l ≡ leading (is_in false (b ∷ [])) l
unfolding first_byte leading
first-leading b [] = refl
first-leading b (x ∷ l) = by (eqb x b) (is_in false (b ∷ []) x) (no-byte-test b x) (first-leading b l)
  where
    by : (y z : Bool) → z ≡ not y → first_byte b l ≡ leading (is_in false (b ∷ [])) l → cond y 0 (suc (first_byte b l)) ≡ cond z (suc (leading (is_in false (b ∷ [])) l)) 0
    by true z e r = rw e
    by false z e r = rw (e, r)

-- ---- blanks

-- after a field, a blank is where the bytes that are none stop
pub stop-behind : (set t : List ℕ) → Stops false set t → Behind set t
stop-behind set [] s = at-end
stop-behind set (b ∷ t) s = apart (not-false (one_of set b) s)

pub behind-stop : {set t : List ℕ} → Behind set t → Stops false set t
behind-stop at-end = tt
behind-stop (apart h) = ap not h

-- a byte outside the set is where the blanks stop
pub outside-stop : (set : List ℕ) (b : ℕ) → is_in false set b ≡ true → is_in true set b ≡ false
outside-stop set b h = not-true (one_of set b) h
