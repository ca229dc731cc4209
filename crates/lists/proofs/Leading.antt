-- Laws on the elements of one kind that a list begins with.
use mathlib.Core.Path.{◌≡◌, refl, ap, ◌∙◌}
use mathlib.Core.Bool.{Bool, true, false, cond}
use mathlib.Core.List.{List, [], ◌∷◌}
use Prim.Native.Nat.{ℕ, zero, suc, ◌+◌, ◌≤◌, ◌<◌}
use native.Mathlib.Numerals.{add-one}
use native.Mathlib.Omega.{arith}
use lib.ListN.{length, get_or, drop, drop_of_length-le}
use lib.Seq.{drop-cons}
use Rattle.lists.specs.Elements.{leading}

module _ (kind : ℕ → Bool) where
  leading-le-by : (b : Bool) (n m : ℕ) → n ≤ m → cond b (suc n) 0 ≤ suc m
  leading-le-by true n m h = omega arith
  leading-le-by false n m h = omega arith

  pub leading_le : (t : List ℕ) → leading kind t ≤ length t
  unfolding leading
  leading_le [] = omega arith
  leading_le (b ∷ t) = leading-le-by (kind b) (leading kind t) (length t) (leading_le t)

  -- what is left of a run from index k on: one byte more, none, and the text's end
  module _ (t : List ℕ) (k : ℕ) where
    opened : k < length t → leading kind (drop k t) ≡ cond (kind (get_or t k 0)) (suc (leading kind (drop (suc k) t))) 0
    unfolding leading
    opened h = ap (leading kind) (drop-cons t k 0 h)

    pub leading-more : k < length t → kind (get_or t k 0) ≡ true → leading kind (drop k t) ≡ leading kind (drop (k + 1) t) + 1
    leading-more h e = opened h ∙ rw (e, add-one k, add-one)

    pub leading-stop : k < length t → kind (get_or t k 0) ≡ false → leading kind (drop k t) ≡ 0
    leading-stop h e = opened h ∙ rw e

    pub leading_end : length t ≤ k → leading kind (drop k t) ≡ 0
    unfolding leading
    leading_end h = ap (leading kind) (drop_of_length-le t {i = k} h)

  pub leading-on : (b : ℕ) (t : List ℕ) → kind b ≡ true → leading kind (b ∷ t) ≡ suc (leading kind t)
  unfolding leading
  leading-on b t h = rw h

  pub leading-ends : (b : ℕ) (t : List ℕ) → kind b ≡ false → leading kind (b ∷ t) ≡ 0
  unfolding leading
  leading-ends b t h = rw h

  -- each of them is
  pub leading-each : (l : List ℕ) (k : ℕ) → k < leading kind l → kind (get_or l k 0) ≡ true
  unfolding leading
  leading-each [] k h = absurd (omega arith)
  leading-each (b ∷ t) k h = by (kind b) refl k h (leading-each t)
    where
      by : (x : Bool) → kind b ≡ x → (k : ℕ) → k < leading kind (b ∷ t)
          → ((k : ℕ) → k < leading kind t → kind (get_or t k 0) ≡ true) → kind (get_or (b ∷ t) k 0) ≡ true
      by true e zero g r = e
      by true e (suc k) g r = r k (omega (arith, leading-on b t e))
      by false e k g r = absurd (omega (arith, leading-ends b t e))

  -- and the next byte is not
  pub leading-stops : (l : List ℕ) → leading kind l < length l → kind (get_or l (leading kind l) 0) ≡ false
  leading-stops [] h = absurd (omega arith)
  leading-stops (b ∷ t) h = by (kind b) refl (leading-stops t)
    where
      by : (x : Bool) → kind b ≡ x → (leading kind t < length t → kind (get_or t (leading kind t) 0) ≡ false)
          → kind (get_or (b ∷ t) (leading kind (b ∷ t)) 0) ≡ false
      by true e r = ap (λ (k : ℕ). kind (get_or (b ∷ t) k 0)) (leading-on b t e) ∙ r (omega (arith, leading-on b t e))
      by false e r = ap (λ (k : ℕ). kind (get_or (b ∷ t) k 0)) (leading-ends b t e) ∙ e
