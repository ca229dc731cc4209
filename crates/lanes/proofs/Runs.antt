-- Laws on the bytes at the front of a list that are of a kind, and on pairs of bytes.
use mathlib.Core.Path.{◌≡◌, refl, ap, ◌∙◌}
use mathlib.Core.Bool.{Bool, true, false, not, ◌||◌}
use mathlib.Core.List.{List, [], ◌∷◌}
use Prim.Native.Nat.{ℕ, zero, suc, ◌+◌, ◌≤◌, min}
use native.Mathlib.Decide.{ℕ_discrete}
use native.Mathlib.Omega.{arith}
use lib.ListN.{take, drop}
use lib.Seq.{drop-drop}
use lib.Dec.{eqb}
use borrow.Author.Tests.{eq-eqb, ne_eqb}
use Rattle.lists.specs.Elements.{one_of, leading}
use Rattle.lists.proofs.Leading.{leading-on, leading-ends}
use Rattle.buffer.specs.Parts.{part}
use Rattle.buffer.specs.First.{first_byte}
use Rattle.buffer.proofs.First.{first-byte-here, first-byte-on}
use Rattle.lanes.specs.Pair.{neither}

-- ---- one of two

pub is-first : (a b x : ℕ) → x ≡ a → one_of (a ∷ b ∷ []) x ≡ true
unfolding one_of
is-first a b x e = rw (eq-eqb x a e)

pub is-second : (a b x : ℕ) → x ≡ b → one_of (a ∷ b ∷ []) x ≡ true
unfolding one_of
is-second a b x e = rw (eq-eqb x b e) (either (eqb x a))
  where
    either : (u : Bool) → u || true ≡ true
    either true = refl
    either false = refl

pub is-neither : (a b x : ℕ) → (x ≡ a → ⊥) → (x ≡ b → ⊥) → one_of (a ∷ b ∷ []) x ≡ false
unfolding one_of
is-neither a b x n m = rw (ne_eqb x a n, ne_eqb x b m)

-- where it is not the first
pub or-second : (a b x : ℕ) → (x ≡ a → ⊥) → one_of (a ∷ b ∷ []) x ≡ eqb x b
unfolding one_of
or-second a b x n = rw (ne_eqb x a n) (last (eqb x b))
  where
    last : (u : Bool) → u || false ≡ u
    last true = refl
    last false = refl

-- ---- the first of two bytes is the first of the nearer one

pub leading-pair : (a b : ℕ) (s : List ℕ) → leading (neither a b) s ≡ min (first_byte a s) (first_byte b s)
unfolding leading first_byte
leading-pair a b [] = omega arith
leading-pair a b (x ∷ s) =
    elim (ℕ_discrete x a) [
      | yes e ↦ omega (arith, leading-ends (neither a b) x s (ap not (is-first a b x e)), first-byte-here a x s e)
      | no n ↦
          elim (ℕ_discrete x b) [
            | yes e ↦ omega (arith, leading-ends (neither a b) x s (ap not (is-second a b x e)), first-byte-here b x s e)
            | no m ↦
                omega (arith, leading-on (neither a b) x s (ap not (is-neither a b x n m)), first-byte-on a x s n, first-byte-on b x s m, leading-pair a b s)
          ]
    ]

-- ---- a run, part by part

module _ (kind : ℕ → Bool) where
  -- in the first n elements
  pub leading-take : (n : ℕ) (s : List ℕ) → leading kind (take n s) ≡ min n (leading kind s)
  unfolding leading
  leading-take zero s = omega arith
  leading-take (suc n) [] = omega arith
  leading-take (suc n) (x ∷ s) = by (kind x) refl (leading-take n s)
    where
      by : (u : Bool) → kind x ≡ u → leading kind (take n s) ≡ min n (leading kind s)
          → leading kind (x ∷ take n s) ≡ min (suc n) (leading kind (x ∷ s))
      by true e rest = omega (arith, leading-on kind x s e, leading-on kind x (take n s) e, rest)
      by false e rest = omega (arith, leading-ends kind x s e, leading-ends kind x (take n s) e)

  -- after the first n
  pub leading-after : (n : ℕ) (s : List ℕ) → n ≤ leading kind s → leading kind s ≡ n + leading kind (drop n s)
  unfolding leading
  leading-after zero s h = omega arith
  leading-after (suc n) [] h = absurd (omega arith)
  leading-after (suc n) (x ∷ s) h = by (kind x) refl (leading-after n s)
    where
      by : (u : Bool) → kind x ≡ u → (n ≤ leading kind s → leading kind s ≡ n + leading kind (drop n s))
          → leading kind (x ∷ s) ≡ suc n + leading kind (drop n s)
      by true e rest = omega (arith, leading-on kind x s e, rest (omega (arith, leading-on kind x s e)))
      by false e rest = absurd (omega (arith, leading-ends kind x s e))

  -- from index k on: n elements that all are
  pub run-passed : (k n : ℕ) (s : List ℕ) → n ≤ leading kind (drop k s) → leading kind (drop k s) ≡ n + leading kind (drop (k + n) s)
  run-passed k n s h = leading-after n (drop k s) h ∙ ap (λ (d : List ℕ). n + leading kind d) (drop-drop n k s)

  -- in the n elements from index k on
  pub run-part : (k n : ℕ) (s : List ℕ) → leading kind (part k n s) ≡ min n (leading kind (drop k s))
  unfolding part
  run-part k n s = leading-take n (drop k s)
