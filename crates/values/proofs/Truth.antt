-- "Truth: numbers and numeric-looking field text nonzero, other texts nonempty, unset false; a numeric look takes
-- the number here too (11, 12)."
use mathlib.Core.Path.{◌≡◌, refl, sym, ap}
use mathlib.Core.Bool.{true, false, not}
use mathlib.Core.List.{List, [], ◌∷◌}
use Prim.Native.Nat.{ℕ, zero, suc}
use native.Mathlib.Omega.{arith}
use lib.IntN.{ℤ, pos, negsuc, nat_abs, pos-ne-negsuc}
use lib.ListN.{length}
use borrow.Author.Tests.{ne_eqb}
use Rattle.buffer.proofs.Ordering.{unless}
use Rattle.number.specs.Arithmetic.{is_zero}
use Rattle.numeral.specs.Form.{looks_numeric, Looks}
use Rattle.numeral.proofs.Look.{looks-true, true-looks}
use Rattle.values.specs.Value.{Value, unset, number, text, field_text, Stop, gives, stops, text_of, number_of, nonempty}
use Rattle.values.specs.Value.{numeric, truth_of}
use Rattle.values.specs.Operations.{not_of}
use Rattle.values.specs.Explained.{so, not_so, TrueIf}

nonzero : (z : ℤ) → TrueIf (z ≡ pos 0 → ⊥) (gives (not (is_zero z)))
nonzero (pos zero) = not_so (λ n. n refl)
nonzero (pos (suc n)) = rw (ne_eqb (suc n) 0 (λ e. omega arith)) (so (λ e. omega (arith, ap nat_abs e)))
nonzero (negsuc n) = rw (ne_eqb (suc n) 0 (λ e. omega arith)) (so (λ e. pos-ne-negsuc 0 n (sym e)))

some_bytes : (l : List ℕ) → TrueIf (l ≡ [] → ⊥) (gives (nonempty l))
some_bytes [] = not_so (λ n. n refl)
some_bytes (b ∷ l) = rw (ne_eqb (suc (length l)) 0 (λ e. omega arith)) (so (λ e. omega (arith, ap length e)))

pub truth-unset : truth_of unset ≡ gives false
unfolding truth_of numeric number_of
truth-unset = refl

pub truth-number : (z : ℤ) → TrueIf (z ≡ pos 0 → ⊥) (truth_of (number z))
unfolding truth_of numeric number_of
truth-number z = nonzero z

pub truth-text : (l : List ℕ) → TrueIf (l ≡ [] → ⊥) (truth_of (text l))
unfolding truth_of numeric text_of
truth-text l = some_bytes l

-- field text without a numeric look is as other texts
pub truth-plain : (l : List ℕ) → (Looks l → ⊥) → TrueIf (l ≡ [] → ⊥) (truth_of (field_text l))
unfolding truth_of numeric text_of
truth-plain l n = rw (unless (looks_numeric l) (λ h. n (looks-true l h))) (some_bytes l)

-- with one, it takes the number
module _ (l : List ℕ) (looks : Looks l) where
  pub truth-look : {z : ℤ} → number_of (field_text l) ≡ gives z → TrueIf (z ≡ pos 0 → ⊥) (truth_of (field_text l))
  unfolding truth_of numeric
  truth-look {z} h = rw (true-looks l looks, h) (nonzero z)

  pub truth-look-stops : {s : Stop} → number_of (field_text l) ≡ stops s → truth_of (field_text l) ≡ stops s
  unfolding truth_of numeric
  truth-look-stops h = rw (true-looks l looks, h)

-- ---- not

module _ (a : Value) where
  pub not-true : truth_of a ≡ gives true → not_of a ≡ gives (number (pos 0))
  unfolding not_of
  not-true h = rw h

  pub not-false : truth_of a ≡ gives false → not_of a ≡ gives (number (pos 1))
  unfolding not_of
  not-false h = rw h

  pub not-stops : {s : Stop} → truth_of a ≡ stops s → not_of a ≡ stops s
  unfolding not_of
  not-stops h = rw h
