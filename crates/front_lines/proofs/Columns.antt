-- The columns of bytes as they are shown, and of what is under them.
use mathlib.Core.Path.{◌≡◌, refl}
use mathlib.Core.Bool.{Bool, true, false, cond}
use mathlib.Core.List.{List, [], ◌∷◌}
use Prim.Native.Nat.{ℕ, ◌+◌, ◌*◌, ◌/◌, ◌%◌, ◌≤◌}
use native.Mathlib.Omega.{arith}
use lib.ListN.{length, length-append}
use lib.Dec.{eqb}
use Rattle.front_places.specs.Shown.{TAB, prints, width_of, columns_of, shown_byte, blank_byte, spelled, shown, blanks}

shown-width : (b : ℕ) → length (shown_byte b) ≡ width_of b
unfolding shown_byte width_of
shown-width b = by (prints b)
  where
    by : (t : Bool) → length (cond t (b ∷ []) (92 ∷ (48 + b / 64) ∷ (48 + b / 8 % 8) ∷ (48 + b % 8) ∷ [])) ≡ cond t 1 4
    by true = refl
    by false = refl

blank-width : (b : ℕ) → length (blank_byte b) ≡ width_of b
unfolding blank_byte width_of prints
blank-width b = by (eqb b TAB) refl
  where
    fill : (t : Bool) → length {A = ℕ} (cond t (32 ∷ []) (32 ∷ 32 ∷ 32 ∷ 32 ∷ [])) ≡ cond t 1 4
    fill true = refl
    fill false = refl

    by : (t : Bool) → eqb b TAB ≡ t → length (cond t (b ∷ []) (cond (prints b) (32 ∷ []) (32 ∷ 32 ∷ 32 ∷ 32 ∷ []))) ≡ cond (prints b) 1 4
    by true e = rw e
    by false e = fill (prints b)

width_few : (b : ℕ) → width_of b ≤ 4
unfolding width_of
width_few b = by (prints b)
  where
    by : (t : Bool) → cond t 1 4 ≤ 4
    by true = omega arith
    by false = omega arith

pub shown-few : (b : ℕ) → length (shown_byte b) ≤ 4
shown-few b = omega (arith, shown-width b, width_few b)

pub blank-few : (b : ℕ) → length (blank_byte b) ≤ 4
blank-few b = omega (arith, blank-width b, width_few b)

spelled-few : (spell : ℕ → List ℕ) → ((b : ℕ) → length (spell b) ≤ 4) → (l : List ℕ) → length (spelled spell l) ≤ 4 * length l
unfolding spelled
spelled-few spell h [] = omega arith
spelled-few spell h (b ∷ l) = omega (arith, h b, spelled-few spell h l, length-append (spell b) (spelled spell l))

pub shown-most : (l : List ℕ) → length (shown l) ≤ 4 * length l
shown-most l = spelled-few shown_byte shown-few l

pub blanks-most : (l : List ℕ) → length (blanks l) ≤ 4 * length l
blanks-most l = spelled-few blank_byte blank-few l

spelled-columns : (spell : ℕ → List ℕ) → ((b : ℕ) → length (spell b) ≡ width_of b) → (l : List ℕ) → length (spelled spell l) ≡ columns_of l
unfolding spelled columns_of
spelled-columns spell h [] = refl
spelled-columns spell h (b ∷ l) = omega (arith, h b, spelled-columns spell h l, length-append (spell b) (spelled spell l))

-- The caret is under its byte: before it stand as many columns as are shown before the byte.
pub caret-under : (l : List ℕ) → length (blanks l) ≡ length (shown l)
caret-under l = omega (arith, spelled-columns blank_byte blank-width l, spelled-columns shown_byte shown-width l)
