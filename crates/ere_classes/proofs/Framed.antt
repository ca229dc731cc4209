-- Laws of lists of three, and of words of which some are stored anew.
use mathlib.Core.Path.{◌≡◌, refl, ◌∙◌}
use mathlib.Core.List.{List, [], ◌∷◌}
use Prim.Native.Nat.{ℕ, ◌+◌, ◌≤◌}
use native.Mathlib.Omega.{arith}
use lib.ListN.{length, get_or, set, length-set}
use lib.Seq.{get_or-set_other}
use Rattle.ere_classes.specs.Frames.{Frame}

pub three : (x y z x' y' z' : ℕ) → x ≡ x' → y ≡ y' → z ≡ z' → x ∷ y ∷ z ∷ [] ≡ x' ∷ y' ∷ z' ∷ []
three x y z x' y' z' e f g = cc

-- a list of three
pub spelled : (s : List ℕ) → length s ≡ 3 → get_or s 0 0 ∷ get_or s 1 0 ∷ get_or s 2 0 ∷ [] ≡ s
spelled [] e = absurd (omega arith)
spelled (x ∷ []) e = absurd (omega arith)
spelled (x ∷ y ∷ []) e = absurd (omega arith)
spelled (x ∷ y ∷ z ∷ []) e = refl
spelled (x ∷ y ∷ z ∷ w ∷ s) e = absurd (omega arith)

-- ---- frames

pub frame-none : (low high : ℕ) (d : List ℕ) → Frame low high d d
frame-none low high d = record { size = refl; below = λ i h. refl; above = λ i h. refl }

pub frame_on : {low high : ℕ} {d e f : List ℕ} → Frame low high d e → Frame low high e f → Frame low high d f
frame_on p q = record {
  size = q.size ∙ p.size;
  below = λ i h. q.below i h ∙ p.below i h;
  above = λ i h. q.above i h ∙ p.above i h;
}

-- a wider frame
pub frame-wider : {low high low' high' : ℕ} {d e : List ℕ} → low' ≤ low → high ≤ high' → Frame low high d e → Frame low' high' d e
frame-wider l h p = record { size = p.size; below = λ i g. p.below i (omega arith); above = λ i g. p.above i (omega arith) }

pub frame-set : (d : List ℕ) (p v : ℕ) → Frame p (p + 1) d (set d p v)
frame-set d p v = record {
  size = length-set d p v;
  below = λ i h. get_or-set_other d p i v 0 (omega arith);
  above = λ i h. get_or-set_other d p i v 0 (omega arith);
}
