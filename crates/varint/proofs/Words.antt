-- Elements put into a room, as far as the room goes.
use mathlib.Core.Path.{◌≡◌, refl, sym, ap, ◌∙◌}
use mathlib.Core.Bool.{Bool, true, false, cond}
use mathlib.Core.List.{List, [], ◌∷◌, ◌++◌}
use Prim.Native.Nat.{ℕ, suc, ◌+◌, ◌≤◌}
use native.Mathlib.Omega.{arith}
use native.Mathlib.Nat.{add-zero}
use lib.ListN.{length, take, drop, set}
use lib.Seq.{set_out, sets, sets-eq}
use lib.Dec.{ltb}
use borrow.Author.Tests.{ltb-false}
use Rattle.varint.specs.Room.{with_one, with_all}

-- a room isn't changed where it ends, and there `set` changes nothing either
pub one_set : (room : List ℕ) (k x : ℕ) → with_one room k x ≡ set room k x
one_set room k x = by (ltb k (length room)) refl
  where
    by : (t : Bool) → ltb k (length room) ≡ t → cond t (set room k x) room ≡ set room k x
    by true e = refl
    by false e = sym (set_out room k x (ltb-false k (length room) e))

pub all-sets : (room : List ℕ) (k : ℕ) (l : List ℕ) → with_all room k l ≡ sets room k l
unfolding with_all
all-sets room k [] = refl
all-sets room k (x ∷ l) = all-sets (with_one room k x) (suc k) l ∙ ap (λ (r : List ℕ). sets r (suc k) l) (one_set room k x)

-- what fits is all there, and the rest of the room is as it was
pub all-fits : (room : List ℕ) (k : ℕ) (l : List ℕ) → k + length l ≤ length room → with_all room k l ≡ take k room ++ l ++ drop (k + length l) room
all-fits room k l h = all-sets room k l ∙ sets-eq l room k h

-- one list after the other
pub all_append : (room : List ℕ) (k : ℕ) (a b : List ℕ) → with_all room k (a ++ b) ≡ with_all (with_all room k a) (k + length a) b
unfolding with_all
all_append room k [] b = ap (λ (n : ℕ). with_all room n b) (sym (add-zero k))
all_append room k (x ∷ a) b =
    all_append (with_one room k x) (suc k) a b
    ∙ ap (λ (n : ℕ). with_all (with_all (with_one room k x) (suc k) a) n b) (let z : suc k + length a ≡ k + suc (length a) = omega arith in z)
