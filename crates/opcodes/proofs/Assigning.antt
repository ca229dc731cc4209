-- Which variables can be assigned.
use mathlib.Core.Path.{◌≡◌, refl, sym, ap}
use mathlib.Core.Bool.{true, false}
use mathlib.Core.List.{List, [], ◌∷◌, map}
use Prim.Native.Nat.{ℕ, zero, suc, ◌≤◌, ◌<◌}
use native.Mathlib.Omega.{arith}
use lib.ListN.{length, get_or}
use Rattle.lists.specs.Elements.{nth}
use Rattle.semantics.specs.Variables.{Variable, specials, special_count, special_of, may_assign, assignable}
use Rattle.semantics.proofs.Specials.{special-none}

-- all that are no special ones
pub assignable-users : (edition v : ℕ) → 7 ≤ v → true ≡ assignable edition v
unfolding assignable special_count
assignable-users edition v h = sym (ap may_assign (special-none edition v h))

may-nth : (l : List Variable) (n : ℕ) → n < length l → get_or (map (λ v. v.assignable) l) n false ≡ may_assign (nth l n)
unfolding nth
may-nth [] n h = absurd (omega arith)
may-nth (v ∷ l) zero h = refl
may-nth (v ∷ l) (suc n) h = may-nth l n (omega arith)

pub assignable-specials : (edition v : ℕ) → v < 7
    → get_or (false ∷ false ∷ true ∷ true ∷ true ∷ false ∷ false ∷ []) v false ≡ assignable edition v
unfolding assignable special_of special_count specials
assignable-specials edition v h = may-nth specials v h
