-- Runs of stores: one after another, and one before a run that is there.
use mathlib.Core.Path.{◌≡◌, refl, sym, ap, ◌∙◌}
use mathlib.Core.List.{List, [], ◌∷◌, ◌++◌}
use Prim.Native.Nat.{ℕ, suc, ◌+◌, ◌<◌, ◌≤◌}
use lib.ListN.{length, set}
use lib.Seq.{sets, set_comm}
use native.Mathlib.Omega.{arith}

-- a run of stores in two parts
pub sets-append : (a b xs : List ℕ) (i : ℕ) → sets xs i (a ++ b) ≡ sets (sets xs i a) (i + length a) b
sets-append [] b xs i = let z : i ≡ i + 0 = omega arith in ap (λ (k : ℕ). sets xs k b) z
sets-append (v ∷ a) b xs i =
    let z : suc i + length a ≡ i + suc (length a) = omega arith in
    sets-append a b (set xs i v) (suc i) ∙ ap (λ (k : ℕ). sets (sets (set xs i v) (suc i) a) k b) z

-- a store below a run of stores can be made first
pub set_below : (vs xs : List ℕ) (i j v : ℕ) → j < i → set (sets xs i vs) j v ≡ sets (set xs j v) i vs
set_below [] xs i j v h = refl
set_below (w ∷ vs) xs i j v h =
    set_below vs (set xs i w) (suc i) j v (omega arith)
    ∙ ap (λ (l : List ℕ). sets l (suc i) vs) (set_comm xs i j w v (omega arith))

-- so can a run of stores that ends there
pub sets_below : (ws vs xs : List ℕ) (i j : ℕ) → j + length ws ≤ i → sets (sets xs i vs) j ws ≡ sets (sets xs j ws) i vs
sets_below [] vs xs i j h = refl
sets_below (w ∷ ws) vs xs i j h =
    ap (λ (l : List ℕ). sets l (suc j) ws) (set_below vs xs i j w (omega arith))
    ∙ sets_below ws vs (set xs j w) i (suc j) (omega arith)

-- stores before a run that begins where they end: one run
pub sets-before : (ws vs xs : List ℕ) (i j : ℕ) → j + length ws ≡ i → sets (sets xs i vs) j ws ≡ sets xs j (ws ++ vs)
sets-before ws vs xs i j h =
    sets_below ws vs xs i j (omega arith)
    ∙ (ap (λ (k : ℕ). sets (sets xs j ws) k vs) (sym h) ∙ sym (sets-append ws vs xs j))

-- a run that goes on where another ends: one run
pub sets-after : (vs ws xs : List ℕ) (i j : ℕ) → i + length vs ≡ j → sets (sets xs i vs) j ws ≡ sets xs i (vs ++ ws)
sets-after vs ws xs i j h = ap (λ (k : ℕ). sets (sets xs i vs) k ws) (sym h) ∙ sym (sets-append vs ws xs i)
