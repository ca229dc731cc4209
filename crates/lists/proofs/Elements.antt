-- Laws on an element of a list, and on all of them.
use mathlib.Core.Path.{◌≡◌, refl, ap}
use mathlib.Core.Bool.{Bool, true, false}
use mathlib.Core.List.{List, [], ◌∷◌, ◌++◌}
use mathlib.Core.Option.{some, none}
use Prim.Native.Nat.{ℕ, zero, suc, ◌≤◌, ◌<◌}
use native.Mathlib.Omega.{arith}
use lib.ListN.{length}
use lib.Dec.{eqb}
use borrow.Author.Tests.{eqb-true, eqb-false}
use Rattle.lists.specs.Elements.{nth, Every, empty, cons, all_below}
use Rattle.lists.proofs.Options.{some_one, none-some}
use Rattle.lists.proofs.Tests.{and-true}

-- what a test of all numbers below n says of one
pub below_at : (f : ℕ → Bool) (n : ℕ) → all_below f n ≡ true → (k : ℕ) → k < n → f k ≡ true
unfolding all_below
below_at f zero h k l = absurd (omega arith)
below_at f (suc n) h k l = go (eqb k n) refl (below_at f n (and-true (f n) (all_below f n) h).1 k)
  where
    go : (q : Bool) → eqb k n ≡ q → (k < n → f k ≡ true) → f k ≡ true
    go true e r = rw (eqb-true k n e) (and-true (f n) (all_below f n) h).0
    go false e r = r (let ne = eqb-false k n e in omega arith)

-- the element that a list has at a number, where a statement holds of each
pub every-at : {A : Type 0} {P : A → Type 0} {l : List A} → Every P l → (n : ℕ) (a : A) → nth l n ≡ some a → P a
unfolding nth
every-at empty n a h = absurd (none-some h)
every-at (cons x e) zero a h = rw (← (some_one refl h)) x
every-at (cons x e) (suc n) a h = every-at e n a h

-- beyond a list's end there is no element
pub nth-none : {A : Type 0} (l : List A) (n : ℕ) → length l ≤ n → nth l n ≡ none
unfolding nth
nth-none [] n h = refl
nth-none (a ∷ l) zero h = absurd (omega arith)
nth-none (a ∷ l) (suc n) h = nth-none l n (omega arith)

-- what holds of the element at each number holds of every element
pub every_of : {A : Type 0} {P : A → Type 0} (l : List A) → ((n : ℕ) (a : A) → nth l n ≡ some a → P a) → Every P l
unfolding nth
every_of [] h = empty
every_of (a ∷ l) h = cons (h 0 a refl) (every_of l (λ n b e. h (suc n) b e))

-- one more after all of them
pub every_more : {A : Type 0} {P : A → Type 0} {xs : List A} {a : A} → Every P xs → P a → Every P (xs ++ (a ∷ []))
every_more empty h = cons h empty
every_more (cons x e) h = cons x (every_more e h)

-- an item of a list with one more at its end
pub nth-more : {A C : Type 0} (xs : List A) (a : A) (n : ℕ) (b : A) → nth (xs ++ (a ∷ [])) n ≡ some b
    → (n ≡ length xs → a ≡ b → C) → (n < length xs → nth xs n ≡ some b → C) → C
unfolding nth
nth-more [] a zero b h f g = f refl (some_one {o = some a} refl h)
nth-more [] a (suc n) b h f g = absurd (none-some h)
nth-more (x ∷ xs) a zero b h f g = g (omega arith) h
nth-more (x ∷ xs) a (suc n) b h f g = nth-more xs a n b h (λ e. f (ap suc e)) (λ e. g (omega arith))
