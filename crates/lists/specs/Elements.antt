-- The elements of a list: one of them, all of them, those at its front.
use Rattle.std.specs.Prelude.{◌≡◌, Bool, true, false, not, cond, ◌&&◌, ◌||◌, List, [], ◌∷◌, ℕ, zero, suc, eqb}
use Rattle.std.proofs.Math.Option.{Option, some, none}

-- element n of a list, if it has one
unfoldable pub nth : {A : Type 0} → List A → ℕ → Option A
nth [] n = none
nth (a ∷ l) zero = some a
nth (a ∷ l) (suc n) = nth l n

abbrev pub is_some : {A : Type 0} → Option A → Bool
is_some none = false
is_some (some a) = true

-- whether a number is one of a list's
unfoldable pub one_of : List ℕ → ℕ → Bool
one_of [] b = false
one_of (x ∷ l) b = eqb b x || one_of l b

-- whether two tests answer the same
abbrev pub agree : Bool → Bool → Bool
agree a b = cond a b (not b)

-- ---- all elements

-- a statement holds of each element
pub data Every {A : Type 0} (P : A → Type 0) : List A → Type 0 where
  empty : Every P []
  cons : {a : A} {l : List A} → P a → Every P l → Every P (a ∷ l)

-- a test holds of each element
abbrev pub All : {A : Type 0} → (A → Bool) → List A → Type 0
All {A} kind = Every (λ (a : A). kind a ≡ true)

-- the same, computed
abbrev pub all : {A : Type 0} → (A → Bool) → List A → Bool
all f [] = true
all f (a ∷ l) = f a && all f l

-- a test of each element with its number, the first of which is n
abbrev pub all_from : {A : Type 0} → (ℕ → A → Bool) → ℕ → List A → Bool
all_from f n [] = true
all_from f n (a ∷ l) = f n a && all_from f (suc n) l

-- a test holds at each number below n
unfoldable pub all_below : (ℕ → Bool) → ℕ → Bool
all_below f zero = true
all_below f (suc n) = f n && all_below f n

-- ---- the front of a list

-- how many elements of a kind a list begins with
unfoldable pub leading : (ℕ → Bool) → List ℕ → ℕ
leading kind [] = 0
leading kind (b ∷ t) = cond (kind b) (suc (leading kind t)) 0
