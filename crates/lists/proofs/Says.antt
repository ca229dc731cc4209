-- What a test says: it is true exactly if a statement holds. Laws for tests that are made of tests.
use mathlib.Core.Path.{◌≡◌, refl}
use mathlib.Core.Bool.{Bool, true, false, not, ◌&&◌, ◌||◌, false≢true}
use mathlib.Core.Logic.{◌↔◌}
use mathlib.Core.List.{List, [], ◌∷◌}
use mathlib.Core.Option.{Option, some, none}
use Prim.Native.Nat.{ℕ, zero, suc, ◌+◌, ◌≤◌, ◌<◌}
use native.Mathlib.Omega.{arith}
use lib.ListN.{length, get_or}
use lib.Dec.{eqb, ltb, leb}
use borrow.Author.Tests.{ltb-true, leb-true, eqb-true, lt-ltb, le-leb, eq-eqb}
use Rattle.lists.specs.Elements.{nth, is_some, all, all_from, agree}
use Rattle.lists.proofs.Options.{some_one, none-some}

abbrev pub Says : Bool → Type 0 → Type 0
Says b P = (b ≡ true) ↔ P

-- the same statement in another form
pub restated : {b : Bool} {P Q : Type 0} → Says b P → (P → Q) → (Q → P) → Says b Q
restated p f g = (λ h. f (p.0 h), λ q. p.1 (g q))

pub true-says : Says true (Unit {0})
true-says = (λ h. tt, λ h. refl)

-- ---- numbers

pub leb-says : (a b : ℕ) → Says (leb a b) (a ≤ b)
leb-says a b = (leb-true a b, le-leb a b)

pub ltb-says : (a b : ℕ) → Says (ltb a b) (a < b)
ltb-says a b = (ltb-true a b, lt-ltb a b)

pub eqb-says : (a b : ℕ) → Says (eqb a b) (a ≡ b)
eqb-says a b = (eqb-true a b, eq-eqb a b)

-- ---- tests of tests

-- both, where the first is known at the second
pub and_then : {a b : Bool} {P Q : Type 0} → Says a P → (P → Says b Q) → Says (a && b) (P × Q)
and_then {a = true} p q = (λ h. (p.0 refl, (q (p.0 refl)).0 h), λ h. (q h.0).1 h.1)
and_then {a = false} p q = (λ h. absurd (false≢true h), λ h. absurd (false≢true (p.1 h.0)))

pub and-says : {a b : Bool} {P Q : Type 0} → Says a P → Says b Q → Says (a && b) (P × Q)
and-says p q = and_then p (λ h. q)

pub agree-says : {a b : Bool} {P Q : Type 0} → Says a P → Says b Q → Says (agree a b) (P ↔ Q)
agree-says {a = true} p q = (λ h. (λ x. q.0 h, λ y. p.0 refl), λ h. q.1 (h.0 (p.0 refl)))
agree-says {a = false} {b = true} p q = (λ h. absurd (false≢true h), λ h. p.1 (h.1 (q.0 refl)))
agree-says {a = false} {b = false} p q = (λ h. (λ x. absurd (false≢true (p.1 x)), λ y. absurd (false≢true (q.1 y))), λ h. refl)

pub if-says : {a b : Bool} {P Q : Type 0} → Says a P → Says b Q → Says (not a || b) (P → Q)
if-says {a = true} p q = (λ h x. q.0 h, λ h. q.1 (h (p.0 refl)))
if-says {a = false} p q = (λ h x. absurd (false≢true (p.1 x)), λ h. refl)

-- ---- lists

pub is_some-says : {A : Type 0} (o : Option A) → Says (is_some o) ((a : A) × (o ≡ some a))
is_some-says none = (λ h. absurd (false≢true h), λ x. absurd (none-some x.1))
is_some-says (some a) = (λ h. (a, refl), λ x. refl)

module _ {A : Type 0} {f : A → Bool} {P : A → Type 0} (p : (a : A) → Says (f a) (P a)) where
  -- for each element
  pub all-says : (l : List A) → Says (all f l) ((n : ℕ) (a : A) → nth l n ≡ some a → P a)
  unfolding nth
  all-says [] = (λ h n a e. absurd (none-some e), λ h. refl)
  all-says (b ∷ l) = by (and-says (p b) (all-says l))
    where
      each : (P b) × ((n : ℕ) (a : A) → nth l n ≡ some a → P a) → (n : ℕ) (a : A) → nth (b ∷ l) n ≡ some a → P a
      each x zero a e = rw (← (some_one refl e)) x.0
      each x (suc n) a e = x.1 n a e

      by : Says (f b && all f l) ((P b) × ((n : ℕ) (a : A) → nth l n ≡ some a → P a))
          → Says (f b && all f l) ((n : ℕ) (a : A) → nth (b ∷ l) n ≡ some a → P a)
      by r = restated r each (λ h. (h 0 b refl, λ n a e. h (suc n) a e))

  -- the same by places below the length
  pub all-places : (z : A) (l : List A) → Says (all f l) ((k : ℕ) → k < length l → P (get_or l k z))
  all-places z [] = (λ h k b. absurd (omega arith), λ h. refl)
  all-places z (a ∷ l) = restated (and-says (p a) (all-places z l)) each (λ h. (h 0 (omega arith), λ k b. h (suc k) (omega arith)))
    where
      each : (P a) × ((k : ℕ) → k < length l → P (get_or l k z)) → (k : ℕ) → k < suc (length l) → P (get_or (a ∷ l) k z)
      each x zero b = x.0
      each x (suc k) b = x.1 k (omega arith)

module _ {A : Type 0} {f : ℕ → A → Bool} {P : ℕ → A → Type 0} (p : (n : ℕ) (a : A) → Says (f n a) (P n a)) where
  -- for each element and its number, the first of which is m
  pub from-says : (m : ℕ) (l : List A) → Says (all_from f m l) ((n k : ℕ) (a : A) → nth l n ≡ some a → k ≡ m + n → P k a)
  unfolding nth
  from-says m [] = (λ h n k a e q. absurd (none-some e), λ h. refl)
  from-says m (b ∷ l) = by (and-says (p m b) (from-says (suc m) l))
    where
      each : (P m b) × ((n k : ℕ) (a : A) → nth l n ≡ some a → k ≡ suc m + n → P k a)
          → (n k : ℕ) (a : A) → nth (b ∷ l) n ≡ some a → k ≡ m + n → P k a
      each x zero k a e q =
          let here : k ≡ m = omega arith in
          rw (← (some_one refl e), here) x.0
      each x (suc n) k a e q = x.1 n k a e (omega arith)

      by : Says (f m b && all_from f (suc m) l) ((P m b) × ((n k : ℕ) (a : A) → nth l n ≡ some a → k ≡ suc m + n → P k a))
          → Says (f m b && all_from f (suc m) l) ((n k : ℕ) (a : A) → nth (b ∷ l) n ≡ some a → k ≡ m + n → P k a)
      by r = restated r each (λ h. (h 0 m b refl (omega arith), λ n k a e q. h (suc n) k a e (omega arith)))

  -- the first of which is 0
  pub numbered-says : (l : List A) → Says (all_from f 0 l) ((n : ℕ) (a : A) → nth l n ≡ some a → P n a)
  numbered-says l = restated (from-says 0 l) (λ h n a e. h n n a e (omega arith)) (λ h n k a e q. let here : k ≡ n = omega arith in rw here (h n a e))
