-- What join, length, `index` and `substr` give.
use mathlib.Core.Path.{◌≡◌, refl, ap}
use mathlib.Core.Bool.{Bool, not, cond, ◌&&◌}
use mathlib.Core.List.{List, [], ◌∷◌, ◌++◌}
use mathlib.Core.Option.{Option, some, none}
use Prim.Native.Nat.{ℕ, suc, ◌≤◌, ◌<◌}
use native.Mathlib.Omega.{arith}
use lib.IntN.{ℤ, pos, ◌+ℤ◌}
use lib.ListN.{length}
use lib.Dec.{eqb}
use borrow.Author.Tests.{ne_eqb, le-leb, lt-leb}
use Rattle.edition.specs.Limits.{text_bytes}
use Rattle.edition.specs.Outcomes.{text_too_long}
use Rattle.buffer.specs.First.{first_part, IsFirst}
use Rattle.buffer.proofs.First.{first-part-right}
use Rattle.values.specs.Value.{Value, number, text, Stop, gives, stops, text_of, number_of}
use Rattle.values.specs.Operations.{join_of, length_of, index_of, place_of, between, substr_of}
use Rattle.values.specs.Explained.{stops_with, Selects, ended, taken, passed, Position, Index, empty, nowhere}
use Rattle.values.specs.Explained.{first}
use Rattle.values.proofs.Orders.{Sides, within, above, sides}

-- ---- join: both texts, or 14 exactly if they have over 512 bytes

module _ (a b : Value) where
  pub join-gives : length (text_of a ++ text_of b) ≤ text_bytes → join_of a b ≡ gives (text (text_of a ++ text_of b))
  unfolding join_of
  join-gives h = rw (le-leb (length (text_of a ++ text_of b)) text_bytes h)

  pub join-stops : text_bytes < length (text_of a ++ text_of b) → join_of a b ≡ stops_with text_too_long
  unfolding join_of
  join-stops h = rw (lt-leb (length (text_of a ++ text_of b)) text_bytes h)

-- ---- length: how many bytes

pub length-counts : (a : Value) → length_of a ≡ gives (number (pos (length (text_of a))))
unfolding length_of
length-counts a = refl

-- ---- index: the one answer that `Index` allows

first-place : (s t : List ℕ) → (t ≡ [] → ⊥) → (o : Option ℕ) → IsFirst t s o → Index s t (place_of o)
first-place s t n none w = nowhere w
first-place s t n (some k) w = first n w

place-right : (s t : List ℕ) → Index s t (cond (eqb (length t) 0) 0 (place_of (first_part t s)))
place-right s [] = empty refl
place-right s (x ∷ t) =
    rw (ne_eqb (suc (length t)) 0 (λ e. omega arith))
    (first-place s (x ∷ t) (λ e. omega (arith, ap length e)) (first_part (x ∷ t) s) (first-part-right (x ∷ t) s))

pub index_is : (a b : Value) → (n : ℕ) × ((index_of a b ≡ gives (number (pos n))) × (Index (text_of a) (text_of b) n))
unfolding index_of
index_is a b = (_, (refl, place-right (text_of a) (text_of b)))

pub index-one : {s t : List ℕ} {m n : ℕ} → Index s t m → Index s t n → m ≡ n
index-one (empty e) (empty f) = refl
index-one (empty e) (nowhere f) = refl
index-one (empty e) (first n w) = absurd (n e)
index-one (nowhere f) (empty e) = refl
index-one (nowhere f) (nowhere g) = refl
index-one (nowhere f) (first n w) = absurd (f _ w.stands)
index-one (first n w) (empty e) = absurd (n e)
index-one (first n w) (nowhere f) = absurd (f _ w.stands)
index-one (first m v) (first n w) = omega (arith, v.least _ w.stands, w.least _ v.stands)

-- ---- substr: the bytes at the positions p with 1 <= p, m <= p < m+n

selected : (m n : ℤ) (p : ℕ) (s : List ℕ) → Selects (Position m n) p s (between m (m +ℤ n) p s)
unfolding between
selected m n p [] = ended
selected m n p (b ∷ s) = turn (selected m n (suc p) s) (sides m (pos p)) (sides (m +ℤ n) (pos p))
  where
    turn : {t : List ℕ} {u v : Bool} → Selects (Position m n) (suc p) s t → Sides m (pos p) u → Sides (m +ℤ n) (pos p) v
        → Selects (Position m n) p (b ∷ s) (cond (u && not v) (b ∷ t) t)
    turn rest (within w _) (above l _) = taken (record { from = w; before = l }) rest
    turn rest (within w _) (within _ n) = passed (λ q. n q.before) rest
    turn rest (above l n) d = passed (λ q. n q.from) rest

pub selects-one : {P : ℕ → Type 0} {p : ℕ} {s t u : List ℕ} → Selects P p s t → Selects P p s u → t ≡ u
selects-one ended ended = refl
selects-one (taken {b = b} y h) (taken z k) = ap (λ (l : List ℕ). b ∷ l) (selects-one h k)
selects-one (taken y h) (passed n k) = absurd (n y)
selects-one (passed n h) (taken y k) = absurd (n y)
selects-one (passed n h) (passed m k) = selects-one h k

module _ (a m n : Value) where
  pub substr-is : {x y : ℤ} → number_of m ≡ gives x → number_of n ≡ gives y
      → (t : List ℕ) × ((substr_of a m n ≡ gives (text t)) × (Selects (Position x y) 1 (text_of a) t))
  unfolding substr_of
  substr-is {x} {y} p q = (between x (x +ℤ y) 1 (text_of a), (rw (p, q), selected x y 1 (text_of a)))

  pub substr-stops-left : {s : Stop} → number_of m ≡ stops s → substr_of a m n ≡ stops s
  unfolding substr_of
  substr-stops-left p = rw p

  pub substr-stops-right : {x : ℤ} {s : Stop} → number_of m ≡ gives x → number_of n ≡ stops s → substr_of a m n ≡ stops s
  unfolding substr_of
  substr-stops-right p q = rw (p, q)
