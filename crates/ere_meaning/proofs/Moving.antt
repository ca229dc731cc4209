-- EREs that lead the same way have the same answers: so a tree with something else at each place, and places that take
-- the same bytes.
use mathlib.Core.Path.{◌≡◌, refl, sym, ap, ap₂, subst}
use mathlib.Core.Bool.{Bool, true}
use mathlib.Core.Logic.{◌⊎◌, inl, inr, ◌↔◌}
use mathlib.Core.List.{List}
use Prim.Native.Nat.{ℕ, ◌+◌, ◌<◌}
use lib.ListN.{length, get_or}
use Rattle.ere_meaning.specs.Tree.{Ere, place, bol, eol, cat, alt, star, plus, opt, map_ere}
use Rattle.ere_meaning.specs.Meaning.{Repeated, done, more, Leads, Match, found, nowhere, BestFrom}
use Rattle.ere_meaning.specs.Search.{best_from}
use Rattle.ere_meaning.proofs.Answers.{best-from, best-is}

module _ {A B : Type 0} (ok : A → ℕ → Bool) (ok' : B → ℕ → Bool) (text : List ℕ) (e : Ere A) (e' : Ere B)
    (same : (i j : ℕ) → Leads ok text e i j ↔ Leads ok' text e' i j) (from least : ℕ) where
  same-best : (r : Match) → BestFrom ok' text e' from least r → BestFrom ok text e from least r
  same-best (found s n) h = (
    (h.0.0, (same s (s + n)).1 h.0.1),
    h.1,
    h.2,
    (λ k j l m x. h.3 k j l m (x.0, (same k j).0 x.1)),
    (λ j l x. h.4 j l (x.0, (same s j).0 x.1)),
  )
  same-best nowhere h = λ k j l m x. h k j l m (x.0, (same k j).0 x.1)

  pub same_answer : best_from ok text e from least ≡ best_from ok' text e' from least
  same_answer = let r = best_from ok' text e' from least in best-is ok text e from least r (same-best r (best-from ok' text e' from least))

abbrev Rel : Type 1
Rel = ℕ → ℕ → Type 0

-- a tree with something else at each place leads where it led
module _ {A B : Type 0} (f : A → B) (ok : B → ℕ → Bool) (text : List ℕ) where
  pub map-leads : (e : Ere A) → Leads ok text (map_ere f e) ≡ Leads (λ a. ok (f a)) text e
  map-leads (place a) = refl
  map-leads bol = refl
  map-leads eol = refl
  map-leads (cat a b) = ap₂ {C = Rel} (λ (R S : Rel) (i j : ℕ). (k : ℕ) × (R i k) × (S k j)) (map-leads a) (map-leads b)
  map-leads (alt a b) = ap₂ {C = Rel} (λ (R S : Rel) (i j : ℕ). (R i j) ⊎ (S i j)) (map-leads a) (map-leads b)
  map-leads (star a) = ap Repeated (map-leads a)
  map-leads (plus a) = ap {B = Rel} (λ (R : Rel) (i j : ℕ). (k : ℕ) × (R i k) × (Repeated R k j)) (map-leads a)
  map-leads (opt a) = ap {B = Rel} (λ (R : Rel) (i j : ℕ). (j ≡ i) ⊎ (R i j)) (map-leads a)

  pub leads-mapped : (e : Ere A) (i j : ℕ) → Leads ok text (map_ere f e) i j ↔ Leads (λ a. ok (f a)) text e i j
  leads-mapped e i j =
      (subst (λ (R : Rel). R i j) (map-leads e), subst (λ (R : Rel). R i j) (sym (map-leads e)))

  pub map-best : (e : Ere A) (from least : ℕ) → best_from ok text (map_ere f e) from least ≡ best_from (λ a. ok (f a)) text e from least
  map-best e from least = same_answer ok (λ a. ok (f a)) text (map_ere f e) e (leads-mapped e) from least

pub repeated-move : {R S : ℕ → ℕ → Type 0} → ((i j : ℕ) → R i j → S i j) → {i j : ℕ} → Repeated R i j → Repeated S i j
repeated-move h done = done
repeated-move h (more x r) = more (h _ _ x) (repeated-move h r)

-- where places take all bytes of the text that they took, the tree leads where it led
module _ {A : Type 0} (ok ok' : A → ℕ → Bool) (text : List ℕ)
    (takes : (a : A) (i : ℕ) → i < length text → ok a (get_or text i 0) ≡ true → ok' a (get_or text i 0) ≡ true) where
  pub leads-move : (e : Ere A) (i j : ℕ) → Leads ok text e i j → Leads ok' text e i j
  leads-move (place a) i j h = (h.0, h.1, takes a i h.1 h.2)
  leads-move bol i j h = h
  leads-move eol i j h = h
  leads-move (cat a b) i j h = (h.0, leads-move a i h.0 h.1, leads-move b h.0 j h.2)
  leads-move (alt a b) i j (inl h) = inl (leads-move a i j h)
  leads-move (alt a b) i j (inr h) = inr (leads-move b i j h)
  leads-move (star a) i j h = repeated-move (leads-move a) h
  leads-move (plus a) i j h = (h.0, leads-move a i h.0 h.1, repeated-move (leads-move a) h.2)
  leads-move (opt a) i j (inl h) = inl h
  leads-move (opt a) i j (inr h) = inr (leads-move a i j h)

module _ {A : Type 0} (ok ok' : A → ℕ → Bool) (text : List ℕ) where
  -- it is enough that the places agree on the bytes of the text
  pub agree-text : ((a : A) (i : ℕ) → i < length text → ok a (get_or text i 0) ≡ ok' a (get_or text i 0))
      → (e : Ere A) (from least : ℕ) → best_from ok text e from least ≡ best_from ok' text e from least
  agree-text h e from least =
      same_answer ok ok' text e e
      (λ i j. (leads-move ok ok' text (λ a k l x. rw (← h a k l) x) e i j, leads-move ok' ok text (λ a k l x. rw (h a k l) x) e i j)) from least

  pub agree : ((a : A) (b : ℕ) → ok a b ≡ ok' a b) → (e : Ere A) (from least : ℕ) → best_from ok text e from least ≡ best_from ok' text e from least
  agree h = agree-text (λ a i l. h a (get_or text i 0))
