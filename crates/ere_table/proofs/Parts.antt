-- The table of an ERE is made from those of its parts: what may come next, as sets.
use mathlib.Core.Path.{◌≡◌, refl}
use mathlib.Core.Bool.{Bool, true, false}
use mathlib.Core.Logic.{◌⊎◌, inl, inr, ⊎_elim, ⊎_map, ◌↔◌}
use Prim.Native.Nat.{ℕ, suc, ◌≤◌, ◌<◌}
use native.Mathlib.Omega.{arith}
use native.Mathlib.Nat.{le_refl}
use Rattle.ere_meaning.specs.Tree.{Ere, place, bol, eol, cat, alt, star, plus, opt}
use Rattle.ere_table.specs.Nexts.{Next, stop, go, Nexts, First, Enter, Again, Wired, Last}

-- what comes next, where what X has, and then what Y has, comes next
abbrev pub Then : (Next → Type 0) → (Next → Type 0) → Next → Type 0
Then X Y stop = (X stop) × (Y stop)
Then X Y (go q) = (X (go q)) ⊎ ((X stop) × (Y (go q)))

-- every place of e has its number from lo up to hi
abbrev pub Within : ℕ → ℕ → Ere ℕ → Type 0
Within lo hi (place p) = (lo ≤ p) × (p < hi)
Within lo hi bol = Unit
Within lo hi eol = Unit
Within lo hi (cat a b) = (Within lo hi a) × (Within lo hi b)
Within lo hi (alt a b) = (Within lo hi a) × (Within lo hi b)
Within lo hi (star a) = Within lo hi a
Within lo hi (plus a) = Within lo hi a
Within lo hi (opt a) = Within lo hi a

abbrev pub Table : Type 1
Table = ℕ → Bool → Next → Type 0

abbrev pub Same : Nexts → Nexts → Type 0
Same K L = (s f : Bool) (r : Next) → K s f r ↔ L s f r

iff : {A B C : Type 0} → A ↔ B → B ↔ C → A ↔ C
iff p q = (λ a. q.0 (p.0 a), λ c. p.1 (q.1 c))

-- what follows may be replaced by the same
pub wired-same : (N : Table) (e : Ere ℕ) (K L : Nexts) → Same K L → Wired N e K → Wired N e L
wired-same N (place p) K L h w = λ f r. iff (w f r) (h false f r)
wired-same N bol K L h w = tt
wired-same N eol K L h w = tt
wired-same N (cat a b) K L h w =
    (wired-same N a (Enter b K) (Enter b L) (λ s f r. (⊎_map (λ x. x) (λ t. (t.0, (h s f r).0 t.1)), ⊎_map (λ x. x) (λ t. (t.0, (h s f r).1 t.1)))) w.0, wired-same N b K L h w.1)
wired-same N (alt a b) K L h w = (wired-same N a K L h w.0, wired-same N b K L h w.1)
wired-same N (star a) K L h w = wired-same N a (Again a K) (Again a L) (λ s f r. (⊎_map (λ x. x) (h s f r).0, ⊎_map (λ x. x) (h s f r).1)) w
wired-same N (plus a) K L h w = wired-same N a (Again a K) (Again a L) (λ s f r. (⊎_map (λ x. x) (h s f r).0, ⊎_map (λ x. x) (h s f r).1)) w
wired-same N (opt a) K L h w = wired-same N a K L h w

-- no span starts with the accept bit
pub first-stop : (e : Ere ℕ) (s f : Bool) → First e s f stop → ⊥
first-stop (place p) s f h = let z : ◌≡◌ {A = ℕ} 0 1 = cc h.1 in omega arith
first-stop bol s f h = h
first-stop eol s f h = h
first-stop (cat a b) s f (inl h) = first-stop a s f h
first-stop (cat a b) s f (inr h) = first-stop b s f h.1
first-stop (alt a b) s f (inl h) = first-stop a s f h
first-stop (alt a b) s f (inr h) = first-stop b s f h
first-stop (star a) s f h = first-stop a s f h
first-stop (plus a) s f h = first-stop a s f h
first-stop (opt a) s f h = first-stop a s f h

abbrev pub Thens : Nexts → Nexts → Nexts
Thens C K s f = Then (C s f) (K s f)

enter-then : (e : Ere ℕ) (C K : Nexts) → Same (Thens (Enter e C) K) (Enter e (Thens C K))
enter-then e C K s f stop = (
  λ t. ⊎_elim (λ x. absurd (first-stop e s f x)) (λ u. inr (u.0, (u.1, t.1))) t.0,
  ⊎_elim (λ x. absurd (first-stop e s f x)) (λ u. (inr (u.0, u.1.0), u.1.1)),
)
enter-then e C K s f (go q) = (
  ⊎_elim (⊎_map (λ x. x) (λ u. (u.0, inl u.1))) (λ t. ⊎_elim (λ x. absurd (first-stop e s f x)) (λ u. inr (u.0, inr (u.1, t.1))) t.0),
  ⊎_elim (λ x. inl (inl x)) (λ u. ⊎_elim (λ c. inl (inr (u.0, c))) (λ t. inr (inr (u.0, t.0), t.1)) u.1),
)

again-then : (e : Ere ℕ) (C K : Nexts) → Same (Thens (Again e C) K) (Again e (Thens C K))
again-then e C K s f stop = (
  λ t. ⊎_elim (λ x. absurd (first-stop e s f x)) (λ u. inr (u, t.1)) t.0,
  ⊎_elim (λ x. absurd (first-stop e s f x)) (λ u. (inr u.0, u.1)),
)
again-then e C K s f (go q) = (
  ⊎_elim (⊎_map (λ x. x) inl) (λ t. ⊎_elim (λ x. absurd (first-stop e s f x)) (λ u. inr (inr (u, t.1))) t.0),
  ⊎_elim (λ x. inl (inl x)) (⊎_elim (λ c. inl (inr c)) (λ t. inr (inr t.0, t.1))),
)

-- the places from lo up to hi have K put in place of their accept bits
module _ (N M : Table) (lo hi : ℕ) (K : Nexts) (h : (p : ℕ) → lo ≤ p → p < hi → (f : Bool) (r : Next) → M p f r ↔ Then (N p f) (K false f) r) where
  then-cong : {X Y : Next → Type 0} (Z : Next → Type 0) → ((r : Next) → X r ↔ Y r) → (r : Next) → Then X Z r ↔ Then Y Z r
  then-cong Z g stop = (λ t. ((g stop).0 t.0, t.1), λ t. ((g stop).1 t.0, t.1))
  then-cong Z g (go q) = (⊎_map (g (go q)).0 (λ t. ((g stop).0 t.0, t.1)), ⊎_map (g (go q)).1 (λ t. ((g stop).1 t.0, t.1)))

  pub wired-then : (e : Ere ℕ) (C : Nexts) → Within lo hi e → Wired N e C → Wired M e (Thens C K)
  wired-then (place p) C i w = λ f r. iff (h p i.0 i.1 f r) (then-cong (K false f) (w f) r)
  wired-then bol C i w = tt
  wired-then eol C i w = tt
  wired-then (cat a b) C i w =
      (wired-same M a (Thens (Enter b C) K) (Enter b (Thens C K)) (enter-then b C K) (wired-then a (Enter b C) i.0 w.0), wired-then b C i.1 w.1)
  wired-then (alt a b) C i w = (wired-then a C i.0 w.0, wired-then b C i.1 w.1)
  wired-then (star a) C i w = wired-same M a (Thens (Again a C) K) (Again a (Thens C K)) (again-then a C K) (wired-then a (Again a C) i w)
  wired-then (plus a) C i w = wired-same M a (Thens (Again a C) K) (Again a (Thens C K)) (again-then a C K) (wired-then a (Again a C) i w)
  wired-then (opt a) C i w = wired-then a C i w

-- the places from lo up to hi are as they were
module _ (N M : Table) (lo hi : ℕ) (h : (p : ℕ) → lo ≤ p → p < hi → (f : Bool) (r : Next) → M p f r ↔ N p f r) where
  pub wired-kept : (e : Ere ℕ) (C : Nexts) → Within lo hi e → Wired N e C → Wired M e C
  wired-kept (place p) C i w = λ f r. iff (h p i.0 i.1 f r) (w f r)
  wired-kept bol C i w = tt
  wired-kept eol C i w = tt
  wired-kept (cat a b) C i w = (wired-kept a (Enter b C) i.0 w.0, wired-kept b C i.1 w.1)
  wired-kept (alt a b) C i w = (wired-kept a C i.0 w.0, wired-kept b C i.1 w.1)
  wired-kept (star a) C i w = wired-kept a (Again a C) i w
  wired-kept (plus a) C i w = wired-kept a (Again a C) i w
  wired-kept (opt a) C i w = wired-kept a C i w

-- ---- the parts

-- E is what may come next before e, and N what may come next after its places, which have their numbers from lo up to
-- hi
pub record Part (N : Table) (lo hi : ℕ) (E : Nexts) (e : Ere ℕ) : Type 0 where
  pub wired : Wired N e Last
  pub within : Within lo hi e
  pub starts : Same E (Enter e Last)

within_more : (lo hi lo' hi' : ℕ) → lo' ≤ lo → hi ≤ hi' → (e : Ere ℕ) → Within lo hi e → Within lo' hi' e
within_more lo hi lo' hi' l h (place p) i = (omega (arith, i.0), omega (arith, i.1))
within_more lo hi lo' hi' l h bol i = tt
within_more lo hi lo' hi' l h eol i = tt
within_more lo hi lo' hi' l h (cat a b) i = (within_more lo hi lo' hi' l h a i.0, within_more lo hi lo' hi' l h b i.1)
within_more lo hi lo' hi' l h (alt a b) i = (within_more lo hi lo' hi' l h a i.0, within_more lo hi lo' hi' l h b i.1)
within_more lo hi lo' hi' l h (star a) i = within_more lo hi lo' hi' l h a i
within_more lo hi lo' hi' l h (plus a) i = within_more lo hi lo' hi' l h a i
within_more lo hi lo' hi' l h (opt a) i = within_more lo hi lo' hi' l h a i

chain : {K L M : Nexts} → Same K L → Same L M → Same K M
chain p q = λ s f r. iff (p s f r) (q s f r)

last_then : (K : Nexts) → Same (Thens Last K) K
last_then K s f stop = (λ t. t.1, λ k. (refl, k))
last_then K s f (go q) = (⊎_elim (λ e. let z : ◌≡◌ {A = ℕ} 0 1 = cc in absurd (omega arith)) (λ t. t.1), λ k. inr (refl, k))

-- K is put in place of the accept bits of the places from lo up to hi
abbrev pub Linked : Table → Table → ℕ → ℕ → Nexts → Type 0
Linked N M lo hi K = (p : ℕ) → lo ≤ p → p < hi → (f : Bool) (r : Next) → M p f r ↔ Then (N p f) (K false f) r

abbrev pub Kept : Table → Table → ℕ → ℕ → Type 0
Kept N M lo hi = (p : ℕ) → lo ≤ p → p < hi → (f : Bool) (r : Next) → M p f r ↔ N p f r

pub part-kept : (N M : Table) (lo hi : ℕ) (E : Nexts) (e : Ere ℕ) → Kept N M lo hi → Part N lo hi E e → Part M lo hi E e
part-kept N M lo hi E e k p = record { wired = wired-kept N M lo hi k e Last p.within p.wired; within = p.within; starts = p.starts }

thens-left : (K L Z : Nexts) → Same K L → Same (Thens K Z) (Thens L Z)
thens-left K L Z h s f stop = (λ t. ((h s f stop).0 t.0, t.1), λ t. ((h s f stop).1 t.0, t.1))
thens-left K L Z h s f (go q) = (⊎_map (h s f (go q)).0 (λ t. ((h s f stop).0 t.0, t.1)), ⊎_map (h s f (go q)).1 (λ t. ((h s f stop).1 t.0, t.1)))

enter-same : (e : Ere ℕ) (K L : Nexts) → Same K L → Same (Enter e K) (Enter e L)
enter-same e K L h s f r = (⊎_map (λ x. x) (λ t. (t.0, (h s f r).0 t.1)), ⊎_map (λ x. x) (λ t. (t.0, (h s f r).1 t.1)))

enter-cat : (a b : Ere ℕ) (K : Nexts) → Same (Enter a (Enter b K)) (Enter (cat a b) K)
enter-cat a b K s f r = (
  ⊎_elim (λ x. inl (inl x)) (λ t. ⊎_elim (λ y. inl (inr (t.0, y))) (λ u. inr ((t.0, u.0), u.1)) t.1),
  ⊎_elim (⊎_elim inl (λ t. inr (t.0, inl t.1))) (λ t. inr (t.0.0, inr (t.0.1, t.1))),
)

pub part-cat : (N M : Table) (lo mid hi : ℕ) (X Y : Nexts) (a b : Ere ℕ) → lo ≤ mid → mid ≤ hi → Linked N M lo mid Y → Kept N M mid hi
    → Part N lo mid X a → Part N mid hi Y b → Part M lo hi (Thens X Y) (cat a b)
part-cat N M lo mid hi X Y a b l h k m p q = record {
  wired = (
    wired-same M a (Thens Last Y) (Enter b Last) (chain (last_then Y) q.starts) (wired-then N M lo mid Y k a Last p.within p.wired),
    wired-kept N M mid hi m b Last q.within q.wired,
  );
  within = (within_more lo mid lo hi (omega arith) h a p.within, within_more mid hi lo hi l (omega arith) b q.within);
  starts =
      chain (thens-left X (Enter a Last) Y p.starts)
      (chain (enter-then a Last Y)
      (chain (enter-same a (Thens Last Y) (Enter b Last) (chain (last_then Y) q.starts)) (enter-cat a b Last)));
}

-- X or the accept bit
abbrev pub OrStop : Nexts → Nexts
OrStop X s f r = (X s f r) ⊎ (r ≡ stop)

again-last : (a : Ere ℕ) (X : Nexts) → Same X (Enter a Last) → Same (OrStop X) (Again a Last)
again-last a X h s f r =
    (⊎_elim (λ x. ⊎_elim inl (λ t. inr t.1) ((h s f r).0 x)) inr, ⊎_elim (λ x. inl ((h s f r).1 (inl x))) inr)

pub part-star : (N M : Table) (lo hi : ℕ) (X : Nexts) (a : Ere ℕ) → Linked N M lo hi (OrStop X) → Part N lo hi X a → Part M lo hi (OrStop X) (star a)
part-star N M lo hi X a k p = record {
  wired = wired-same M a (Thens Last (OrStop X)) (Again a Last) (chain (last_then (OrStop X)) (again-last a X p.starts)) (wired-then N M lo hi (OrStop X) k a Last p.within p.wired);
  within = p.within;
  starts = chain (again-last a X p.starts) (λ s f r. (⊎_map (λ x. x) (λ e. (tt, e)), ⊎_map (λ x. x) (λ t. t.1)));
}

pub part-alt : (N : Table) (lo mid hi : ℕ) (X Y : Nexts) (a b : Ere ℕ) → lo ≤ mid → mid ≤ hi
    → Part N lo mid X a → Part N mid hi Y b → Part N lo hi (λ s f r. (X s f r) ⊎ (Y s f r)) (alt a b)
part-alt N lo mid hi X Y a b l h p q = record {
  wired = (p.wired, q.wired);
  within = (within_more lo mid lo hi (omega arith) h a p.within, within_more mid hi lo hi l (omega arith) b q.within);
  starts = λ s f r. (
    ⊎_elim (λ x. ⊎_elim (λ u. inl (inl u)) (λ t. inr (inl t.0, t.1)) ((p.starts s f r).0 x)) (λ y. ⊎_elim (λ u. inl (inr u)) (λ t. inr (inr t.0, t.1)) ((q.starts s f r).0 y)),
    ⊎_elim (⊎_map (λ u. (p.starts s f r).1 (inl u)) (λ u. (q.starts s f r).1 (inl u)))
        (λ t. ⊎_map (λ n. (p.starts s f r).1 (inr (n, t.1))) (λ n. (q.starts s f r).1 (inr (n, t.1))) t.0),
  );
}

pub part-plus : (N M : Table) (lo hi : ℕ) (X : Nexts) (a : Ere ℕ) → Linked N M lo hi (OrStop X) → Part N lo hi X a → Part M lo hi X (plus a)
part-plus N M lo hi X a k p = record { wired = (part-star N M lo hi X a k p).wired; within = p.within; starts = p.starts }

pub part-opt : (N : Table) (lo hi : ℕ) (X : Nexts) (a : Ere ℕ) → Part N lo hi X a → Part N lo hi (OrStop X) (opt a)
part-opt N lo hi X a p = record {
  wired = p.wired;
  within = p.within;
  starts = chain (again-last a X p.starts) (λ s f r. (⊎_map (λ x. x) (λ e. (tt, e)), ⊎_map (λ x. x) (λ t. t.1)));
}

pub part-bol : (N : Table) (lo hi : ℕ) → Part N lo hi (λ s f r. (s ≡ true) × (r ≡ stop)) bol
part-bol N lo hi = record { wired = tt; within = tt; starts = λ s f r. (inr, ⊎_elim (λ x. absurd x) (λ t. t)) }

pub part-eol : (N : Table) (lo hi : ℕ) → Part N lo hi (λ s f r. (f ≡ true) × (r ≡ stop)) eol
part-eol N lo hi = record { wired = tt; within = tt; starts = λ s f r. (inr, ⊎_elim (λ x. absurd x) (λ t. t)) }

pub part-place : (N : Table) (p : ℕ) → ((f : Bool) (r : Next) → N p f r ↔ (r ≡ stop)) → Part N p (suc p) (λ s f r. (f ≡ false) × (r ≡ go p)) (place p)
part-place N p h = record { wired = h; within = (le_refl p, le_refl (suc p)); starts = λ s f r. (inl, ⊎_elim (λ t. t) (λ t. absurd t.0)) }

pub part_same : (N : Table) (lo hi : ℕ) (E F : Nexts) (e : Ere ℕ) → Same E F → Part N lo hi E e → Part N lo hi F e
part_same N lo hi E F e h p = record { wired = p.wired; within = p.within; starts = λ s f r. (λ x. (p.starts s f r).0 ((h s f r).1 x), λ x. (h s f r).0 ((p.starts s f r).1 x)) }
