-- A walk over the places finds the spans of the ERE, and no others.
use mathlib.Core.Path.{◌≡◌, refl, subst}
use mathlib.Core.Bool.{Bool, true, false}
use mathlib.Core.Logic.{inl, inr, ⊎_elim}
use mathlib.Core.List.{List}
use Prim.Native.Nat.{ℕ, zero, suc, ◌+◌, ◌≤◌, ◌<◌}
use native.Mathlib.Omega.{arith}
use native.Mathlib.Nat.{le_refl}
use lib.ListN.{length, get_or}
use lib.Dec.{eqb, eqb-suc-zero}
use borrow.Author.Tests.{eq-eqb, ne_eqb, eqb-true}
use Rattle.ere_meaning.specs.Tree.{Ere, place, bol, eol, cat, alt, star, plus, opt}
use Rattle.ere_meaning.specs.Meaning.{Repeated, done, more, Leads}
use Rattle.ere_table.specs.Nexts.{Next, stop, go, Nexts, Null, First, Enter, Again, Wired, Last}

module _ (ok : ℕ → ℕ → Bool) (text : List ℕ) (N : ℕ → Bool → Next → Type 0) where
  -- from r, pending at i, a walk comes to its end at j
  pub data From (j : ℕ) : Next → ℕ → Type 0 where
    arrive : From j stop j
    move : {p i : ℕ} {r : Next} → i < length text → ok p (get_or text i 0) ≡ true → N p (eqb (suc i) (length text)) r
        → From j r (suc i) → From j (go p) i

  -- what K has at the position i
  abbrev pub At : Nexts → ℕ → Next → Type 0
  At K i r = K (eqb i 0) (eqb i (length text)) r

  abbrev pub Walks : Nexts → ℕ → ℕ → Type 0
  Walks K i j = (r : Next) × (At K i r) × (From j r i)

  abbrev S : Ere ℕ → ℕ → ℕ → Type 0
  S = Leads ok text

  weaken : (K L : Nexts) {i j : ℕ} → ((r : Next) → At K i r → At L i r) → Walks K i j → Walks L i j
  weaken K L h w = (w.0, h w.0 w.1, w.2)

  -- where nothing is taken, the walk is at the same position
  same : (K L : Nexts) {i m j : ℕ} → m ≡ i → ((r : Next) → At K i r → At L i r) → Walks K m j → Walks L i j
  same K L {i} {m} {j} e h w = weaken K L h (subst (λ (x : ℕ). Walks K x j) e w)

  -- ---- every span has a walk

  rounds : (a : Ere ℕ) (K : Nexts) (j : ℕ) → ((i m : ℕ) → S a i m → Walks (Again a K) m j → Walks (Enter a (Again a K)) i j)
      → {i m : ℕ} → Repeated (S a) i m → Walks K m j → Walks (Again a K) i j
  rounds a K j fa done w = weaken K (Again a K) (λ r k. inr k) w
  rounds a K j fa (more x rs) w =
      weaken (Enter a (Again a K)) (Again a K) (λ r. ⊎_elim inl (λ t. t.1)) (fa _ _ x (rounds a K j fa rs w))

  pub found : (e : Ere ℕ) (K : Nexts) → Wired N e K → (i m j : ℕ) → S e i m → Walks K m j → Walks (Enter e K) i j
  found (place p) K W i m j h w =
      let w' : Walks K (suc i) j = subst (λ (x : ℕ). Walks K x j) h.0 w in
      let k : K false (eqb (suc i) (length text)) w'.0 = rw eqb-suc-zero at w'.1 in
      (go p, inl (ne_eqb i (length text) (omega (arith, h.1)), refl), move h.1 h.2 ((W (eqb (suc i) (length text)) w'.0).1 k) w'.2)
  found bol K W i m j h w = same K (Enter bol K) h.0 (λ r k. inr (eq-eqb i 0 h.1, k)) w
  found eol K W i m j h w = same K (Enter eol K) h.0 (λ r k. inr (eq-eqb i (length text) h.1, k)) w
  found (cat a b) K W i m j h w =
      weaken (Enter a (Enter b K)) (Enter (cat a b) K) (λ r. ⊎_elim (λ x. inl (inl x)) (λ t. ⊎_elim (λ y. inl (inr (t.0, y))) (λ u. inr ((t.0, u.0), u.1)) t.1))
      (found a (Enter b K) W.0 i h.0 j h.1 (found b K W.1 h.0 m j h.2 w))
  found (alt a b) K W i m j (inl h) w =
      weaken (Enter a K) (Enter (alt a b) K) (λ r. ⊎_elim (λ x. inl (inl x)) (λ t. inr (inl t.0, t.1))) (found a K W.0 i m j h w)
  found (alt a b) K W i m j (inr h) w =
      weaken (Enter b K) (Enter (alt a b) K) (λ r. ⊎_elim (λ x. inl (inr x)) (λ t. inr (inr t.0, t.1))) (found b K W.1 i m j h w)
  found (star a) K W i m j h w =
      weaken (Again a K) (Enter (star a) K) (λ r. ⊎_elim inl (λ k. inr (tt, k)))
      (rounds a K j (λ i' m'. found a (Again a K) W i' m' j) h w)
  found (plus a) K W i m j h w =
      weaken (Enter a (Again a K)) (Enter (plus a) K) (λ r. ⊎_elim inl (λ t. ⊎_elim inl (λ k. inr (t.0, k)) t.1))
      (found a (Again a K) W i h.0 j h.1 (rounds a K j (λ i' m'. found a (Again a K) W i' m' j) h.2 w))
  found (opt a) K W i m j (inl h) w = same K (Enter (opt a) K) h (λ r k. inr (tt, k)) w
  found (opt a) K W i m j (inr h) w = weaken (Enter a K) (Enter (opt a) K) (λ r. ⊎_elim inl (λ t. inr (tt, t.1))) (found a K W i m j h w)

  -- ---- every walk has a span

  from_le : {j : ℕ} {r : Next} {i : ℕ} → From j r i → i ≤ j
  from_le arrive = le_refl _
  from_le (move h o n w) = let l = from_le w in omega arith

  pub null-leads : (e : Ere ℕ) (i : ℕ) → Null e (eqb i 0) (eqb i (length text)) → S e i i
  null-leads (place p) i h = absurd h
  null-leads bol i h = (refl, eqb-true i 0 h)
  null-leads eol i h = (refl, eqb-true i (length text) h)
  null-leads (cat a b) i h = (i, null-leads a i h.0, null-leads b i h.1)
  null-leads (alt a b) i (inl h) = inl (null-leads a i h)
  null-leads (alt a b) i (inr h) = inr (null-leads b i h)
  null-leads (star a) i h = done
  null-leads (plus a) i h = (i, null-leads a i h, done)
  null-leads (opt a) i h = inl refl

  one : {r : Next} {i j : ℕ} → From j r i → (p : ℕ) → r ≡ go p
      → (i < length text) × (ok p (get_or text i 0) ≡ true) × ((q : Next) × (N p (eqb (suc i) (length text)) q) × (From j q (suc i)))
  one arrive p e = let z : ◌≡◌ {A = ℕ} 0 1 = cc in absurd (omega arith)
  one (move {p = p'} {r = q} h o n w) p e =
      let z : p' ≡ p = cc in
      (h, rw z at o, (q, rw z at n, w))

  -- e has a span from i, and the walk goes on after it
  abbrev Out : Ere ℕ → Nexts → ℕ → ℕ → Type 0
  Out e K i j = (m : ℕ) × (i < m) × (S e i m) × (Walks K m j)

  abbrev Reads : Ere ℕ → Nexts → Type 0
  Reads e K = (i j : ℕ) (r : Next) → At (First e) i r → From j r i → Out e K i j

  past : (b : Ere ℕ) (K : Nexts) → Reads b K → (i j : ℕ) → Walks (Enter b K) i j → (m : ℕ) × (i ≤ m) × (S b i m) × (Walks K m j)
  past b K rb i j w = part w.1
    where
      part : At (Enter b K) i w.0 → (m : ℕ) × (i ≤ m) × (S b i m) × (Walks K m j)
      part (inl x) = let o = rb i j w.0 x w.2 in (o.0, omega (arith, o.1), o.2, o.3)
      part (inr t) = (i, le_refl i, null-leads b i t.0, (w.0, t.1, w.2))

  -- one round or more
  abbrev Rounds : Ere ℕ → Nexts → ℕ → ℕ → Type 0
  Rounds a K i j = (m : ℕ) × (i < m) × ((k : ℕ) × (S a i k) × (Repeated (S a) k m)) × (Walks K m j)

  turn : (a : Ere ℕ) (K : Nexts) (i j : ℕ) (o : Out a (Again a K) i j) → (At (First a) o.0 o.3.0 → Rounds a K o.0 j)
      → At (Again a K) o.0 o.3.0 → Rounds a K i j
  turn a K i j o next (inl y) =
      let t = next y in
      (t.0, omega (arith, o.1, t.1), (o.0, o.2, more t.2.1 t.2.2), t.3)
  turn a K i j o next (inr k) = (o.0, o.1, (o.0, o.2, done), (o.3.0, k, o.3.2))

  turns : (a : Ere ℕ) (K : Nexts) → Reads a (Again a K) → (d i j : ℕ) (r : Next) → j ≤ d + i → At (First a) i r → From j r i → Rounds a K i j
  turns a K ra zero i j r b x w = let o = ra i j r x w in let l = from_le o.3.2 in absurd (omega (arith, o.1))
  turns a K ra (suc d) i j r b x w =
      let o = ra i j r x w in
      turn a K i j o (λ y. turns a K ra d o.0 j o.3.0 (omega (arith, o.1)) y o.3.2) o.3.1

  pub read : (e : Ere ℕ) (K : Nexts) → Wired N e K → Reads e K
  read (place p) K W i j r x w =
      let t = one w p x.1 in
      (suc i, le_refl _, (refl, t.0, t.1), (t.2.0, rw eqb-suc-zero ((W _ _).0 t.2.1), t.2.2))
  read bol K W i j r x w = absurd x
  read eol K W i j r x w = absurd x
  read (cat a b) K W i j r (inl x) w =
      let o = read a (Enter b K) W.0 i j r x w in
      let t = past b K (read b K W.1) o.0 j o.3 in
      (t.0, omega (arith, o.1, t.1), (o.0, o.2, t.2), t.3)
  read (cat a b) K W i j r (inr x) w =
      let o = read b K W.1 i j r x.1 w in
      (o.0, o.1, (i, null-leads a i x.0, o.2), o.3)
  read (alt a b) K W i j r (inl x) w = let o = read a K W.0 i j r x w in (o.0, o.1, inl o.2, o.3)
  read (alt a b) K W i j r (inr x) w = let o = read b K W.1 i j r x w in (o.0, o.1, inr o.2, o.3)
  read (star a) K W i j r x w =
      let t = turns a K (read a (Again a K) W) j i j r (omega arith) x w in
      (t.0, t.1, more t.2.1 t.2.2, t.3)
  read (plus a) K W i j r x w = turns a K (read a (Again a K) W) j i j r (omega arith) x w
  read (opt a) K W i j r x w = let o = read a K W i j r x w in (o.0, o.1, inr o.2, o.3)

  -- ---- the whole ERE: after it a walk may only stop

  at-stop : {r : Next} {i j : ℕ} → From j r i → r ≡ stop → i ≡ j
  at-stop arrive e = refl
  at-stop (move h o n w) e = let z : ◌≡◌ {A = ℕ} 0 1 = cc in absurd (omega arith)

  pub walks : (e : Ere ℕ) → Wired N e Last → (i j : ℕ) → Leads ok text e i j → Walks (Enter e Last) i j
  walks e W i j h = found e Last W i j j h (stop, refl, arrive)

  pub leads : (e : Ere ℕ) → Wired N e Last → (i j : ℕ) → Walks (Enter e Last) i j → Leads ok text e i j
  leads e W i j w =
      let t = past e Last (read e Last W) i j w in
      subst (λ (x : ℕ). S e i x) (at-stop t.3.2 t.3.1) t.2
