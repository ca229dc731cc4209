-- An ERE leads forward, and the test of where it leads holds exactly where it does, up to the text's end.
use mathlib.Core.Path.{◌≡◌, refl, sym, subst}
use mathlib.Core.Bool.{Bool, true, ◌&&◌}
use mathlib.Core.Logic.{inl, inr, ⊎_elim, ◌↔◌}
use mathlib.Core.List.{List}
use Prim.Native.Nat.{ℕ, zero, suc, ◌+◌, ◌≤◌, ◌<◌}
use native.Mathlib.Nat.{le_refl, eq-or-lt_of_le}
use native.Mathlib.Omega.{arith}
use lib.ListN.{length}
use lib.Dec.{eqb, ltb}
use borrow.Author.Tests.{eqb-true, eq-eqb, ltb-true, lt-ltb}
use Rattle.lists.proofs.Tests.{or_cases, or_left, or_right, and-true, and-of}
use Rattle.ere_meaning.specs.Tree.{Ere, place, bol, eol, cat, alt, star, plus, opt}
use Rattle.ere_meaning.specs.Meaning.{Repeated, done, more, Leads, Spans}
use Rattle.ere_meaning.specs.Search.{loops, leads}
use Rattle.ere_meaning.proofs.Tests.{any-in, any_of}

-- what goes forward goes forward repeated
pub repeated-forward : {R : ℕ → ℕ → Type 0} → ((i j : ℕ) → R i j → i ≤ j) → {i j : ℕ} → Repeated R i j → i ≤ j
repeated-forward h done = le_refl _
repeated-forward h (more x r) = omega (arith, h _ _ x, repeated-forward h r)

module _ (len : ℕ) (r : ℕ → ℕ → Bool) (R : ℕ → ℕ → Type 0) where
  none : {i j : ℕ} → i ≡ j → Repeated R i j
  none {i} e = subst (Repeated R i) e done

  loops-true : ((i j : ℕ) → r i j ≡ true → R i j) → (n i j : ℕ) → loops len r n i j ≡ true → Repeated R i j
  loops-true h zero i j e = none (eqb-true i j e)
  loops-true h (suc n) i j e =
      ⊎_elim (λ q. none (eqb-true i j q))
      (λ q. let k = any-in (suc len) (λ c. ltb i c && (r i c && loops len r n c j)) q in
      let u = and-true (ltb i k.0) _ k.2 in
      let v = and-true (r i k.0) _ u.1 in
      more (h i k.0 v.0) (loops-true h n k.0 j v.1)) (or_cases (eqb i j) _ e)

  stay : (n i : ℕ) → loops len r n i i ≡ true
  stay zero i = eq-eqb i i refl
  stay (suc n) i = or_left (eqb i i) _ (eq-eqb i i refl)

  go : (n i k j : ℕ) → i < k → k ≤ len → len ≤ n + i → r i k ≡ true → ((m : ℕ) → len ≤ m + k → loops len r m k j ≡ true)
      → loops len r n i j ≡ true
  go zero i k j l m b h rest = absurd (omega arith)
  go (suc n) i k j l m b h rest =
      or_right (eqb i j) _
      (any_of (suc len) (λ c. ltb i c && (r i c && loops len r n c j)) k (omega arith)
      (and-of (ltb i k) _ (lt-ltb i k l) (and-of (r i k) _ h (rest n (omega arith)))))

  -- empty spans are left out
  true-loops : ((i j : ℕ) → j ≤ len → R i j → r i j ≡ true) → ((i j : ℕ) → R i j → i ≤ j)
      → (n i j : ℕ) → j ≤ len → len ≤ n + i → Repeated R i j → loops len r n i j ≡ true
  true-loops h up n i j l b done = stay n i
  true-loops h up n i j l b (more {k = k} x q) =
      let y = up i k x in
      let z = repeated-forward up q in
      ⊎_elim (λ e. subst (λ (c : ℕ). loops len r n c j ≡ true) (sym e) (true-loops h up n k j l (omega arith) q))
      (λ g. go n i k j g (omega arith) b (h i k (omega arith) x) (λ m b'. true-loops h up m k j l b' q)) (eq-or-lt_of_le y)

module _ {A : Type 0} (ok : A → ℕ → Bool) (text : List ℕ) where
  pub forward : (e : Ere A) (i j : ℕ) → Leads ok text e i j → i ≤ j
  forward (place a) i j h = omega (arith, h.0)
  forward bol i j h = omega (arith, h.0)
  forward eol i j h = omega (arith, h.0)
  forward (cat a b) i j h = omega (arith, forward a i h.0 h.1, forward b h.0 j h.2)
  forward (alt a b) i j (inl h) = forward a i j h
  forward (alt a b) i j (inr h) = forward b i j h
  forward (star a) i j h = repeated-forward (forward a) h
  forward (plus a) i j h = omega (arith, forward a i h.0 h.1, repeated-forward (forward a) h.2)
  forward (opt a) i j (inl h) = omega arith
  forward (opt a) i j (inr h) = forward a i j h

  pub leads-true : (e : Ere A) (i j : ℕ) → leads ok text e i j ≡ true → Leads ok text e i j
  leads-true (place a) i j h =
      let u = and-true (eqb j (suc i)) _ h in
      let v = and-true (ltb i (length text)) _ u.1 in
      (eqb-true j (suc i) u.0, ltb-true i (length text) v.0, v.1)
  leads-true bol i j h = let u = and-true (eqb j i) _ h in (eqb-true j i u.0, eqb-true i 0 u.1)
  leads-true eol i j h = let u = and-true (eqb j i) _ h in (eqb-true j i u.0, eqb-true i (length text) u.1)
  leads-true (cat a b) i j h =
      let k = any-in (suc (length text)) (λ c. leads ok text a i c && leads ok text b c j) h in
      let u = and-true (leads ok text a i k.0) _ k.2 in
      (k.0, leads-true a i k.0 u.0, leads-true b k.0 j u.1)
  leads-true (alt a b) i j h = ⊎_elim (λ u. inl (leads-true a i j u)) (λ u. inr (leads-true b i j u)) (or_cases (leads ok text a i j) _ h)
  leads-true (star a) i j h = loops-true (length text) (leads ok text a) (Leads ok text a) (leads-true a) (length text) i j h
  leads-true (plus a) i j h =
      let k = any-in (suc (length text)) (λ c. leads ok text a i c && loops (length text) (leads ok text a) (length text) c j) h in
      let u = and-true (leads ok text a i k.0) _ k.2 in
      (k.0, leads-true a i k.0 u.0, loops-true (length text) (leads ok text a) (Leads ok text a) (leads-true a) (length text) k.0 j u.1)
  leads-true (opt a) i j h = ⊎_elim (λ u. inl (eqb-true j i u)) (λ u. inr (leads-true a i j u)) (or_cases (eqb j i) _ h)

  pub true-leads : (e : Ere A) (i j : ℕ) → j ≤ length text → Leads ok text e i j → leads ok text e i j ≡ true
  true-leads (place a) i j l h =
      and-of (eqb j (suc i)) _ (eq-eqb j (suc i) h.0) (and-of (ltb i (length text)) _ (lt-ltb i (length text) h.1) h.2)
  true-leads bol i j l h = and-of (eqb j i) _ (eq-eqb j i h.0) (eq-eqb i 0 h.1)
  true-leads eol i j l h = and-of (eqb j i) _ (eq-eqb j i h.0) (eq-eqb i (length text) h.1)
  true-leads (cat a b) i j l h =
      let x = forward b h.0 j h.2 in
      any_of (suc (length text)) (λ c. leads ok text a i c && leads ok text b c j) h.0 (omega arith)
      (and-of (leads ok text a i h.0) _ (true-leads a i h.0 (omega arith) h.1) (true-leads b h.0 j l h.2))
  true-leads (alt a b) i j l (inl h) = or_left (leads ok text a i j) _ (true-leads a i j l h)
  true-leads (alt a b) i j l (inr h) = or_right (leads ok text a i j) _ (true-leads b i j l h)
  true-leads (star a) i j l h =
      true-loops (length text) (leads ok text a) (Leads ok text a) (true-leads a) (forward a) (length text) i j l (omega arith) h
  true-leads (plus a) i j l h =
      let x = repeated-forward (forward a) h.2 in
      any_of (suc (length text)) (λ c. leads ok text a i c && loops (length text) (leads ok text a) (length text) c j) h.0 (omega arith)
      (and-of (leads ok text a i h.0) _ (true-leads a i h.0 (omega arith) h.1)
      (true-loops (length text) (leads ok text a) (Leads ok text a) (true-leads a) (forward a) (length text) h.0 j l (omega arith) h.2))
  true-leads (opt a) i j l (inl h) = or_left (eqb j i) _ (eq-eqb j i h)
  true-leads (opt a) i j l (inr h) = or_right (eqb j i) _ (true-leads a i j l h)

  -- so a span can be told by computing
  pub spans-exactly : (e : Ere A) (i j : ℕ) → Spans ok text e i j ↔ ((j ≤ length text) × (leads ok text e i j ≡ true))
  spans-exactly e i j = (λ h. (h.0, true-leads e i j h.0 h.1), λ h. (h.0, leads-true e i j h.1))
