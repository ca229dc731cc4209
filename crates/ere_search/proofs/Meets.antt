-- A walk over the table of an ERE may stop just where the ERE has a span; and the longest of those from a start. The
-- text is a whole one.
use mathlib.Core.Path.{◌≡◌, refl, sym, ap, subst, ◌∙◌}
use mathlib.Core.Bool.{Bool, true, false, true≢false, not, cond}
use mathlib.Core.Logic.{⊎_elim}
use mathlib.Core.List.{List}
use Prim.Native.Nat.{ℕ, zero, suc, ◌+◌, ◌≤◌, ◌<◌}
use native.Mathlib.Omega.{arith}
use native.Mathlib.Nat.{le_refl, add-zero, zero-add, add-suc, eq-or-lt_of_le, le_of_suc-le-suc}
use lib.ListN.{length, get_or}
use lib.Dec.{eqb, ltb, leb}
use borrow.Author.Tests.{ne_eqb, ltb-true, lt-ltb, leb-true, leb-false}
use Rattle.lists.proofs.Tests.{and-true, and-of}
use Rattle.ere_meaning.specs.Tree.{Ere}
use Rattle.ere_meaning.specs.Meaning.{Leads}
use Rattle.ere_table.specs.Nexts.{Next, stop, go, Enter, Last}
use Rattle.ere_table.specs.Table.{accepts_at}
use Rattle.ere_search.specs.Walk.{step, live_at, longest_to}
use Rattle.ere_table.specs.Wiring.{stop_in, next_in, after_place, Tabled}
use Rattle.ere_search.proofs.Steps.{step_in, step-out}
use Rattle.ere_search.proofs.Walks.{From, arrive, move, Walks, walks, leads}

-- ---- one step, of what may come next

-- r comes next after a place of live that takes b
abbrev Via : List ℕ → List ℕ → ℕ → Bool → Next → Type 0
Via t live b f r = (p : ℕ) × (next_in live false (go p) ≡ true) × (accepts_at t p b ≡ true) × (after_place t p f r)

module _ (t live : List ℕ) (b : ℕ) where
  stop-at : (f : Bool) → cond f 129 128 < 192
  stop-at true = omega arith
  stop-at false = omega arith

  via-in : (f : Bool) (r : Next) → next_in (step t live b) f r ≡ true → Via t live b f r
  via-in f stop h = let s = step_in t live b (cond f 129 128) (stop-at f) h in (s.0, and-of _ _ (lt-ltb _ _ s.1) s.2, s.3, s.4)
  via-in f (go q) h =
      let x = and-true (not f) _ h in
      let y = and-true (ltb q 128) _ x.1 in
      let l = ltb-true q 128 y.0 in
      let s = step_in t live b q (omega arith) y.1 in
      (s.0, and-of _ _ (lt-ltb _ _ s.1) s.2, s.3, and-of (not f) _ x.0 (and-of (ltb q 128) _ y.0 s.4))

  via-out : (f : Bool) (r : Next) → Via t live b f r → next_in (step t live b) f r ≡ true
  via-out f stop v =
      let z = and-true (ltb v.0 128) _ v.1 in
      step-out t live b (cond f 129 128) (stop-at f) (v.0, ltb-true _ _ z.0, z.1, v.2, v.3)
  via-out f (go q) v =
      let z = and-true (ltb v.0 128) _ v.1 in
      let x = and-true (not f) _ v.3 in
      let y = and-true (ltb q 128) _ x.1 in
      let l = ltb-true q 128 y.0 in
      and-of (not f) _ x.0
      (and-of (ltb q 128) _ y.0 (step-out t live b q (omega arith) (v.0, ltb-true _ _ z.0, z.1, v.2, y.1)))

-- ---- the longest walk that may stop

-- r may come next after n bytes from s
abbrev pub Live : List ℕ → List ℕ → ℕ → ℕ → ℕ → Next → Type 0
Live t rest at s n r = next_in (live_at t rest at s n) (eqb (s + n) (length rest)) r ≡ true

abbrev pub Told : List ℕ → List ℕ → ℕ → ℕ → ℕ → ℕ → ℕ → Type 0
Told t rest at least s n (suc k) =
    (k < n) × (least ≤ k) × (Live t rest at s k stop) × ((m : ℕ) → m < n → least ≤ m → Live t rest at s m stop → m ≤ k)
Told t rest at least s n zero = (m : ℕ) → m < n → least ≤ m → Live t rest at s m stop → ⊥

module _ (t rest : List ℕ) (at least s : ℕ) where
  pub told : (n : ℕ) → Told t rest at least s n (longest_to t rest at least s n)
  unfolding longest_to
  told zero = λ m h. absurd (omega arith)
  told (suc n) = by (leb least n) refl (stop_in (live_at t rest at s n) (eqb (s + n) (length rest))) refl (longest_to t rest at least s n) (told n)
    where
      -- n bytes are no answer
      off : (o : ℕ) → (least ≤ n → Live t rest at s n stop → ⊥) → Told t rest at least s n o → Told t rest at least s (suc n) o
      off (suc k) skip p =
          (omega (arith, p.0), p.1, p.2, λ m h g l. ⊎_elim (λ z. absurd (skip (rw z at g) (rw z at l))) (λ y. p.3 m y g l) (eq-or-lt_of_le (le_of_suc-le-suc h)))
      off zero skip p = λ m h g l. ⊎_elim (λ z. absurd (skip (rw z at g) (rw z at l))) (λ y. p m y g l) (eq-or-lt_of_le (le_of_suc-le-suc h))

      by : (y : Bool) → leb least n ≡ y → (x : Bool) → stop_in (live_at t rest at s n) (eqb (s + n) (length rest)) ≡ x → (o : ℕ)
          → Told t rest at least s n o → Told t rest at least s (suc n) (cond y (cond x (suc n) o) o)
      by true g true q o p = (le_refl (suc n), leb-true least n g, q, λ m h i l. le_of_suc-le-suc h)
      by true g false q o p = off o (λ i l. true≢false (sym l ∙ q)) p
      by false g x q o p = off o (λ i l. let z = leb-false least n g in omega arith) p

-- ---- the live set is what walks have pending

module _ (t text : List ℕ) (e : Ere ℕ) (T : Tabled t e) (s : ℕ) where
  abbrev L : ℕ → Next → Type 0
  L = Live t text 0 s

  abbrev Fr : ℕ → Next → ℕ → Type 0
  Fr = From (accepts_at t) text (after_place t)

  starts : (r : Next) → L 0 r → Enter e Last (eqb s 0) (eqb s (length text)) r
  unfolding live_at
  starts r l = (T.starts (eqb s 0) (eqb s (length text)) r).0 (rw (zero-add s, add-zero s) at l)

  started : (r : Next) → Enter e Last (eqb s 0) (eqb s (length text)) r → L 0 r
  unfolding live_at
  started r h = rw (zero-add s, add-zero s) ((T.starts (eqb s 0) (eqb s (length text)) r).1 h)

  to-walk : (n j : ℕ) (r : Next) → s + n ≤ length text → L n r → Fr j r (s + n) → Walks (accepts_at t) text (after_place t) (Enter e Last) s j
  unfolding live_at
  to-walk zero j r h l w = (r, starts r l, rw add-zero at w)
  to-walk (suc n) j r h l w =
      let v = via-in t (live_at t text 0 s n) (get_or text (s + n) 0) (eqb (s + suc n) (length text)) r l in
      to-walk n j (go v.0) (omega arith) (rw (ne_eqb (s + n) (length text) (omega arith)) v.1)
      (move (omega arith) v.2 (subst (λ (x : ℕ). after_place t v.0 (eqb x (length text)) r) (add-suc s n) v.3) (rw (add-suc s n) at w))

  to-live : (j n i : ℕ) (r : Next) → i ≡ s + n → L n r → Fr j r i → (m : ℕ) × (j ≡ s + m) × (L m stop)
  unfolding live_at
  to-live j n i r h l arrive = (n, h, l)
  to-live j n i r h l (move {p = p} {r = q} g o a w) =
      let next : suc i ≡ s + suc n = ap suc h ∙ sym (add-suc s n) in
      to-live j (suc n) (suc i) q next
      (via-out t (live_at t text 0 s n) (get_or text (s + n) 0) (eqb (s + suc n) (length text)) q
      (p, rw (ne_eqb (s + n) (length text) (omega arith)) at l, rw h at o, rw next at a)) w

  -- a walk may stop after n bytes just where there is a span
  pub stop-leads : (n : ℕ) → s + n ≤ length text → L n stop → Leads (accepts_at t) text e s (s + n)
  stop-leads n h l = leads (accepts_at t) text (after_place t) e T.wired s (s + n) (to-walk n (s + n) stop h l arrive)

  pub leads-stop : (j : ℕ) → Leads (accepts_at t) text e s j → (m : ℕ) × (j ≡ s + m) × (L m stop)
  leads-stop j h =
      let w = walks (accepts_at t) text (after_place t) e T.wired s j h in
      to-live j zero s w.0 (sym (add-zero s)) (started w.0 w.1) w.2
