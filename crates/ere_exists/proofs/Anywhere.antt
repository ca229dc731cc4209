-- One walk from all starts at once: what it has at i is what the walks from each start up to i have there.
use mathlib.Core.Path.{◌≡◌, refl, sym, ap, ap₂, subst, ◌∙◌}
use mathlib.Core.Bool.{Bool, true, false, true≢false, not, cond, ◌&&◌, ◌||◌}
use mathlib.Core.Logic.{⊎_elim}
use mathlib.Core.List.{List}
use Prim.Native.Nat.{ℕ, zero, suc, ◌+◌, ◌/◌, ◌%◌, ◌≤◌, ◌<◌}
use native.Mathlib.Omega.{arith}
use native.Mathlib.Nat.{add-zero, zero-add, add-suc, le_refl, eq-or-lt_of_le}
use native.Mathlib.Numerals.{add-one}
use lib.ListN.{length, get_or}
use lib.Dec.{eqb}
use borrow.Author.Tests.{eq-eqb, ne_eqb, eqb-true, not-false}
use Rattle.lists.proofs.Tests.{and-true, or_cases, or_left, or_right}
use Rattle.lists.specs.Digit.{bit}
use Rattle.lists.proofs.Digits.{bit-zero}
use Rattle.ere_meaning.specs.Tree.{Ere}
use Rattle.ere_meaning.specs.Meaning.{Match, found, nowhere, Spans, BestFrom}
use Rattle.ere_meaning.specs.Search.{best_from, best_of}
use Rattle.ere_meaning.proofs.Answers.{best-from}
use Rattle.ere_table.specs.Table.{mem, row, join, no_place, accepts_at, begins, empty_word}
use Rattle.ere_table.specs.Wiring.{stop_in, Tabled, Sealed}
use Rattle.ere_table.proofs.Sets.{mem-join, mem-none}
use Rattle.ere_table.proofs.Begins.{begins-with, empty-out}
use Rattle.ere_search.specs.Walk.{step, dead, live_at, entry_row, open_to}
use Rattle.ere_exists.specs.Any.{is_match, Exists, passes}
use Rattle.ere_search.proofs.Steps.{step_in, step-out, step-none}
use Rattle.ere_search.proofs.Meets.{stop-leads, leads-stop}

-- what may come next at i after the starts before i
unfoldable pub pending : List ℕ → List ℕ → ℕ → List ℕ
pending t text zero = no_place
pending t text (suc i) = step t (join (pending t text i) (row t (entry_row i))) (get_or text i 0)

-- and after a start at i
abbrev pub all_at : List ℕ → List ℕ → ℕ → List ℕ
all_at t text i = join (pending t text i) (row t (entry_row i))

low : (f : Bool) → cond f 129 128 < 192
low true = omega arith
low false = omega arith

stop-join : (x y : List ℕ) (f : Bool) → stop_in (join x y) f ≡ (stop_in x f || stop_in y f)
stop-join x y f = mem-join x y (cond f 129 128) (low f)

-- ---- the union over the starts

module _ (t text : List ℕ) where
  -- q may come next at i after some start
  abbrev Some : ℕ → ℕ → Type 0
  Some i q = (s : ℕ) × (n : ℕ) × (s + n ≡ i) × (mem (live_at t text 0 s n) q ≡ true)

  new : (i q : ℕ) → mem (row t (entry_row i)) q ≡ true → Some i q
  unfolding live_at
  new i q m = (i, 0, add-zero i, rw (zero-add i) m)

  moved : (i q : ℕ) → q < 192 → ((p : ℕ) → p < 192 → mem (all_at t text i) p ≡ true → Some i p) → mem (pending t text (suc i)) q ≡ true → Some (suc i) q
  unfolding pending live_at
  moved i q hq before m =
      let v = step_in t (all_at t text i) (get_or text i 0) q hq m in
      let w = before v.0 (omega (arith, v.1)) v.2 in (
        w.0,
        suc w.1,
        add-suc w.0 w.1 ∙ ap suc w.2,
        step-out t (live_at t text 0 w.0 w.1) (get_or text (w.0 + w.1) 0) q hq (v.0, v.1, w.3, rw w.2 v.3, v.4),
      )

  pub all_in : (i q : ℕ) → q < 192 → mem (all_at t text i) q ≡ true → Some i q
  unfolding pending
  all_in zero q hq h = ⊎_elim (λ m. absurd (true≢false (sym m ∙ mem-none q))) (new 0 q) (or_cases _ _ (sym (mem-join no_place (row t (entry_row 0)) q hq) ∙ h))
  all_in (suc i) q hq h =
      ⊎_elim (moved i q hq (all_in i)) (new (suc i) q) (or_cases _ _ (sym (mem-join (pending t text (suc i)) (row t (entry_row (suc i))) q hq) ∙ h))

  pub all-out : (s n q : ℕ) → q < 192 → mem (live_at t text 0 s n) q ≡ true → mem (all_at t text (s + n)) q ≡ true
  unfolding pending live_at
  all-out s zero q hq m =
      rw (add-zero s) (mem-join (pending t text s) (row t (entry_row s)) q hq ∙ or_right (mem (pending t text s) q) _ (rw (zero-add s) at m))
  all-out s (suc n) q hq m =
      let v = step_in t (live_at t text 0 s n) (get_or text (s + n) 0) q hq m in
      let w = all-out s n v.0 (omega (arith, v.1)) v.2 in
      rw (add-suc s n) (mem-join (pending t text (suc (s + n))) (row t (entry_row (suc (s + n)))) q hq
      ∙ or_left _ _ (step-out t (all_at t text (s + n)) (get_or text (s + n) 0) q hq (v.0, v.1, w, v.3, v.4)))

  -- ---- the answer

  module _ (e : Ere ℕ) (T : Tabled t e) where
    some-span : (i : ℕ) → i ≤ length text → stop_in (all_at t text i) (eqb i (length text)) ≡ true
        → (s : ℕ) × (j : ℕ) × (Spans (accepts_at t) text e s j)
    some-span i h m =
        let w = all_in i (cond (eqb i (length text)) 129 128) (low (eqb i (length text))) m in
        let b : w.0 + w.1 ≤ length text = omega (arith, w.2) in
        (w.0, w.0 + w.1, (b, stop-leads t text e T w.0 w.1 b (rw w.2 w.3)))

    span-stops : (s j : ℕ) → Spans (accepts_at t) text e s j → stop_in (all_at t text j) (eqb j (length text)) ≡ true
    span-stops s j h =
        let m = leads-stop t text e T s j h.1 in
        rw m.1 (all-out s m.0 (cond (eqb (s + m.0) (length text)) 129 128) (low (eqb (s + m.0) (length text))) m.2)

    is_true : (s j : ℕ) → Spans (accepts_at t) text e s j → true ≡ is_match (best_of (accepts_at t) text e)
    unfolding best_of
    is_true s j h = by (best_from (accepts_at t) text e 0 0) (best-from (accepts_at t) text e 0 0)
      where
        by : (m : Match) → BestFrom (accepts_at t) text e 0 0 m → true ≡ is_match m
        by (found a n) k = refl
        by nowhere k = absurd (k s j (omega arith) (omega (arith, (leads-stop t text e T s j h.1).1)) h)

    is_false : ((s j : ℕ) → Spans (accepts_at t) text e s j → ⊥) → false ≡ is_match (best_of (accepts_at t) text e)
    unfolding best_of
    is_false none = by (best_from (accepts_at t) text e 0 0) (best-from (accepts_at t) text e 0 0)
      where
        by : (m : Match) → BestFrom (accepts_at t) text e 0 0 m → false ≡ is_match m
        by (found a n) k = absurd (none a (a + n) k.0)
        by nowhere k = refl

  -- a walk that may stop before the text's end
  pub yes : (i : ℕ) → i < length text → (Sealed t → stop_in (all_at t text i) false ≡ true) → Exists t text true
  yes i h m e T =
      let w = some-span e T i (omega arith) (rw (ne_eqb i (length text) (omega arith)) (m T.shut)) in
      is_true e T w.0 w.1 w.2

  -- none may before the end: so the end decides
  decides : (r : Bool) → (Sealed t → (k : ℕ) → k < length text → stop_in (all_at t text k) false ≡ false)
      → (Sealed t → r ≡ stop_in (all_at t text (length text)) true) → Exists t text r
  decides true f g e T =
      let w = some-span e T (length text) (le_refl _) (rw (eq-eqb (length text) (length text) refl) (sym (g T.shut))) in
      is_true e T w.0 w.1 w.2
  decides false f g e T = is_false e T (λ s j h. ⊎_elim (last s j h) (early s j h) (eq-or-lt_of_le h.0))
    where
      last : (s j : ℕ) → Spans (accepts_at t) text e s j → j ≡ length text → ⊥
      last s j h z =
          true≢false (sym (rw (eq-eqb (length text) (length text) refl) at (subst (λ (x : ℕ). stop_in (all_at t text x) (eqb x (length text)) ≡ true) z (span-stops e T s j h))) ∙ sym (g T.shut))

      early : (s j : ℕ) → Spans (accepts_at t) text e s j → j < length text → ⊥
      early s j h l =
          true≢false (sym (rw (ne_eqb j (length text) (omega arith)) at (span-stops e T s j h)) ∙ f T.shut j l)

  pub ends : (i : ℕ) → i ≡ length text → (r : Bool) → ((k : ℕ) → k < i → Sealed t → stop_in (all_at t text k) false ≡ false)
      → (Sealed t → r ≡ stop_in (all_at t text i) true) → Exists t text r
  ends i h r f g = decides r (λ S k l. f k (omega arith) S) (λ S. g S ∙ ap (λ (k : ℕ). stop_in (all_at t text k) true) h)

-- ---- a turn

module _ (t text : List ℕ) (i : ℕ) (live : List ℕ) (hl : live ≡ pending t text i) where
  module _ (all : List ℕ) (ha : all ≡ join live (row t (entry_row i))) where
    all-is : all ≡ all_at t text i
    all-is = ha ∙ ap (λ (l : List ℕ). join l (row t (entry_row i))) hl

    -- what a test of it says
    pub all-stop : (f r : Bool) → r ≡ stop_in all f → {x : Bool} → r ≡ x → stop_in (all_at t text i) f ≡ x
    all-stop f r e h = ap (λ (l : List ℕ). stop_in l f) (sym all-is) ∙ sym e ∙ h

    pub turn : (next : List ℕ) → next ≡ step t all (get_or text i 0) → next ≡ pending t text (i + 1)
    unfolding pending
    turn next e = rw add-one (e ∙ ap (λ (l : List ℕ). step t l (get_or text i 0)) all-is)

  -- where nothing is live and no match begins, nothing is lost
  module _ (S : Sealed t) (empty : Bool) (he : empty ≡ open_to t 0) (hp : passes t live (get_or text i 0) empty ≡ true) (hb : get_or text i 0 < 256) where
    entry : entry_row i < 2
    entry = pick (eqb i 0)
      where
        pick : (x : Bool) → cond x 0 1 < 2
        pick true = omega arith
        pick false = omega arith

    told : (x v y z : Bool) → cond x (cond v (not (cond y true z)) false) false ≡ true → (x ≡ true) × (v ≡ true) × (y ≡ false) × (z ≡ false)
    told true true true z h = absurd (true≢false (sym h))
    told true true false true h = absurd (true≢false (sym h))
    told true true false false h = (refl, refl, refl, refl)
    told true false y z h = absurd (true≢false (sym h))
    told false v y z h = absurd (true≢false (sym h))

    facts : (dead live ≡ true) × (eqb (get_or live 2 0) 0 ≡ true) × (empty ≡ false) × (begins t (get_or text i 0) ≡ false)
    facts = told (dead live) (eqb (get_or live 2 0) 0) empty (begins t (get_or text i 0)) hp

    none-live : (p : ℕ) → p < 128 → mem live p ≡ false
    none-live p h = ap (λ (w : ℕ). bit w (p % 64)) (word (p / 64) (omega arith)) ∙ bit-zero (p % 64)
      where
        word : (k : ℕ) → k < 2 → get_or live k 0 ≡ 0
        word zero l = eqb-true _ _ (and-true (eqb (get_or live 0 0) 0) _ facts.0).0
        word (suc zero) l = eqb-true _ _ (and-true (eqb (get_or live 0 0) 0) _ facts.0).1
        word (suc (suc k)) l = absurd (omega arith)

    pub pass : no_place ≡ pending t text (i + 1)
    unfolding pending
    pass = rw add-one (sym (ap (λ (l : List ℕ). step t (join l (row t (entry_row i))) (get_or text i 0)) (sym hl) ∙ step-none t (join live (row t (entry_row i))) (get_or text i 0) off))
      where
        by : (p : ℕ) → p < 128 → (x : Bool) → mem (row t (entry_row i)) p ≡ x → (y : Bool) → accepts_at t p (get_or text i 0) ≡ y → (x && y) ≡ false
        by p h true m true k = absurd (true≢false (sym (begins-with t S (entry_row i) p (get_or text i 0) entry h hb m k) ∙ facts.3))
        by p h true m false k = refl
        by p h false m y k = refl

        off : (p : ℕ) → p < 128 → (mem (join live (row t (entry_row i))) p && accepts_at t p (get_or text i 0)) ≡ false
        off p h =
            ap (λ (x : Bool). x && accepts_at t p (get_or text i 0)) (mem-join live (row t (entry_row i)) p (omega arith) ∙ ap (λ (x : Bool). x || mem (row t (entry_row i)) p) (none-live p h))
            ∙ by p h (mem (row t (entry_row i)) p) refl (accepts_at t p (get_or text i 0)) refl

    pub pass-stop : stop_in (all_at t text i) false ≡ false
    pass-stop =
        let z : empty_word t ≡ 0 = eqb-true (empty_word t) 0 (not-false _ (sym he ∙ facts.2)) in
        let off : stop_in live false ≡ false = ap (λ (w : ℕ). bit w 0) (eqb-true (get_or live 2 0) 0 facts.1) ∙ bit-zero 0 in
        ap (λ (l : List ℕ). stop_in (join l (row t (entry_row i))) false) (sym hl)
        ∙ stop-join live (row t (entry_row i)) false
        ∙ ap₂ ◌||◌ off (empty-out t S (entry_row i) entry z false)
