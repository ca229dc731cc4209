-- Places at which no match of at least a byte starts: none has ended, and nothing may come next.
use mathlib.Core.Path.{◌≡◌, refl, sym, ap, ap₂, subst, ◌∙◌}
use mathlib.Core.Bool.{Bool, true, false, cond, not, ◌&&◌}
use mathlib.Core.Logic.{◌⊎◌, inl, inr}
use mathlib.Core.List.{List}
use Prim.Native.Nat.{ℕ, suc, ◌+◌, ◌-◌, ◌≤◌, ◌<◌}
use native.Mathlib.Nat.{add-zero}
use native.Mathlib.Decide.{dec_lt}
use native.Mathlib.Omega.{arith}
use lib.ListN.{length, get_or}
use lib.Dec.{eqb, leb}
use borrow.Author.Tests.{ne_eqb, eq-eqb, eqb-true, not-false}
use Rattle.lists.proofs.Tests.{clash}
use Rattle.ere_table.specs.Table.{row, no_place}
use Rattle.ere_table.specs.Wiring.{stop_in}
use Rattle.ere_search.specs.Walk.{step, live_at, longest_to, entry_row, note}
use Rattle.ere_search.proofs.Finds.{none-longer}
use Rattle.ere_automaton.specs.Layout.{first_state, later_state, accepted_state, skips_word, next_in}
use Rattle.ere_automaton.specs.Automaton.{first_byte, second_byte, Hull}
use Rattle.ere_automaton.specs.Scan.{ranges_of, begin, Skipped}
use Rattle.ere_automaton.specs.Follows.{FollowsOne}
use Rattle.ere_automaton.proofs.Ranging.{begin-hull}
use Rattle.ere_seek.specs.Starts.{Bare, Bares, Hulled, Passed, Candidate}

-- an answer of n bytes that is none
note-off : (n : ℕ) (live : List ℕ) (f : Bool) → stop_in live f ≡ false → note 0 live f 1 n ≡ 0
note-off n live f h = ap (λ (x : Bool). cond (leb 1 n) (cond x (suc n) 0) 0) h ∙ pick (leb 1 n)
  where
    pick : (x : Bool) → cond x (cond false (suc n) 0) 0 ≡ 0
    pick true = refl
    pick false = refl

module _ (t x : List ℕ) (at : ℕ) where
  -- no match of fewer than one byte
  pub none-empty : (k : ℕ) → longest_to t x at 1 k 1 ≡ 0
  unfolding longest_to
  none-empty k = refl

  -- none of n bytes either
  pub none-there : (k n : ℕ) → longest_to t x at 1 k n ≡ 0
      → stop_in (live_at t x at k n) (eqb (k + n) (length x)) ≡ false
      → longest_to t x at 1 k (suc n) ≡ 0
  unfolding longest_to
  none-there k n h e =
      ap (λ (b : ℕ). note b (live_at t x at k n) (eqb (k + n) (length x)) 1 n) h
      ∙ note-off n (live_at t x at k n) (eqb (k + n) (length x)) e

  -- nor a longer one
  pub bare-after : (k n : ℕ) → k + n ≤ length x + 1 → longest_to t x at 1 k n ≡ 0 → live_at t x at k n ≡ no_place
      → Bare t x at k
  bare-after k n h e z =
      let same : n + (suc (length x - k) - n) ≡ suc (length x - k) = omega arith in
      ap (longest_to t x at 1 k) (sym same) ∙ none-longer t x at 1 k n (suc (length x - k) - n) z ∙ e

  -- at the text's end
  pub bare-end : (k : ℕ) → length x ≤ k → Bare t x at k
  bare-end k h =
      let z : suc (length x - k) ≡ 1 = omega arith in
      ap (longest_to t x at 1 k) z ∙ none-empty k

  -- where nothing may start
  pub bare-nothing : (k : ℕ) → k ≤ length x → row t (entry_row (at + k)) ≡ no_place → Bare t x at k
  unfolding longest_to live_at
  bare-nothing k h e = bare-after k 0 (omega arith) refl e

  -- ---- by the bytes

  live-one : (k : ℕ) → row t (entry_row (at + k)) ≡ row t 1 → live_at t x at k 1 ≡ step t (row t 1) (get_or x k 0)
  unfolding live_at
  live-one k e = ap₂ (λ (u : List ℕ) (j : ℕ). step t u (get_or x j 0)) e (add-zero k)

  live-two : (k : ℕ) → row t (entry_row (at + k)) ≡ row t 1
      → live_at t x at k 2 ≡ step t (step t (row t 1) (get_or x k 0)) (get_or x (k + 1) 0)
  unfolding live_at
  live-two k e = ap (λ (u : List ℕ). step t u (get_or x (k + 1) 0)) (live-one k e)

  -- by the first
  pub bare-first : (k : ℕ) → k < length x → row t (entry_row (at + k)) ≡ row t 1
      → step t (row t 1) (get_or x k 0) ≡ no_place → Bare t x at k
  bare-first k h e z = bare-after k 1 (omega arith) (none-empty k) (live-one k e ∙ z)

  -- by the first two
  pub bare-hull : (d : List ℕ) → Hull t d → (k : ℕ) → suc k < length x → get_or x k 0 < 256 → get_or x (k + 1) 0 < 256
      → row t (entry_row (at + k)) ≡ row t 1 → begin (ranges_of d) (get_or x k 0) (get_or x (k + 1) 0) ≡ false
      → Bare t x at k
  bare-hull d H k h hb hc e z = by (first_byte d b) refl (sym (begin-hull t d H b c hb hc) ∙ z)
    where
      b : ℕ
      b = get_or x k 0

      c : ℕ
      c = get_or x (k + 1) 0

      by : (y : Bool) → first_byte d (get_or x k 0) ≡ y → (y && second_byte d (get_or x (k + 1) 0)) ≡ false → Bare t x at k
      by true f g =
          let none : stop_in (live_at t x at k 1) (eqb (k + 1) (length x)) ≡ false =
          ap₂ stop_in (live-one k e) (ne_eqb (k + 1) (length x) (omega arith)) ∙ H.none_ends b c hb hc g in
          bare-after k 2 (omega arith) (none-there k 1 (none-empty k) none) (live-two k e ∙ H.second b c hb hc g)
      by false f g = bare-first k (omega arith) e (H.first b hb f)

  -- ---- a run of them

  pub bares-skipped : (d : List ℕ) → Hull t d → (bytes : (k : ℕ) → get_or x k 0 < 256) → (i r : ℕ)
      → ((k : ℕ) → i ≤ k → k < r → row t (entry_row (at + k)) ≡ row t 1)
      → Skipped (ranges_of d) x i r → Bares t x at i r
  bares-skipped d H bytes i r e S k l h =
      let m = S.short (omega arith) in
      bare-hull d H k (omega arith) (bytes k) (bytes (k + 1)) (e k l h) (S.none k l h)

  pub bares-both : (i m r : ℕ) → Bares t x at i m → Bares t x at m r → Bares t x at i r
  bares-both i m r f g k l h = elim (dec_lt k m) [ yes y ↦ f k l y | no y ↦ g k (omega arith) h ]

-- ---- where a match starts

-- elsewhere than at the text's start
pub row-later : (t : List ℕ) (s : ℕ) → 0 < s → row t (entry_row s) ≡ row t 1
row-later t s h = ap (λ (b : Bool). row t (cond b 0 1)) (ne_eqb s 0 (omega arith))

module _ (t d x : List ℕ) (at : ℕ) (D : FollowsOne t d) (bytes : (k : ℕ) → get_or x k 0 < 256) where
  -- a byte that leads to the state in which nothing may come next
  leads-off : (k : ℕ) → next_in d (later_state d) (get_or x k 0) ≡ accepted_state d → step t (row t 1) (get_or x k 0) ≡ no_place
  leads-off k h =
      ap (λ (u : List ℕ). step t u (get_or x k 0)) (sym D.elsewhere)
      ∙ sym (D.steps (later_state d) (get_or x k 0) D.ranged.later (bytes k))
      ∙ ap D.sets h
      ∙ D.stays

  bares-passed : (i r : ℕ) → ((k : ℕ) → i ≤ k → k < r → row t (entry_row (at + k)) ≡ row t 1) → Passed d x i r
      → Bares t x at i r
  bares-passed i r e P k l h =
      bare-first t x at k (omega (arith, P.inside)) (e k l h) (leads-off k (P.none k l h))

  -- where the text's start is as any place
  pub rows_same : (from : ℕ) (first : Bool) → first ≡ eqb (at + from) 0
      → (first ≡ true → first_state d ≡ later_state d)
      → (k : ℕ) → from ≤ k → row t (entry_row (at + k)) ≡ row t 1
  rows_same from true e h k l = by (eqb (at + k) 0) refl
    where
      same : row t 0 ≡ row t 1
      same = sym D.starts ∙ ap D.sets (h refl) ∙ D.elsewhere

      by : (y : Bool) → eqb (at + k) 0 ≡ y → row t (cond y 0 1) ≡ row t 1
      by true z = same
      by false z = refl
  rows_same from false e h k l =
      row-later t (at + k) (elim (dec_lt 0 (at + k)) [
        | yes y ↦ y
        | no y ↦ let z : at + from ≡ 0 = omega arith in absurd (clash (sym (eq-eqb (at + from) 0 z) ∙ sym e))
      ])

-- nothing is passed
pub candidate-none : (d x : List ℕ) (from : ℕ) (first : Bool) → from ≤ length x → Candidate d x from first from
candidate-none d x from first h =
    record { on = omega arith; inside = h; none = λ t at D H e k l m. absurd (omega arith) }

-- past blocks, and then by bytes
pub candidate-passed : (d x : List ℕ) (bytes : (k : ℕ) → get_or x k 0 < 256) (from m : ℕ) (first : Bool) (r : ℕ)
    → (first ≡ true → first_state d ≡ later_state d) → ((t : List ℕ) (at : ℕ) → Hulled t d
    → ((k : ℕ) → from ≤ k → row t (entry_row (at + k)) ≡ row t 1) → Bares t x at from m) → from ≤ m → Passed d x m r
    → Candidate d x from first r
candidate-passed d x bytes from m first r h skip l P =
    record {
      on = omega (arith, P.on);
      inside = P.inside;
      none = λ t at D H e.
          let same = rows_same t d x at D bytes from first e h in
          bares-both t x at from m r (skip t at H same)
          (bares-passed t d x at D bytes m r (λ k a b. same k (omega arith)) P);
    }

-- ---- bytes with which no match begins

pub passed_none : (d x : List ℕ) (i : ℕ) → i ≤ length x → Passed d x i i
passed_none d x i h = record { on = omega arith; inside = h; none = λ k l m. absurd (omega arith) }

pub passed-more : (d x : List ℕ) (from i : ℕ) → Passed d x from i → i < length x
    → next_in d (later_state d) (get_or x i 0) ≡ accepted_state d → Passed d x from (i + 1)
passed-more d x from i P h e =
    record {
      on = omega (arith, P.on);
      inside = omega arith;
      none = λ k l m. elim (dec_lt k i) [
        | yes y ↦ P.none k l y
        | no y ↦
            let z : i ≡ k = omega arith in
            subst (λ (j : ℕ). next_in d (later_state d) (get_or x j 0) ≡ accepted_state d) z e
      ];
    }

-- past blocks or not, and then by bytes
module _ (d x : List ℕ) (bytes : (k : ℕ) → get_or x k 0 < 256) (from m : ℕ) (first : Bool) (r : ℕ) where
  differs : (y : Bool) → (y && not (eqb (first_state d) (later_state d))) ≡ false → y ≡ true
      → first_state d ≡ later_state d
  differs true g z = eqb-true _ _ (not-false _ g)
  differs false g z = absurd (clash (sym z))

  pub candidate-blocks : ((eqb (skips_word d) 0 ≡ false) × (Skipped (ranges_of d) x from m)) ⊎ (m ≡ from)
      → (first && not (eqb (first_state d) (later_state d))) ≡ false → Passed d x m r → Candidate d x from first r
  candidate-blocks (inl w) h P =
      candidate-passed d x bytes from m first r (differs first h)
      (λ t at H e. bares-skipped t x at d (H w.0) bytes from m (λ k a b. e k a) w.1) w.1.on P
  candidate-blocks (inr w) h P =
      candidate-passed d x bytes from m first r (differs first h) (λ t at H e k a b. absurd (omega arith))
      (omega arith) P
