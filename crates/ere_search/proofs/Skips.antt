-- Nothing is lost where a start is skipped: from the entry rows, a byte with which no match can begin leads to the
-- empty set.
use mathlib.Core.Path.{◌≡◌, refl, sym, ap, ◌∙◌}
use mathlib.Core.Bool.{Bool, true, false, true≢false, not, cond, ◌&&◌}
use mathlib.Core.List.{List}
use Prim.Native.Nat.{ℕ, suc, ◌+◌, ◌-◌, ◌<◌}
use native.Mathlib.Omega.{arith}
use native.Mathlib.Nat.{add-zero, lt_of_not-le}
use lib.ListN.{length, get_or}
use lib.Dec.{eqb, leb}
use borrow.Author.Tests.{eqb-true, eqb-false, lt-leb, not-false}
use Rattle.ere_table.specs.Table.{mem, row, no_place, accepts_at, begins, empty_word}
use Rattle.ere_search.specs.Walk.{step, live_at, longest_to, longest_of, entry_row, open_to, may_begin}
use Rattle.ere_table.specs.Wiring.{stop_in, Sealed}
use Rattle.ere_search.proofs.Steps.{step-none}
use Rattle.ere_search.proofs.Finds.{none-longer}
use Rattle.ere_table.proofs.Begins.{begins-with, empty-out}

module _ (t : List ℕ) (S : Sealed t) where
  pub begin-out : (r b : ℕ) → r < 2 → b < 256 → begins t b ≡ false → step t (row t r) b ≡ no_place
  begin-out r b hr hb off = step-none t (row t r) b (λ p hp. by p hp (mem (row t r) p) refl (accepts_at t p b) refl)
    where
      by : (p : ℕ) → p < 128 → (x : Bool) → mem (row t r) p ≡ x → (y : Bool) → accepts_at t p b ≡ y → (mem (row t r) p && accepts_at t p b) ≡ false
      by p hp true m true k = absurd (true≢false (sym (begins-with t S r p b hr hp hb m k) ∙ off))
      by p hp true m false k = rw (m, k)
      by p hp false m y k = rw m

  -- no match is empty
  none_yet : (rest : List ℕ) (at least s : ℕ) → entry_row (at + s) < 2 → open_to t least ≡ false → longest_to t rest at least s 1 ≡ 0
  unfolding longest_to live_at
  none_yet rest at least s entry o = by (eqb least 0) refl
    where
      pick : (x : Bool) → cond x (cond false (suc 0) 0) 0 ≡ 0
      pick true = refl
      pick false = refl

      by : (y : Bool) → eqb least 0 ≡ y → cond (leb least 0) (cond (stop_in (row t (entry_row (at + s))) (eqb (s + 0) (length rest))) (suc 0) 0) 0 ≡ 0
      by true z =
          let e : empty_word t ≡ 0 = eqb-true (empty_word t) 0 (not-false _ (ap (λ (x : Bool). cond x (not (eqb (empty_word t) 0)) false) (sym z) ∙ o)) in
          ap (λ (x : Bool). cond (leb least 0) (cond x (suc 0) 0) 0) (empty-out t S (entry_row (at + s)) entry e (eqb (s + 0) (length rest))) ∙ pick (leb least 0)
      by false z =
          let n = eqb-false least 0 z in
          ap (λ (x : Bool). cond x (cond (stop_in (row t (entry_row (at + s))) (eqb (s + 0) (length rest))) (suc 0) 0) 0) (lt-leb least 0 (lt_of_not-le (λ l. n (omega arith))))

  first-none : (rest : List ℕ) (at s : ℕ) → entry_row (at + s) < 2 → get_or rest s 0 < 256 → begins t (get_or rest s 0) ≡ false → live_at t rest at s 1 ≡ no_place
  unfolding live_at
  first-none rest at s entry hb f = rw (add-zero s) (begin-out (entry_row (at + s)) (get_or rest s 0) entry hb f)

  -- a start whose byte no match can begin with has none
  pub skipped : (rest : List ℕ) (at least s : ℕ) → s < length rest → get_or rest s 0 < 256 → may_begin t (get_or rest s 0) (open_to t least) ≡ false
      → longest_of t rest at least s ≡ 0
  skipped rest at least s hs hb off = by (open_to t least) refl off
    where
      low : (x : Bool) → cond x 0 1 < 2
      low true = omega arith
      low false = omega arith

      by : (x : Bool) → open_to t least ≡ x → cond x true (begins t (get_or rest s 0)) ≡ false → longest_of t rest at least s ≡ 0
      by true o f = absurd (true≢false f)
      by false o f =
          let entry : entry_row (at + s) < 2 = low (eqb (at + s) 0) in
          let same : 1 + (length rest - s) ≡ suc (length rest - s) = omega arith in
          ap (longest_to t rest at least s) (sym same) ∙ none-longer t rest at least s 1 (length rest - s) (first-none rest at s entry hb f)
          ∙ none_yet rest at least s entry o

-- the same, as the search has it
pub not-begun : (t rest : List ℕ) (at least s : ℕ) (empty r : Bool) → empty ≡ open_to t least → r ≡ may_begin t (get_or rest s 0) empty → r ≡ false
    → s < length rest → get_or rest s 0 < 256 → Sealed t → longest_of t rest at least s ≡ 0
not-begun t rest at least s empty r o e f hs hb S =
    skipped t S rest at least s hs hb (ap (may_begin t (get_or rest s 0)) (sym o) ∙ sym e ∙ f)
