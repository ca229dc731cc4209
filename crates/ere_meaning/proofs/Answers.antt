-- The search finds the best answer, and there is only one.
use mathlib.Core.Path.{◌≡◌, refl, sym, ap₂, subst, ◌∙◌}
use mathlib.Core.Bool.{Bool, true, false, true≢false, cond}
use mathlib.Core.Logic.{⊎_elim, ◌↔◌}
use mathlib.Core.List.{List}
use Prim.Native.Nat.{ℕ, zero, suc, ◌+◌, ◌-◌, ◌≤◌}
use native.Mathlib.Nat.{le_refl, eq-or-lt_of_le, le_of_suc-le-suc, lt_of_not-le}
use native.Mathlib.Omega.{arith}
use lib.ListN.{length}
use Rattle.ere_meaning.specs.Tree.{Ere}
use Rattle.ere_meaning.specs.Meaning.{Spans, Match, found, nowhere, BestFrom, Best}
use Rattle.ere_meaning.specs.Search.{leads, longest, leftmost, best_from, best_of}
use Rattle.ere_meaning.proofs.Leading.{forward, leads-true, true-leads}

module _ {A : Type 0} (ok : A → ℕ → Bool) (text : List ℕ) (e : Ere A) where
  module _ (least s : ℕ) where
    -- where no span of at least `least` bytes starts at s, each starts after s
    behind : ((j : ℕ) → s + least ≤ j → Spans ok text e s j → ⊥) → (k j : ℕ) → s ≤ k → k + least ≤ j → Spans ok text e k j → suc s ≤ k
    behind none k j l m x =
        ⊎_elim (λ z. absurd (none j (omega arith) (subst (λ (c : ℕ). Spans ok text e c j) (sym z) x))) (λ g. g) (eq-or-lt_of_le l)

    -- so the best from after s is the best from s
    later : ((j : ℕ) → s + least ≤ j → Spans ok text e s j → ⊥) → (r : Match) → BestFrom ok text e (suc s) least r → BestFrom ok text e s least r
    later none (found i n) h = (h.0, omega (arith, h.1), h.2, (λ k j l m x. h.3 k j (behind none k j l m x) m x), h.4)
    later none nowhere h = λ k j l m x. h k j (behind none k j l m x) m x

    -- n lengths are left to try, and no longer span starts at s
    longest-best : (n : ℕ) (other : Match) → n ≤ suc (length text) - (s + least) → ((j : ℕ) → s + (least + n) ≤ j → Spans ok text e s j → ⊥)
        → BestFrom ok text e (suc s) least other → BestFrom ok text e s least (longest ok text e s least n other)
    longest-best zero other l none h = later (λ j m x. none j (omega arith) x) other h
    longest-best (suc n) other l none h = by (leads ok text e s (s + (least + n))) refl (λ f. longest-best n other (omega arith) (shorter f) h)
      where
        shorter : leads ok text e s (s + (least + n)) ≡ false → (j : ℕ) → s + (least + n) ≤ j → Spans ok text e s j → ⊥
        shorter f j m x =
            ⊎_elim (λ z. true≢false (sym (true-leads ok text e s j x.0 x.1) ∙ subst (λ (c : ℕ). leads ok text e s c ≡ false) z f))
            (λ g. none j (omega arith) x) (eq-or-lt_of_le m)

        by : (x : Bool) → leads ok text e s (s + (least + n)) ≡ x
            → (leads ok text e s (s + (least + n)) ≡ false → BestFrom ok text e s least (longest ok text e s least n other))
            → BestFrom ok text e s least (cond x (found s (least + n)) (longest ok text e s least n other))
        by true f rest = (
          (omega arith, leads-true ok text e s (s + (least + n)) f),
          le_refl s,
          omega arith,
          (λ k j m b x. m),
          (λ j m x. le_of_suc-le-suc (lt_of_not-le (λ g. none j (omega arith) x))),
        )
        by false f rest = rest f

  -- d starts are left to try, up to the text's end
  leftmost-best : (least s d : ℕ) → suc (length text) ≤ s + d → BestFrom ok text e s least (leftmost ok text e least s d)
  leftmost-best least s zero l = λ k j m b x. omega (arith, x.0, forward ok text e k j x.1)
  leftmost-best least s (suc d) l =
      longest-best least s (suc (length text) - (s + least)) (leftmost ok text e least (suc s) d) (le_refl _)
      (λ j m x. omega (arith, x.0, forward ok text e s j x.1)) (leftmost-best least (suc s) d (omega arith))

  module _ (from least : ℕ) where
    pub best-from : BestFrom ok text e from least (best_from ok text e from least)
    unfolding best_from
    best-from = leftmost-best least from (suc (length text) - from) (omega arith)

    pub best-one : (r q : Match) → BestFrom ok text e from least r → BestFrom ok text e from least q → r ≡ q
    best-one (found s n) (found k m) x y =
        let a = x.3 k (k + m) y.1 (omega (arith, y.2)) y.0 in
        let b = y.3 s (s + n) x.1 (omega (arith, x.2)) x.0 in
        let z : s ≡ k = omega arith in
        let c = x.4 (k + m) (omega (arith, y.2)) (subst (λ (i : ℕ). Spans ok text e i (k + m)) (sym z) y.0) in
        let d = y.4 (s + n) (omega (arith, x.2)) (subst (λ (i : ℕ). Spans ok text e i (s + n)) z x.0) in
        ap₂ found z (omega arith)
    best-one (found s n) nowhere x y = absurd (y s (s + n) x.1 (omega (arith, x.2)) x.0)
    best-one nowhere (found k m) x y = absurd (x k (k + m) y.1 (omega (arith, y.2)) y.0)
    best-one nowhere nowhere x y = refl

    -- so the best answer is what the search gives, and the other way round
    pub best-is : (r : Match) → BestFrom ok text e from least r → best_from ok text e from least ≡ r
    best-is r h = best-one (best_from ok text e from least) r best-from h

    pub is-best : (r : Match) → best_from ok text e from least ≡ r → BestFrom ok text e from least r
    is-best r h = subst (BestFrom ok text e from least) h best-from

    -- what is found is a span, lies in the text, starts where it may and is long enough
    pub found-spans : (s n : ℕ) → best_from ok text e from least ≡ found s n → Spans ok text e s (s + n)
    found-spans s n h = (is-best (found s n) h).0

    pub found_in : (s n : ℕ) → best_from ok text e from least ≡ found s n → (s + n ≤ length text) × (from ≤ s) × (least ≤ n)
    found_in s n h = let x = is-best (found s n) h in (x.0.0, x.1, x.2)

    -- nothing is found exactly if there is no such span
    pub from-none-nowhere : ((k j : ℕ) → from ≤ k → k + least ≤ j → Spans ok text e k j → ⊥) → best_from ok text e from least ≡ nowhere
    from-none-nowhere = best-is nowhere

    pub from-nowhere-none : best_from ok text e from least ≡ nowhere → (k j : ℕ) → from ≤ k → k + least ≤ j → Spans ok text e k j → ⊥
    from-nowhere-none = is-best nowhere

    pub from-nowhere-exactly : (best_from ok text e from least ≡ nowhere) ↔ ((k j : ℕ) → from ≤ k → k + least ≤ j → Spans ok text e k j → ⊥)
    from-nowhere-exactly = (from-nowhere-none, from-none-nowhere)

  -- the same of all spans
  pub best : Best ok text e (best_of ok text e)
  unfolding best_of
  best = best-from 0 0

  pub none-nowhere : ((i j : ℕ) → Spans ok text e i j → ⊥) → best_of ok text e ≡ nowhere
  unfolding best_of
  none-nowhere h = from-none-nowhere 0 0 (λ i j l m x. h i j x)

  pub nowhere-none : best_of ok text e ≡ nowhere → (i j : ℕ) → Spans ok text e i j → ⊥
  unfolding best_of
  nowhere-none h i j x = from-nowhere-none 0 0 h i j (omega arith) (omega (arith, forward ok text e i j x.1)) x

  pub nowhere-exactly : (best_of ok text e ≡ nowhere) ↔ ((i j : ℕ) → Spans ok text e i j → ⊥)
  nowhere-exactly = (nowhere-none, none-nowhere)
