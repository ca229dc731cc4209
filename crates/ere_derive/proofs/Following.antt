-- Laws of the three ways in which an automaton follows a table.
use mathlib.Core.Path.{◌≡◌, refl, sym, ap, ap₂, ◌∙◌}
use mathlib.Core.Bool.{Bool, true, false, not, cond}
use mathlib.Core.List.{List}
use Prim.Native.Nat.{ℕ, ◌/◌, ◌%◌}
use native.Mathlib.Nat.{div-div-eq-div-mul}
use native.Mathlib.Omega.{arith}
use lib.ListN.{get_or}
use lib.Dec.{eqb}
use borrow.Author.Tests.{eqb-true, eqb-false, eq-eqb, ne_eqb}
use Rattle.ere_table.specs.Table.{row, join}
use Rattle.ere_table.specs.Wiring.{stop_in}
use Rattle.ere_search.specs.Walk.{step}
use Rattle.ere_automaton.specs.Sets.{collapsed, after}
use Rattle.ere_automaton.specs.Automaton.{Hull, Shape, Drives}
use Rattle.ere_automaton.specs.Follows.{FollowsAll, FollowsOne, FollowsPending, pending_after}
use Rattle.ere_sets.specs.Modes.{change_by, first_by, later_by, last_by, FollowsBy}
use Rattle.ere_sets.specs.Growth.{Fair}

after_same : (t s : List ℕ) (b c : ℕ) → step t s b ≡ step t s c → after t s b ≡ after t s c
unfolding after
after_same t s b c e = ap (λ (u : List ℕ). cond (stop_in s false) s (collapsed (join u (row t 1)))) e

pending-same : (t s : List ℕ) (b c : ℕ) → step t (join s (row t 1)) b ≡ step t (join s (row t 1)) c
    → pending_after t s b ≡ pending_after t s c
unfolding pending_after
pending-same t s b c e = ap (λ (u : List ℕ). cond (stop_in s false) s (collapsed u)) e

-- bytes that do the same to each set do so in each mode
pub change-same : (mode : ℕ) (t s : List ℕ) (b c : ℕ) → ((u : List ℕ) → step t u b ≡ step t u c)
    → change_by mode t s b ≡ change_by mode t s c
unfolding change_by
change-same mode t s b c e =
    ap₂ (λ (x y : List ℕ). cond (eqb mode 0) x (cond (eqb mode 1) y (pending_after t s b)))
    (after_same t s b c (e s)) (e s)
    ∙ ap (λ (x : List ℕ). cond (eqb mode 0) (after t s c) (cond (eqb mode 1) (step t s c) x))
    (pending-same t s b c (e (join s (row t 1))))

-- ---- accept bits

pub fair-marks : (s : List ℕ) → Fair s → get_or s 2 0 % 4 ≡ 1 → ⊥
fair-marks s f e =
    let h : get_or s 2 0 / 1 % 2 ≡ 1 = omega arith in
    let g = eqb-true (get_or s 2 0 / 2 % 2) 1 (f.fair (eq-eqb (get_or s 2 0 / 1 % 2) 1 h)) in
    omega arith

marks-end : (s : List ℕ) (w : ℕ) → w ≡ get_or s 2 0 % 4 → (w ≡ 1 → ⊥) → not (eqb w 0) ≡ stop_in s true
marks-end s w e f = go (eqb w 0) refl
  where
    go : (x : Bool) → eqb w 0 ≡ x → not (eqb w 0) ≡ stop_in s true
    go true h =
        let z = eqb-true w 0 h in
        let g : get_or s 2 0 / 2 % 2 ≡ 1 → ⊥ = λ y. omega arith in
        ap not h ∙ sym (ne_eqb (get_or s 2 0 / 2 % 2) 1 g)
    go false h =
        let z = eqb-false w 0 h in
        let g : get_or s 2 0 / 2 % 2 ≡ 1 = omega arith in
        ap not h ∙ sym (eq-eqb (get_or s 2 0 / 2 % 2) 1 g)

marks-fair : (s : List ℕ) (w : ℕ) → w ≡ get_or s 2 0 % 4 → (w ≡ 1 → ⊥) → stop_in s false ≡ true → stop_in s true ≡ true
marks-fair s w e f h = go (stop_in s true) refl
  where
    go : (x : Bool) → stop_in s true ≡ x → stop_in s true ≡ true
    go true g = g
    go false g =
        let z : get_or s 2 0 / 1 % 2 ≡ 1 = eqb-true (get_or s 2 0 / 1 % 2) 1 h in
        let y = eqb-false (get_or s 2 0 / 2 % 2) 1 g in
        let i : get_or s 2 0 / 2 % 2 ≡ 0 = omega arith in
        let k : get_or s 2 0 / 2 / 2 ≡ get_or s 2 0 / 4 = div-div-eq-div-mul (get_or s 2 0) 2 2 in
        let j : get_or s 2 0 % 4 ≡ 1 = omega arith in
        absurd (f (e ∙ j))

-- ---- the modes

pub follows-all : (t : List ℕ) {d : List ℕ} → FollowsBy 0 t d → FollowsAll t d
unfolding change_by first_by later_by last_by
follows-all t F = F

pub follows-one : (t : List ℕ) {d : List ℕ} → FollowsBy 1 t d → FollowsOne t d
unfolding change_by first_by later_by last_by
follows-one t F = F

pub follows-pending : (t : List ℕ) {d : List ℕ} → FollowsBy 2 t d → FollowsPending t d
unfolding change_by first_by later_by last_by
follows-pending t F = F

-- all starts: whether there is a match
pub follows-drives : {t d : List ℕ} → FollowsAll t d → Hull t d → Shape t d → Drives t d
follows-drives F H S = record {
  ranged = F.ranged;
  sets = F.sets;
  first = F.starts;
  later = F.elsewhere;
  accepted = λ s. ap (λ (u : List ℕ). stop_in u false) F.stays;
  steps = F.steps;
  ends = λ q s. marks-end (F.sets q) _ (F.marks q s) (F.fair q s);
  fair = λ q s. marks-fair (F.sets q) _ (F.marks q s) (F.fair q s);
  hull = H;
  shape = S;
}
