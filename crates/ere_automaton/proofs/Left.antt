-- What is left of a search is what it was: the walk from the state that is reached, over the rest of the text, ends
-- where that from the text's start ends.
use Rattle.std.proofs.Common.{◌≡◌, ℕ, zero, suc, ◌+◌, ◌<◌, ◌≤◌, true, false, not, eqb, List, length, get_or, drop, sym, ap, ◌∙◌, subst, add-zero, add-suc, arith, drop_of_length-le, drop-cons}
use Rattle.ere_table.specs.Table.{row, no_place}
use Rattle.ere_table.specs.Wiring.{stop_in}
use Rattle.ere_table.proofs.Sets.{mem-none}
use Rattle.ere_exists.specs.Any.{Exists}
use Rattle.ere_automaton.specs.Sets.{collapsed, after, walk}
use Rattle.ere_automaton.specs.Layout.{State, first_state, later_state, accepted_state, skips_word, end_word}
use Rattle.ere_automaton.specs.Automaton.{Drives}
use Rattle.ere_automaton.specs.Scan.{runs, ranges_of, Skipped}
use Rattle.ere_automaton.proofs.Absorbing.{absorbing}
use Rattle.ere_automaton.proofs.Everywhere.{exists-by-walk}
use Rattle.ere_automaton.proofs.Skips.{skipped}
use Rattle.ere_automaton.proofs.Spent.{collapsed-none, walk_none}
use Rattle.ere_automaton.proofs.States.{runs-state}

-- from the state s at i on
abbrev pub Left : List ℕ → List ℕ → ℕ → ℕ → Type 0
Left d x s i = (t : List ℕ) (D : Drives t d) → walk t (D.sets s) (drop i x) ≡ walk t (D.sets (first_state d)) x

module _ (d x : List ℕ) (bytes : (k : ℕ) → get_or x k 0 < 256) where
  walk-runs : (t : List ℕ) (D : Drives t d) (i s n : ℕ) → State d s → i + n ≤ length x
      → walk t (D.sets (runs d x i s n)) (drop (i + n) x) ≡ walk t (D.sets s) (drop i x)
  unfolding runs walk
  walk-runs t D i s zero S h = ap (λ (j : ℕ). walk t (D.sets s) (drop j x)) (add-zero i)
  walk-runs t D i s (suc n) S h =
      let q = runs d x i s n in
      ap (λ (u : List ℕ). walk t u (drop (i + suc n) x))
      (D.steps q (get_or x (i + n) 0) (runs-state d D.ranged x bytes i s n S) (bytes (i + n)))
      ∙ ap (λ (j : ℕ). walk t (after t (D.sets q) (get_or x (i + n) 0)) (drop j x)) (add-suc i n)
      ∙ ap (walk t (D.sets q)) (sym (drop-cons x (i + n) 0 (omega arith)))
      ∙ walk-runs t D i s n S (omega arith)

  -- after some bytes
  pub left-runs : (i s n : ℕ) → State d s → i + n ≤ length x → Left d x s i → Left d x (runs d x i s n) (i + n)
  left-runs i s n S h L t D = walk-runs t D i s n S h ∙ L t D

  -- past places at which no match starts
  pub left-skipped : (i s r : ℕ) → s ≡ later_state d → eqb (skips_word d) 0 ≡ false → Skipped (ranges_of d) x i r
      → Left d x s i → Left d x s r
  left-skipped i s r e h K L t D =
      let z : D.sets s ≡ collapsed (row t 1) = ap D.sets e ∙ D.later in
      ap (λ (u : List ℕ). walk t u (drop r x)) z
      ∙ sym (skipped t d D.hull x bytes i r K)
      ∙ ap (λ (u : List ℕ). walk t u (drop i x)) (sym z)
      ∙ L t D

  module _ (s : ℕ) (S : State d s) where
    -- the walk ends in s
    abbrev Ends : Type 0
    Ends = (t : List ℕ) (D : Drives t d) → D.sets s ≡ walk t (D.sets (first_state d)) x

    told : Ends → (t : List ℕ) (D : Drives t d) → Exists t x (stop_in (D.sets s) true)
    told E t D =
        let e : D.sets s ≡ walk t (collapsed (row t 0)) x = E t D ∙ ap (λ (u : List ℕ). walk t u x) D.first in
        subst (λ (u : List ℕ). Exists t x (stop_in u true)) (sym e)
        (exists-by-walk t x (subst (λ (u : List ℕ). stop_in u false ≡ true → stop_in u true ≡ true) e (D.fair s S)))

    pub exists-end : Ends → (t : List ℕ) → Drives t d → Exists t x (not (eqb (end_word d s) 0))
    exists-end E t D = subst (Exists t x) (sym (D.ends s S)) (told E t D)

    -- nothing is left
    pub left-none : (i : ℕ) → i ≡ length x → Left d x s i → Ends
    unfolding walk
    left-none i e L t D = ap (walk t (D.sets s)) (sym (drop_of_length-le x {i = i} (omega arith))) ∙ L t D

    -- a match has ended
    module _ (i : ℕ) (L : Left d x s i) (e : s ≡ accepted_state d) where
      ended : (t : List ℕ) (D : Drives t d) → stop_in (D.sets s) false ≡ true
      ended t D =
          subst (λ (q : ℕ). State d q → stop_in (D.sets q) false ≡ true) (sym e) D.accepted S

      pub left_ended : Ends
      left_ended t D = sym (absorbing t (D.sets s) (ended t D) (drop i x)) ∙ L t D

      pub exists-ended : (t : List ℕ) → Drives t d → Exists t x true
      exists-ended t D = subst (Exists t x) (D.fair s S (ended t D)) (told left_ended t D)

    -- no match is left to start
    module _ (i : ℕ) (L : Left d x s i) (e : s ≡ later_state d) (f : skips_word d ≡ 2) where
      none : (t : List ℕ) (D : Drives t d) → D.sets s ≡ no_place
      none t D = ap D.sets e ∙ D.later ∙ collapsed-none t (D.hull.fixed f)

      none_ends : Ends
      none_ends t D =
          none t D
          ∙ sym (walk_none t (D.hull.fixed f) (drop i x))
          ∙ ap (λ (u : List ℕ). walk t u (drop i x)) (sym (none t D))
          ∙ L t D

      pub exists-none : (t : List ℕ) → Drives t d → Exists t x false
      exists-none t D =
          subst (Exists t x) (ap (λ (u : List ℕ). stop_in u true) (none t D) ∙ mem-none 129) (told none_ends t D)
