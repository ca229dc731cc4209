-- One walk of sets tells whether there is a match: the set after i bytes is that of all starts up to i, as long as no
-- match has ended.
use Rattle.std.proofs.Common.{◌≡◌, ℕ, zero, suc, ◌+◌, ◌<◌, Bool, true, false, cond, ◌⊎◌, List, [], length, get_or, drop, sym, refl, ap, ◌∙◌, subst, inl, inr, le_refl, arith, drop_of_length-le, drop-cons, ne_eqb}
use native.Mathlib.Decide.{ℕ_discrete}
use Rattle.ere_table.specs.Table.{row, join}
use Rattle.ere_table.specs.Wiring.{stop_in}
use Rattle.ere_search.specs.Walk.{step}
use Rattle.ere_exists.specs.Any.{Exists}
use Rattle.ere_exists.proofs.Anywhere.{pending, all_at, ends}
use Rattle.ere_exists.proofs.Anywhere.{yes as stops-early}
use Rattle.ere_automaton.specs.Sets.{collapsed, after, walk, answer}
use Rattle.ere_automaton.proofs.Absorbing.{collapsed-stops, collapsed-open, after_ended, after_open, absorbing}
use Rattle.ere_automaton.proofs.Joins.{join-none}

module _ (t text : List ℕ) where
  -- a match has ended before i, and s says so; or none has, and s is the set of all starts up to i
  abbrev Met : ℕ → List ℕ → Type 0
  Met i s =
      ((k : ℕ) × (k < i) × (stop_in (all_at t text k) false ≡ true) × (stop_in s false ≡ true))
      ⊎ (((k : ℕ) → k < i → stop_in (all_at t text k) false ≡ false) × (s ≡ collapsed (all_at t text i)))

  -- where a match may end before the text's end, it may at it
  abbrev Fair : List ℕ → Type 0
  Fair s = stop_in s false ≡ true → stop_in s true ≡ true

  all-next : (i : ℕ) → join (step t (all_at t text i) (get_or text i 0)) (row t 1) ≡ all_at t text (suc i)
  unfolding pending
  all-next i =
      ap (λ (x : Bool). join (step t (all_at t text i) (get_or text i 0)) (row t (cond x 0 1)))
      (sym (ne_eqb (suc i) 0 (omega arith)))

  met_next : (i : ℕ) (s : List ℕ) → ((k : ℕ) → k < i → stop_in (all_at t text k) false ≡ false)
      → s ≡ collapsed (all_at t text i)
      → Met (suc i) (after t s (get_or text i 0))
  met_next i s before e = by (stop_in (all_at t text i) false) refl
    where
      b : ℕ
      b = get_or text i 0

      stopped : (x : Bool) → stop_in (all_at t text i) false ≡ x → stop_in s false ≡ x
      stopped x h = ap (λ (u : List ℕ). stop_in u false) e ∙ collapsed-stops (all_at t text i) false ∙ h

      by : (x : Bool) → stop_in (all_at t text i) false ≡ x → Met (suc i) (after t s b)
      by true h =
          let same = after_ended t s (stopped true h) b in
          inl (i, le_refl (suc i), h, ap (λ (u : List ℕ). stop_in u false) same ∙ stopped true h)
      by false h =
          inr (
            (λ k l. elim (ℕ_discrete k i) [
              | yes g ↦ ap (λ (j : ℕ). stop_in (all_at t text j) false) g ∙ h
              | no g ↦ before k (omega arith)
            ]),
            after_open t s (stopped false h) b
                ∙ ap (λ (u : List ℕ). collapsed (join (step t u b) (row t 1))) (e ∙ collapsed-open (all_at t text i) h)
                ∙ ap collapsed (all-next i),
          )

  abbrev To : ℕ → List ℕ → Type 0
  To i s = Fair (walk t s (drop i text)) → Exists t text (answer t s (drop i text))

  early : (i : ℕ) (s : List ℕ) (k : ℕ) → k < length text → stop_in (all_at t text k) false ≡ true
      → stop_in s false ≡ true → To i s
  early i s k h m e fair =
      subst (Exists t text) (sym (fair (ap (λ (u : List ℕ). stop_in u false) (absorbing t s e (drop i text)) ∙ e)))
      (stops-early t text k h (λ S. m))

  from : (n i : ℕ) (s : List ℕ) → i + n ≡ length text → Met i s → To i s
  unfolding walk
  from zero i s e (inl m) = early i s m.0 (omega (arith, m.1)) m.2 m.3
  from zero i s e (inr m) = λ fair.
      let z : i ≡ length text = omega arith in
      let last : drop i text ≡ [] = drop_of_length-le text {i = i} (omega arith) in
      ends t text i z (answer t s (drop i text)) (λ k h S. m.0 k h)
      (λ S. ap (λ (l : List ℕ). answer t s l) last
      ∙ ap (λ (u : List ℕ). stop_in u true) m.1
      ∙ collapsed-stops (all_at t text i) true)
  from (suc n) i s e (inl m) = early i s m.0 (omega (arith, m.1)) m.2 m.3
  from (suc n) i s e (inr m) =
      subst (λ (l : List ℕ). Fair (walk t s l) → Exists t text (answer t s l)) (sym (drop-cons text i 0 (omega arith)))
      (from n (suc i) (after t s (get_or text i 0)) (omega arith) (met_next i s m.0 m.1))

  -- the walk from where the text starts
  pub exists-by-walk : Fair (walk t (collapsed (row t 0)) text) → Exists t text (answer t (collapsed (row t 0)) text)
  unfolding pending
  exists-by-walk =
      from (length text) 0 (collapsed (row t 0)) (omega arith)
      (inr ((λ k h. absurd (omega arith)), ap collapsed (sym (join-none (row t 0)))))
