-- Where nothing is pending, a byte with which no match starts changes nothing.
use Rattle.std.proofs.Common.{◌≡◌, ℕ, zero, suc, ◌+◌, ◌-◌, ◌<◌, ◌≤◌, Bool, true, false, ◌&&◌, ◌||◌, List, ◌∷◌, length, get_or, drop, sym, refl, ap, ◌∙◌, subst, ap₂, le_refl, add-zero, add-one, arith, drop-cons}
use Rattle.ere_table.specs.Table.{row, join}
use Rattle.ere_table.specs.Wiring.{stop_in}
use Rattle.ere_table.proofs.Sets.{mem-join}
use Rattle.ere_search.specs.Walk.{step}
use Rattle.ere_automaton.specs.Sets.{collapsed, after, walk}
use Rattle.ere_automaton.specs.Automaton.{first_byte, second_byte, Hull}
use Rattle.ere_automaton.specs.Scan.{ranges_of, begin, Skipped}
use Rattle.ere_automaton.proofs.Absorbing.{collapsed-stops, collapsed-open, after_open, absorbing}
use Rattle.ere_automaton.proofs.Joins.{step-join, join-none, join-nothing}
use Rattle.ere_automaton.proofs.Ranging.{begin-hull}

module _ (t d : List ℕ) (H : Hull t d) where
  -- where nothing is pending
  abbrev R : List ℕ
  R = row t 1

  module _ (not_yet : stop_in R false ≡ false) (b c : ℕ) (hb : b < 256) (hc : c < 256) where
    -- no match starts with b
    by_first : first_byte d b ≡ false → after t R b ≡ R
    by_first h =
        after_open t R not_yet b
        ∙ ap (λ (u : List ℕ). collapsed (join u R)) (H.first b hb h)
        ∙ ap collapsed (join-none R)
        ∙ collapsed-open R not_yet

    -- one may, and none goes on with c
    by-second : second_byte d c ≡ false → after t (after t R b) c ≡ after t R c
    by-second h =
        let X = step t R b in
        let still : stop_in (join X R) false ≡ false =
        mem-join X R 128 (omega arith) ∙ ap₂ ◌||◌ (H.none_ends b c hb hc h) not_yet in
        let one : after t R b ≡ join X R = after_open t R not_yet b ∙ collapsed-open (join X R) still in
        ap (λ (u : List ℕ). after t u c) one
        ∙ after_open t (join X R) still c
        ∙ ap (λ (u : List ℕ). collapsed (join u R))
        (step-join t X R c ∙ ap (λ (u : List ℕ). join u (step t R c)) (H.second b c hb hc h))
        ∙ ap collapsed (join-nothing (step t R c) R)
        ∙ sym (after_open t R not_yet c)

    neither : (l : List ℕ) → (first_byte d b && second_byte d c) ≡ false → walk t R (b ∷ c ∷ l) ≡ walk t R (c ∷ l)
    unfolding walk
    neither l h = by (first_byte d b) refl h
      where
        by : (x : Bool) → first_byte d b ≡ x → (x && second_byte d c) ≡ false → walk t R (b ∷ c ∷ l) ≡ walk t R (c ∷ l)
        by true e k = ap (λ (u : List ℕ). walk t u l) (by-second k)
        by false e k = ap (λ (u : List ℕ). walk t u (c ∷ l)) (by_first e)

  -- one place
  pass : (b c : ℕ) (l : List ℕ) → b < 256 → c < 256 → begin (ranges_of d) b c ≡ false
      → walk t (collapsed R) (b ∷ c ∷ l) ≡ walk t (collapsed R) (c ∷ l)
  pass b c l hb hc h = by (stop_in R false) refl
    where
      by : (x : Bool) → stop_in R false ≡ x → walk t (collapsed R) (b ∷ c ∷ l) ≡ walk t (collapsed R) (c ∷ l)
      by true e =
          let ended : stop_in (collapsed R) false ≡ true = collapsed-stops R false ∙ e in
          absorbing t (collapsed R) ended (b ∷ c ∷ l) ∙ sym (absorbing t (collapsed R) ended (c ∷ l))
      by false e =
          subst (λ (u : List ℕ). walk t u (b ∷ c ∷ l) ≡ walk t u (c ∷ l)) (sym (collapsed-open R e))
          (neither e b c hb hc l (sym (begin-hull t d H b c hb hc) ∙ h))

  module _ (x : List ℕ) (bytes : (k : ℕ) → get_or x k 0 < 256) where
    pass-at : (i : ℕ) → i + 1 < length x → begin (ranges_of d) (get_or x i 0) (get_or x (i + 1) 0) ≡ false
        → walk t (collapsed R) (drop i x) ≡ walk t (collapsed R) (drop (suc i) x)
    pass-at i h k =
        let next : drop (suc i) x ≡ get_or x (suc i) 0 ∷ drop (suc (suc i)) x = drop-cons x (suc i) 0 (omega arith) in
        ap (walk t (collapsed R)) (drop-cons x i 0 (omega arith) ∙ ap (λ (l : List ℕ). get_or x i 0 ∷ l) next)
        ∙ pass (get_or x i 0) (get_or x (suc i) 0) (drop (suc (suc i)) x) (bytes i) (bytes (suc i)) (rw add-one at k)
        ∙ ap (walk t (collapsed R)) (sym next)

    pass-run : (n i : ℕ) → i + n < length x
        → ((j : ℕ) → i ≤ j → j < i + n → begin (ranges_of d) (get_or x j 0) (get_or x (j + 1) 0) ≡ false)
        → walk t (collapsed R) (drop i x) ≡ walk t (collapsed R) (drop (i + n) x)
    pass-run zero i h k = ap (λ (j : ℕ). walk t (collapsed R) (drop j x)) (sym (add-zero i))
    pass-run (suc n) i h k =
        let z : suc i + n ≡ i + suc n = omega arith in
        pass-at i (omega arith) (k i (le_refl i) (omega arith))
        ∙ pass-run n (suc i) (omega arith) (λ j g l. k j (omega arith) (omega arith))
        ∙ ap (λ (j : ℕ). walk t (collapsed R) (drop j x)) z

    -- all of them
    pub skipped : (i r : ℕ) → Skipped (ranges_of d) x i r
        → walk t (collapsed R) (drop i x) ≡ walk t (collapsed R) (drop r x)
    skipped i r S = by (r - i) refl
      where
        by : (n : ℕ) → r - i ≡ n → walk t (collapsed R) (drop i x) ≡ walk t (collapsed R) (drop r x)
        by zero e = let z : i ≡ r = omega (arith, S.on) in ap (λ (j : ℕ). walk t (collapsed R) (drop j x)) z
        by (suc n) e =
            let z : i + suc n ≡ r = omega (arith, S.on) in
            pass-run (suc n) i (omega (arith, S.short (omega arith))) (λ j g l. S.none j g (omega arith))
            ∙ ap (λ (j : ℕ). walk t (collapsed R) (drop j x)) z
