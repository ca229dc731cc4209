-- A set in which a match has ended stays; and what one in which none has goes to.
use Rattle.std.proofs.Common.{◌≡◌, ℕ, Bool, true, false, cond, List, [], ◌∷◌, get_or, refl, ap, ◌∙◌}
use Rattle.ere_table.specs.Table.{row, join}
use Rattle.ere_table.specs.Wiring.{stop_in}
use Rattle.ere_search.specs.Walk.{step}
use Rattle.ere_automaton.specs.Sets.{collapsed, after, walk}

-- its accept bits are those of the set
pub collapsed-stops : (u : List ℕ) (f : Bool) → stop_in (collapsed u) f ≡ stop_in u f
unfolding collapsed
collapsed-stops u f = pick (stop_in u false) f
  where
    pick : (x g : Bool) → stop_in (cond x (0 ∷ 0 ∷ get_or u 2 0 ∷ []) u) g ≡ stop_in u g
    pick true true = refl
    pick true false = refl
    pick false g = refl

pub collapsed-open : (u : List ℕ) → stop_in u false ≡ false → collapsed u ≡ u
unfolding collapsed
collapsed-open u h = ap (λ (x : Bool). cond x (0 ∷ 0 ∷ get_or u 2 0 ∷ []) u) h

module _ (t s : List ℕ) where
  pub after_ended : stop_in s false ≡ true → (b : ℕ) → after t s b ≡ s
  unfolding after
  after_ended h b = ap (λ (x : Bool). cond x s (collapsed (join (step t s b) (row t 1)))) h

  pub after_open : stop_in s false ≡ false → (b : ℕ) → after t s b ≡ collapsed (join (step t s b) (row t 1))
  unfolding after
  after_open h b = ap (λ (x : Bool). cond x s (collapsed (join (step t s b) (row t 1)))) h

  pub absorbing : stop_in s false ≡ true → (l : List ℕ) → walk t s l ≡ s
  unfolding walk
  absorbing h [] = refl
  absorbing h (b ∷ l) = ap (λ (u : List ℕ). walk t u l) (after_ended h b) ∙ absorbing h l
