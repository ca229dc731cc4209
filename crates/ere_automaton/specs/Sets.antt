-- Internal: cited by private contracts only. One walk over a text for all starts of a match: the set of what may come
-- next, a match that starts there included.
use Rattle.std.specs.Prelude.{◌≡◌, ℕ, zero, suc, ◌<◌, Bool, true, false, cond, List, [], ◌∷◌, slice_index}
use Rattle.ere_table.specs.Table.{row, join}
use Rattle.ere_table.specs.Wiring.{stop_in}
use Rattle.ere_search.specs.Walk.{step}

-- a set in which a match has ended is the same whatever else may come next
unfoldable pub collapsed : List ℕ → List ℕ
collapsed u = cond (stop_in u false) (0 ∷ 0 ∷ slice_index u 2 ∷ []) u

-- the set after the byte b; once a match has ended, it stays
unfoldable pub after : List ℕ → List ℕ → ℕ → List ℕ
after t s b = cond (stop_in s false) s (collapsed (join (step t s b) (row t 1)))

-- the set after some bytes
unfoldable pub walk : List ℕ → List ℕ → List ℕ → List ℕ
walk t s [] = s
walk t s (b ∷ l) = walk t (after t s b) l

-- there is a match, by where the walk ends
abbrev pub answer : List ℕ → List ℕ → List ℕ → Bool
answer t s l = stop_in (walk t s l) true

-- after n bytes nothing is left of what may come next, and no match has ended before them
unfoldable pub spent : List ℕ → ℕ → List ℕ → Type 0
spent t zero s = (slice_index s 0 ≡ 0) × (slice_index s 1 ≡ 0) × (slice_index s 2 ≡ 0)
spent t (suc n) s = (stop_in s false ≡ false) × ((b : ℕ) → b < 256 → spent t n (step t s b))
