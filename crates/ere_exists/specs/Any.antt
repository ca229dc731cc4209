-- Internal: cited by private contracts only. Whether the ERE of a table has a span in a text.
use Rattle.std.specs.Prelude.{◌≡◌, Bool, true, false, not, cond, List, ℕ, get_or, eqb}
use Rattle.ere_meaning.specs.Tree.{Ere}
use Rattle.ere_meaning.specs.Meaning.{Match, found, nowhere}
use Rattle.ere_meaning.specs.Search.{best_of}
use Rattle.ere_table.specs.Wiring.{Tabled}
use Rattle.ere_table.specs.Table.{accepts_at}
use Rattle.ere_search.specs.Walk.{dead, may_begin}

-- an answer that is a match
abbrev pub is_match : Match → Bool
is_match (found s n) = true
is_match nowhere = false

-- r says whether the text has a match, for each ERE whose table it is
abbrev pub Exists : List ℕ → List ℕ → Bool → Type 0
Exists t text r = (e : Ere ℕ) → Tabled t e → r ≡ is_match (best_of (accepts_at t) text e)

-- the set has nothing in it, and no match begins with the byte b
abbrev pub passes : List ℕ → List ℕ → ℕ → Bool → Bool
passes t s b empty = cond (dead s) (cond (eqb (get_or s 2 0) 0) (not (may_begin t b empty)) false) false

-- no match begins with the byte b
abbrev pub no_start : List ℕ → Bool → ℕ → Bool
no_start t empty b = not (may_begin t b empty)
