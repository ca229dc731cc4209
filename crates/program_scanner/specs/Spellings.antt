-- Internal: cited by private contracts only. The table of words and operators as the code has it.
use Rattle.std.specs.Prelude.{cond, ◌&&◌, List, [], ◌∷◌, ℕ, leb}
use Rattle.program_tokens.specs.Kinds.{rank}
use Rattle.program_tokens.specs.Words.{Word, same_bytes}

-- a row: a spelling, the number of its kind, and the first edition that has it
abbrev pub Row : Type 0
Row = List ℕ × ℕ × ℕ

unfoldable pub rows_of : List Word → List Row
rows_of [] = []
rows_of (x ∷ l) = (x.spelling, rank x.kind, x.since) ∷ rows_of l

-- the number that the rows give a spelling in an edition, or another where they have none
unfoldable pub rank_in : ℕ → ℕ → List ℕ → List Row → ℕ
rank_in edition other w [] = other
rank_in edition other w (r ∷ l) =
    let rest = rank_in edition other w l in
    cond (leb r.2 edition && same_bytes w r.0) r.1 rest
