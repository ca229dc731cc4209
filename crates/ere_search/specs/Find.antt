-- Internal: cited by private contracts only. What the walk over the table of an ERE finds: the best of its spans.
use Rattle.std.specs.Prelude.{◌≡◌, List, ℕ, ◌+◌, ◌≤◌, length, drop, Option, Some, None}
use Rattle.ere_meaning.specs.Tree.{Ere}
use Rattle.ere_meaning.specs.Meaning.{Match, found, nowhere, BestFrom}
use Rattle.ere_table.specs.Wiring.{Tabled}
use Rattle.ere_table.specs.Table.{accepts_at}

-- an answer of the code: where a match starts, and how long it is
abbrev pub match_of : Option (ℕ × ℕ) → Match
match_of (Some (s, n)) = found s n
match_of None = nowhere

-- a match lies in the text of which `len` bytes are left from place `at` on, and has at least `least` bytes
abbrev pub Inside : ℕ → ℕ → ℕ → Option (ℕ × ℕ) → Type 0
Inside at least len (Some (s, n)) = (at ≤ s) × (s + n ≤ at + len) × (least ≤ n)
Inside at least len None = Unit

-- r is the best match of at least `least` bytes in the text whose bytes from place `at` on are `rest`
pub record Finds (t rest : List ℕ) (at least : ℕ) (r : Option (ℕ × ℕ)) : Type 0 where
  pub inside : Inside at least (length rest) r
  pub best : (e : Ere ℕ) (w : List ℕ) → Tabled t e → at ≤ length w → drop at w ≡ rest
      → BestFrom (accepts_at t) w e at least (match_of r)
