-- Internal: cited by private contracts only. What the functions that read one byte of a bracket answer.
use Rattle.std.specs.Prelude.{◌≡◌, Option, Some, None, List, [], ◌∷◌, ℕ, ◌≤◌, ◌<◌, length, drop}
use Rattle.std.proofs.Math.Option as maybe
use Rattle.lists.specs.Parsing.{Parsed, parsed}

-- `:`, `=` and `.`
abbrev pub class_marks : List ℕ
class_marks = 58 ∷ 61 ∷ 46 ∷ []

-- an answer in the list l: the byte, and what is left after it
abbrev pub member_of : Option (ℕ × ℕ) → List ℕ → maybe.Option (Parsed ℕ)
member_of (Some m) l = parsed m.0 (drop m.1 l)
member_of None l = maybe.none

-- the index after the byte lies further on, in the list or at its end
abbrev pub Further : Option (ℕ × ℕ) → List ℕ → ℕ → Type 0
Further (Some m) l at = (at < m.1) × (m.1 ≤ length l)
Further None l at = Unit

-- the answer from index `at` of l on is what a definition reads there
pub record Reads (r : Option (ℕ × ℕ)) (l : List ℕ) (at : ℕ) (read : maybe.Option (Parsed ℕ)) : Type 0 where
  pub same : member_of r l ≡ read
  pub further : Further r l at
