-- Document 01, "Splitting": what separates the fields of a record.
use Rattle.std.specs.Prelude.{cond, List, [], ◌∷◌, ℕ, eqb}
use Rattle.std.proofs.Math.Option.{Option, some, none}
use Rattle.ere_meaning.specs.Tree.{Class, Ere}
use Rattle.ere_grammar.specs.Read.{read_ere}

-- "FS one space: spaces and tabs only": the blanks, by the edition
unfoldable pub blanks : ℕ → List ℕ
blanks edition = 32 ∷ 9 ∷ []

pub data Separator : Type 0 where
  blank : List ℕ → Separator
  byte : ℕ → Separator
  ere : Ere Class → Separator

abbrev pub by_ere : Option (Ere Class) → Option Separator
by_ere none = none
by_ere (some e) = some (ere e)

-- "FS one space: spaces and tabs only"; "Any other single byte: itself"
abbrev pub single : ℕ → ℕ → Separator
single edition b = cond (eqb b 32) (blank (blanks edition)) (byte b)

-- "Longer: an ERE". No byte at all is no separator.
unfoldable pub separator_of : ℕ → List ℕ → Option Separator
separator_of edition [] = none
separator_of edition (b ∷ []) = some (single edition b)
separator_of edition (b ∷ c ∷ t) = by_ere (read_ere edition (b ∷ c ∷ t))
