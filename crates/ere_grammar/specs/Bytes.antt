-- Document 01, "EREs" and "Tokens and grammar": kinds of bytes in an ERE.
use Rattle.std.specs.Prelude.{Bool, not, cond, ◌||◌, List, [], ◌∷◌, ℕ, eqb}
use Rattle.std.proofs.Math.Option.{Option, some, none}
use Rattle.lists.specs.Elements.{one_of}

-- an escape: the byte after the backslash, and the byte that the two spell
pub record Escape : Type 0 where
  pub letter : ℕ
  pub byte : ℕ

abbrev pub escape : ℕ → ℕ → Escape
escape l b = record { letter = l; byte = b }

-- "String escapes: `\" \\ \/ \a \b \t \n \v \f \r`"
abbrev pub string_escapes : List Escape
string_escapes =
    escape 34 34 ∷ escape 92 92 ∷ escape 47 47 ∷ escape 97 7 ∷ escape 98 8 ∷ escape 116 9 ∷ escape 110 10
    ∷ escape 118 11 ∷ escape 102 12 ∷ escape 114 13 ∷ []

-- "one of `^ $ . [ ] | ( ) * + ? { }`"
abbrev pub marks : List ℕ
marks = 94 ∷ 36 ∷ 46 ∷ 91 ∷ 93 ∷ 124 ∷ 40 ∷ 41 ∷ 42 ∷ 43 ∷ 63 ∷ 123 ∷ 125 ∷ []

unfoldable pub lookup : List Escape → ℕ → Option ℕ
lookup [] b = none
lookup (e ∷ l) b = cond (eqb b e.letter) (some e.byte) (lookup l b)

-- the byte that a backslash and the byte b spell, if any: "a backslash before anything but a string escape's byte or
-- one of" the marks is refused
unfoldable pub escape_of : ℕ → Option ℕ
escape_of b = cond (one_of marks b) (some b) (lookup string_escapes b)

-- a byte that is itself outside brackets: any but a backslash and the marks, of which only `]` is
unfoldable pub is_plain : ℕ → Bool
is_plain b = eqb b 93 || not (one_of (92 ∷ marks) b)
