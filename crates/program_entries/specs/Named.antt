-- Internal: cited by private contracts only. What an operand of a word names, as an entry of a table means it.
use Rattle.std.specs.Prelude.{◌≡◌, Bool, true, false, cond, ◌&&◌, ◌||◌, List, [], ◌∷◌, ℕ, ◌+◌, ◌≤◌, ◌<◌, length, drop, eqb}
use Rattle.edition.specs.Limits.{number_bound}
use Rattle.image_format.specs.Image.{Constant, number, text}
use Rattle.program_tokens.specs.Kinds.{Kind, variable, fixed_variable}
use Rattle.program_tokens.specs.Words.{same_bytes}
use Rattle.program_tokens.specs.Tokens.{Token, is_one_of, spelling, read_string, value_of}
use Rattle.program_numbering.specs.Names.{has, number_of}
use Rattle.program_numbering.specs.Numbering.{special_names}
use Rattle.program_parser.specs.Meaning.{constant_at, name_at, ere_at}
use Rattle.program_tables.specs.declared.tables.Entry.{Entry}
use Rattle.program_tables.specs.Texts.{between}
use Rattle.program_tables.specs.Tables.{meant, InsideText}

-- the tables: 0 constants, 1 variables, 2 EREs; which codes name an entry of each
unfoldable pub is_named : ℕ → ℕ → Bool
is_named what op =
    cond (eqb op 1) (eqb what 0) (cond (eqb op 2 || eqb op 3) (eqb what 1) ((eqb op 22 || eqb op 23) && eqb what 2))

-- operands of words are below this: 20 bits
abbrev pub operand_bound : ℕ
operand_bound = 1048576

-- a variable as an entry means it: a special one by its number, a user's by its name
unfoldable pub variable_of : List ℕ → Constant
variable_of v = cond (has same_bytes special_names v) (number (number_of same_bytes special_names v)) (text v)

-- what an operand names
unfoldable pub named : ℕ → List ℕ → ℕ → ℕ → Constant
named edition s what x =
    cond (eqb what 0) (constant_at edition s x)
    (cond (eqb what 1) (variable_of (name_at edition s x)) (text (ere_at edition s x)))

-- the value of a STRING, from the place after its first quote on; empty where no STRING is closed
unfoldable pub string_from : List ℕ → ℕ → List ℕ
string_from s at = value_of (read_string false (drop at s))

-- an entry for a thing: it means it, its text is inside the filter's text, and its number can be written in an image
pub record Stands (s : List ℕ) (escapes : Bool) (c : Constant) (e : Entry) : Type 0 where
  pub means : meant s escapes e ≡ c
  pub inside : InsideText s e
  pub bounded : e.value ≤ number_bound

-- ---- names

-- the kinds of special variables
abbrev pub special_kinds : List Kind
special_kinds = variable ∷ fixed_variable ∷ []

-- a token of the text, not empty at its start, whose kind says rightly whether it spells a special variable
pub record WordToken (s : List ℕ) (t : Token) : Type 0 where
  pub some : 0 < t.stop
  pub ordered : t.start ≤ t.stop
  pub within : t.stop ≤ length s
  pub special : is_one_of special_kinds t ≡ has same_bytes special_names (spelling s t)

-- n bytes from place a on are the name of a special variable, and which
pub record IsSpecial (s : List ℕ) (a n : ℕ) : Type 0 where
  pub inside : a + n ≤ length s
  pub special : has same_bytes special_names (between s a (a + n)) ≡ true

abbrev pub special_number : List ℕ → ℕ → ℕ → ℕ
special_number s a n = number_of same_bytes special_names (between s a (a + n))
