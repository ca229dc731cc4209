-- Internal: cited by private contracts only. The variables of a text by first appearance, and the table that holds
-- them.
use Rattle.std.specs.Prelude.{◌≡◌, Bool, true, false, cond, List, [], ◌∷◌, map, ℕ, zero, suc, ◌*◌, ◌≤◌, ◌<◌, length}
use Rattle.image_format.specs.Image.{Constant, number, text}
use Rattle.program_tokens.specs.Kinds.{text_end, user_name}
use Rattle.program_tokens.specs.Tokens.{Token, is, spelling}
use Rattle.program_numbering.specs.Names.{with_new}
use Rattle.program_numbering.specs.Numbering.{same_constant}
use Rattle.program_parser.specs.Meaning.{token_from}
use Rattle.program_names.specs.Walk.{names_in_text}
use Rattle.program_tables.specs.Tables.{AllInside, entries_from, with_entry}

-- "Variables 0 to 6"
abbrev pub special_count : ℕ
special_count = 7

-- the special variables, as entries mean them
abbrev pub specials : List Constant
specials = number 0 ∷ number 1 ∷ number 2 ∷ number 3 ∷ number 4 ∷ number 5 ∷ number 6 ∷ []

-- a table whose first n entries are the numbers from 0 on
unfoldable pub numbers_in : ℕ → List ℕ → List ℕ
numbers_in zero table = table
numbers_in (suc n) table = with_entry (numbers_in n table) n (record { value = n; stop = 0 })

-- a table whose first entries are the special variables
abbrev pub specials_in : List ℕ → List ℕ
specials_in table = numbers_in special_count table

-- a table of n holds a list, if it has room for it; else the list is too long
pub record Held (s : List ℕ) (escapes : Bool) (table : List ℕ) (n : ℕ) (l : List Constant) : Type 0 where
  pub few : 2 * n ≤ length table → (entries_from s escapes table 0 n ≡ l) × AllInside s table n
  pub many : length table < 2 * n → length table < 2 * length l

-- a list, and the name of a token if it is a user's and new
unfoldable pub with_name : List ℕ → Token → List Constant → List Constant
with_name s t l = cond (is user_name t) (with_new same_constant l (text (spelling s t) ∷ [])) l

-- what a table of n held, a table of r holds with the name of a token
abbrev pub Enters : List ℕ → Token → List ℕ → ℕ → List ℕ → ℕ → Type 0
Enters s t before n after r = (l : List Constant) → Held s false before n l → Held s false after r (with_name s t l)

-- the variables of a text, by first appearance
unfoldable pub variables_of : ℕ → List ℕ → List Constant
variables_of edition s = with_new same_constant specials (map text (names_in_text edition s))

-- a token that the walk comes to
pub record Walked (edition : ℕ) (s : List ℕ) (t : Token) : Type 0 where
  pub ordered : t.start ≤ t.stop
  pub within : t.stop ≤ length s
  pub longer : is text_end t ≡ false → t.start < t.stop
  pub own : is user_name t ≡ true → t ≡ token_from edition s t.start
