-- Internal: cited by private contracts only. Words of a section whose operands are places of the text, and the same
-- words once the operands that name an entry of a table are its numbers.
use Rattle.std.specs.Prelude.{◌≡◌, Bool, true, cond, List, [], ◌∷◌, ◌++◌, map, ℕ, ◌*◌, ◌≤◌, ◌<◌, length, get_or, take, drop, set, eqb}
use Rattle.edition.specs.Limits.{number_bound}
use Rattle.image_format.specs.Image.{Constant}
use Rattle.program_numbering.specs.Names.{with_new, number_of}
use Rattle.program_numbering.specs.Numbering.{same_constant}
use Rattle.program_words.specs.Words.{op_in, depth_in, first_in, word}
use Rattle.program_tables.specs.Tables.{entry_in}
use Rattle.program_entries.specs.Named.{is_named, named}
use Rattle.program_entries.specs.Variables.{Held}

-- the numbers of n entries can be written in an image
abbrev pub AllBounded : List ℕ → ℕ → Type 0
AllBounded table n = (k : ℕ) → k < n → (entry_in table k).value ≤ number_bound

-- a table of n holds a list, and its constants can be written
pub record Holds (s : List ℕ) (escapes : Bool) (table : List ℕ) (n : ℕ) (l : List Constant) : Type 0 where
  pub held : Held s escapes table n l
  pub bounded : escapes ≡ true → 2 * n ≤ length table → AllBounded table n

-- a table of n holds some list
abbrev pub HoldsSome : List ℕ → Bool → List ℕ → ℕ → Type 0
HoldsSome s escapes table n = (l : List Constant) × Holds s escapes table n l

-- an instruction's word with another operand
abbrev pub with_operand : ℕ → ℕ → ℕ
with_operand w k = word (op_in w) (depth_in w) k

module _ (edition : ℕ) (s : List ℕ) (what : ℕ) where
  -- what a word's operand names, by its place
  abbrev pub thing_at : ℕ → Constant
  thing_at w = named edition s what (first_in w)

  -- all that words name of one table, in order
  unfoldable pub things : List ℕ → List Constant
  things [] = []
  things (w ∷ ws) = cond (is_named what (op_in w)) (thing_at w ∷ things ws) (things ws)

  -- a word by the numbers of a list
  unfoldable pub numbered : List Constant → ℕ → ℕ
  numbered l w = cond (is_named what (op_in w)) (with_operand w (number_of same_constant l (thing_at w))) w

  -- words by number, each thing entered into the list when it is first met
  unfoldable pub numbered_from : List Constant → List ℕ → List ℕ
  numbered_from l [] = []
  numbered_from l (w ∷ ws) = numbered l w ∷ numbered_from (with_new same_constant l (things (w ∷ []))) ws

  -- words ws are numbered to vs: what a table of n held, as a list l, a table of r holds with what they name
  pub record Numbers (table : List ℕ) (n : ℕ) (ws : List ℕ) (table' : List ℕ) (r : ℕ) (vs : List ℕ)
      (l : List Constant) : Type 0 where
    pub holds : Holds s (eqb what 0) table' r (with_new same_constant l (things ws))
    pub words : 2 * r ≤ length table → vs ≡ numbered_from l ws

  abbrev pub AllNumbers : List ℕ → ℕ → List ℕ → List ℕ → ℕ → List ℕ → Type 0
  AllNumbers table n ws table' r vs =
      (l : List Constant) → Holds s (eqb what 0) table n l → Numbers table n ws table' r vs l

  -- instruction i of a section is numbered
  pub record WordNumbered (section : List ℕ) (i : ℕ) (table : List ℕ) (n : ℕ) (section' table' : List ℕ)
      (r : ℕ) : Type 0 where
    pub one : ℕ
    pub stored : section' ≡ set section i one
    pub grows : n ≤ r
    pub numbers : AllNumbers table n (get_or section i 0 ∷ []) table' r (one ∷ [])

  -- the first `count` instructions of a section are numbered
  pub record SectionNumbered (section : List ℕ) (count : ℕ) (table : List ℕ) (n : ℕ) (section' table' : List ℕ)
      (r : ℕ) : Type 0 where
    pub words : List ℕ
    pub stored : section' ≡ words ++ drop count section
    pub size : length words ≡ count
    pub grows : n ≤ r
    pub numbers : AllNumbers table n (take count section) table' r words

  -- the list that a table holds once three sections are numbered
  abbrev pub list_after : List Constant → List ℕ → List ℕ → List ℕ → List Constant
  list_after l begin main end = with_new same_constant l (things begin ++ (things main ++ things end))

  -- the words of all sections are numbered, by the list that the table holds then
  pub record ProgramNumbered (l : List Constant) (begin main end begin' main' end' : List ℕ) (table table' : List ℕ)
      (r : ℕ) : Type 0 where
    pub holds : Holds s (eqb what 0) table' r (list_after l begin main end)
    pub begin-words : 2 * r ≤ length table → begin' ≡ map (numbered (list_after l begin main end)) begin
    pub main_words : 2 * r ≤ length table → main' ≡ map (numbered (list_after l begin main end)) main
    pub end_words : 2 * r ≤ length table → end' ≡ map (numbered (list_after l begin main end)) end

  -- and so by any list that the table of n held
  abbrev pub ProgramNumbers : List ℕ → List ℕ → List ℕ → List ℕ → List ℕ → List ℕ → List ℕ → ℕ → List ℕ → ℕ → Type 0
  ProgramNumbers begin main end begin' main' end' table n table' r =
      (l : List Constant) → Holds s (eqb what 0) table n l
      → ProgramNumbered l begin main end begin' main' end' table table' r
