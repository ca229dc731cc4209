-- Internal: cited by private contracts only. What a match leaves in the working room.
use Rattle.std.specs.Prelude.{◌≡◌, Bool, List, ℕ, suc, ◌+◌, ◌<◌, length, pos, negsuc, Option}
use Rattle.edition.specs.Limits.{operand_depth}
use Rattle.ere_meaning.specs.Tree.{Class, Ere}
use Rattle.ere_meaning.specs.Meaning.{Match, found, nowhere}
use Rattle.ere_exists.specs.Any.{Exists}
use Rattle.ere_search.specs.Find.{Inside, Finds}
use Rattle.ere_automaton.specs.Automaton.{Drives}
use Rattle.ere_automaton.specs.Follows.{Seeks}
use Rattle.ere.specs.Answer.{Serves}
use Rattle.values.specs.Value.{Value, number}
use Rattle.semantics.specs.Variables.{RSTART, RLENGTH}
use Rattle.number.specs.Range.{unbias}
use Rattle.splitting.specs.Separator.{Separator}
use Rattle.run_room.specs.Room.{Store, store_of, with_slot}
use Rattle.run_room.specs.Held.{Did}
use Rattle.run_room.specs.declared.lines.Line.{Line}

-- ---- a search by automata, or where these are empty by a table

-- what they are those of: `By` says what automata of a table are
abbrev pub SearchesBy : (List ℕ → List ℕ → Type 0) → List ℕ → List ℕ → Ere Class → Type 0
SearchesBy By d t e = (0 < length d → (u : List ℕ) × (By u d) × (Serves u e)) × (length d ≡ 0 → Serves t e)

-- what is so for the table, and for each table that the automata are those of
abbrev pub TellsBy : (List ℕ → List ℕ → Type 0) → (List ℕ → Type 0) → List ℕ → List ℕ → Type 0
TellsBy By Says d t = (0 < length d → (u : List ℕ) → By u d → Says u) × (length d ≡ 0 → Says t)

-- whether there is a match
abbrev pub Searches : List ℕ → List ℕ → Ere Class → Type 0
Searches = SearchesBy Drives

abbrev pub Told : List ℕ → List ℕ → List ℕ → Bool → Type 0
Told d t text r = TellsBy Drives (λ (u : List ℕ). Exists u text r) d t

-- where the leftmost longest match is
abbrev pub Locates : List ℕ → List ℕ → Ere Class → Type 0
Locates = SearchesBy Seeks

pub record FoundBy (d t text : List ℕ) (r : Option (ℕ × ℕ)) : Type 0 where
  pub inside : Inside 0 0 (length text) r
  pub finds : TellsBy Seeks (λ (u : List ℕ). Finds u text 0 0 r) d t

-- ---- RSTART and RLENGTH

abbrev pub rstart_slot : ℕ
rstart_slot = operand_depth + RSTART

abbrev pub rlength_slot : ℕ
rlength_slot = operand_depth + RLENGTH

-- what RSTART and RLENGTH are after a match
abbrev pub rstart_of : Match → Value
rstart_of (found s n) = number (pos (suc s))
rstart_of nowhere = number (pos 0)

abbrev pub rlength_of : Match → Value
rlength_of (found s n) = number (pos n)
rlength_of nowhere = number (negsuc 0)

-- the two variables, and the answer in slot a
abbrev pub with_mark : Store → ℕ → Value → Value → Store
with_mark st a start size = with_slot (with_slot (with_slot st rstart_slot start) rlength_slot size) a start

abbrev pub marked_in : Store → ℕ → Match → Store
marked_in st a m = with_mark st a (rstart_of m) (rlength_of m)

-- the same, of the numbers at two distances
abbrev pub Marks : List ℕ → List ℕ → ℕ → ℕ → ℕ → Type 0
Marks x y a start size =
    (l : Line) → Did x l y l (length y ≡ length x)
    ((s : Separator) → store_of y l s ≡ with_mark (store_of x l s) a (number (unbias start)) (number (unbias size)))
