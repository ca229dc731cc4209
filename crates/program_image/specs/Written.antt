-- Internal: cited by private contracts only. The bytes of an image's parts, from tables of entries and from words by
-- number.
use Rattle.std.specs.Prelude.{◌≡◌, Bool, cond, ◌||◌, List, [], ◌∷◌, ◌++◌, map, ℕ, ◌+◌, ◌≤◌, ◌<◌, length, take, eqb}
use Rattle.edition.specs.Limits.{number_bound}
use Rattle.image_format.specs.Image.{Constant, number, text, Instruction}
use Rattle.image_format.specs.Numbers.{coded}
use Rattle.image_format.specs.Writing.{all, bytes, constant_in, instruction_in}
use Rattle.varint.specs.Room.{with_all}
use Rattle.program_words.specs.Words.{op_in, depth_in, first_in}
use Rattle.program_tables.specs.declared.tables.Entry.{Entry}
use Rattle.program_tables.specs.Tables.{entry_in, entries_from}

-- bytes are written to a room from index k on, as far as it goes: the index after them, and the room then
pub record Writes (room : List ℕ) (k : ℕ) (l : List ℕ) (r : ℕ) (room' : List ℕ) : Type 0 where
  pub after : r ≡ k + length l
  pub written : room' ≡ with_all room k l

-- ---- entries

-- an entry's number can be written
abbrev pub SmallNumber : Entry → Type 0
SmallNumber e = e.stop ≡ 0 → e.value ≤ number_bound

abbrev pub AllSmall : List ℕ → ℕ → Type 0
AllSmall table n = (k : ℕ) → k < n → SmallNumber (entry_in table k)

-- the text of an entry
unfoldable pub text_of : Constant → List ℕ
text_of (number n) = []
text_of (text l) = l

-- "constants, each kind 0 with a number or kind 1 with length and bytes; EREs, each length and bytes"
unfoldable pub entry_bytes : Bool → Constant → List ℕ
entry_bytes constants c = cond constants (constant_in coded c) (bytes coded (text_of c))

abbrev pub entries_bytes : List ℕ → Bool → List ℕ → ℕ → List ℕ
entries_bytes s constants table n = coded n ++ all (entry_bytes constants) (entries_from s constants table 0 n)

-- ---- instructions

-- codes that name a number: "constant", "get", "set", "matches", "match", "jump", "jump if false", "print"
unfoldable pub has_operand : ℕ → Bool
has_operand op =
    (eqb op 1 || (eqb op 2 || eqb op 3)) || ((eqb op 22 || eqb op 23) || (eqb op 27 || (eqb op 28 || eqb op 29)))

-- the instruction that a word by number is
unfoldable pub instruction_of : ℕ → Instruction
instruction_of w =
    record { code = op_in w; depth = depth_in w; immediates = cond (has_operand (op_in w)) (first_in w ∷ []) [] }

-- the first n of a section's
abbrev pub instructions_of : List ℕ → ℕ → List Instruction
instructions_of section n = map instruction_of (take n section)

abbrev pub section_bytes : List ℕ → ℕ → List ℕ
section_bytes section n = coded n ++ all (instruction_in coded) (instructions_of section n)
