-- Internal: cited by private contracts only. The words of an automaton: a head, the class of each byte, and a row for
-- each state. A state is the index of its row. A row: the state after a byte of each class; whether a match ends where
-- the text ends; and with pairs, the state after two bytes, by their classes.
use Rattle.std.specs.Prelude.{◌≡◌, ℕ, ◌+◌, ◌-◌, ◌*◌, ◌/◌, ◌%◌, ◌<◌, ◌≤◌, Bool, cond, List, length, ◌==◌, nat_le, slice_index}

-- how many classes there are
abbrev pub class_count : List ℕ → ℕ
class_count d = slice_index d 0

-- the states at the text's start, and elsewhere where nothing is pending; and one in which a match has ended
abbrev pub first_state : List ℕ → ℕ
first_state d = slice_index d 1

abbrev pub later_state : List ℕ → ℕ
later_state d = slice_index d 2

abbrev pub accepted_state : List ℕ → ℕ
accepted_state d = slice_index d 3

-- 0 if rows have no pairs
abbrev pub pairs_word : List ℕ → ℕ
pairs_word d = slice_index d 4

-- 0 if ranges are of no use; else there are those of a match's first two bytes: lowest byte, how many more; 2 if a match
-- can start only where the text starts
abbrev pub skips_word : List ℕ → ℕ
skips_word d = slice_index d 5

-- 0, or one more than the bytes of the longest match, where each match ends at the text's end
abbrev pub reach_word : List ℕ → ℕ
reach_word d = slice_index d 14

-- what is known of the matches' bytes: 0 for nothing; else a kind, by 256, how many tests a word has, by 16, and how far
-- the word's last byte is from its first
abbrev pub shape_word : List ℕ → ℕ
shape_word d = slice_index d 15

-- 1 for an ERE that is a word; 2 for one that is a word at the text's start
abbrev pub shape_kind : List ℕ → ℕ
shape_kind d = shape_word d / 256

abbrev pub test_count : List ℕ → ℕ
test_count d = shape_word d / 16 % 16

abbrev pub last_place : List ℕ → ℕ
last_place d = shape_word d % 16

-- the tests of a word, and the range of its last byte
abbrev pub tests_at : ℕ
tests_at = 16

abbrev pub range_at : ℕ
range_at = 23

-- test k: a byte, and how far it is from the word's first
abbrev pub test_byte : List ℕ → ℕ → ℕ
test_byte d k = slice_index d (tests_at + k) % 256

abbrev pub test_place : List ℕ → ℕ → ℕ
test_place d k = slice_index d (tests_at + k) / 256

-- no test is past the byte that is `last` after the first
abbrev pub Placed : List ℕ → ℕ → Type 0
Placed d last = (k : ℕ) → k < 7 → test_place d k ≤ last

-- the tests of a word are in the word
abbrev pub Testable : List ℕ → Type 0
Testable d = 0 < shape_kind d → shape_kind d < 3 → Placed d (last_place d)

-- a byte is among those from `low` on, `width` more than one; after 255 comes 0
abbrev pub in_range : ℕ → ℕ → ℕ → Bool
in_range low width b = nat_le ((b + 256 - low) % 256) width

abbrev pub classes_at : ℕ
classes_at = 24

abbrev pub rows_at : ℕ
rows_at = classes_at + 256

-- the class of a byte
abbrev pub class_in : List ℕ → ℕ → ℕ
class_in d b = slice_index d (classes_at + b)

-- the words of a row
abbrev pub stride_by : ℕ → ℕ → ℕ
stride_by k pairs = k + 1 + cond (pairs == 0) 0 (k * k)

abbrev pub stride_of : List ℕ → ℕ
stride_of d = stride_by (class_count d) (pairs_word d)

-- how many states there are
abbrev pub state_count : List ℕ → ℕ
state_count d = (length d - rows_at) / stride_of d

-- q is a state
pub record State (d : List ℕ) (q : ℕ) : Type 0 where
  pub number : ℕ
  pub low : number < state_count d
  pub is : q ≡ rows_at + stride_of d * number

-- the state after a byte; after two; whether a match ends at the text's end
abbrev pub next_in : List ℕ → ℕ → ℕ → ℕ
next_in d q b = slice_index d (q + class_in d b)

abbrev pub pair_in : List ℕ → ℕ → ℕ → ℕ → ℕ
pair_in d q b c = slice_index d (q + (class_count d + 1 + (class_in d b * class_count d + class_in d c)))

abbrev pub end_word : List ℕ → ℕ → ℕ
end_word d q = slice_index d (q + class_count d)
