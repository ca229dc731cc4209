-- Internal: cited by private contracts only. The table of an ERE, as words: rows of three, then classes of four, then
-- the bytes that a match can begin with, and whether one can be empty.
use Rattle.std.specs.Prelude.{Bool, List, [], ◌∷◌, ℕ, ◌+◌, ◌*◌, ◌/◌, ◌%◌, get_or}
use Rattle.std.specs.Int.Bits.{bit_or}
use Rattle.lists.specs.Digit.{bit}
use Rattle.edition.specs.Limits.{ere_places}

abbrev pub place_count : ℕ
place_count = ere_places

abbrev pub row_words : ℕ
row_words = 3 * (place_count + 2)

abbrev pub class_words : ℕ
class_words = 4 * place_count

abbrev pub table_words : ℕ
table_words = row_words + class_words + 5

-- bits of a set, in three words: one for each place, then the accept bits, that a walk may stop before the text's end
-- and at it
abbrev pub set_bits : ℕ
set_bits = 3 * 64

-- q is in the set s: a place, or an accept bit, place_count before the text's end and place_count + 1 at it
abbrev pub mem : List ℕ → ℕ → Bool
mem s q = bit (get_or s (q / 64) 0) (q % 64)

-- row r of the table: 0 where a match starts at the text's start, 1 where elsewhere, p + 2 after the place p
abbrev pub row : List ℕ → ℕ → List ℕ
row t r = get_or t (3 * r) 0 ∷ get_or t (3 * r + 1) 0 ∷ get_or t (3 * r + 2) 0 ∷ []

-- the set a with the set b
abbrev pub join : List ℕ → List ℕ → List ℕ
join a b = bit_or (get_or a 0 0) (get_or b 0 0) ∷ bit_or (get_or a 1 0) (get_or b 1 0) ∷ bit_or (get_or a 2 0) (get_or b 2 0) ∷ []

-- no place
abbrev pub no_place : List ℕ
no_place = 0 ∷ 0 ∷ 0 ∷ []

-- the place p takes the byte b
abbrev pub accepts_at : List ℕ → ℕ → ℕ → Bool
accepts_at t p b = bit (get_or t (row_words + 4 * p + b / 64) 0) (b % 64)

-- a match of at least a byte can begin with the byte b, by the table
abbrev pub begins : List ℕ → ℕ → Bool
begins t b = bit (get_or t (row_words + class_words + b / 64) 0) (b % 64)

-- 0 if no match is empty, by the table
abbrev pub empty_word : List ℕ → ℕ
empty_word t = get_or t (row_words + class_words + 4) 0
