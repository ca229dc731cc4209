-- Internal: cited by private contracts only. A walk over the table: a step, the live set after some bytes, and the
-- longest match from a start. `rest` is the text from place `at` on.
use Rattle.std.specs.Prelude.{Bool, true, false, cond, ◌&&◌, not, List, ℕ, zero, suc, ◌+◌, ◌-◌, ◌*◌, length, get_or, eqb, leb}
use Rattle.lists.specs.Digit.{bit}
use Rattle.ere_table.specs.Wiring.{stop_in}
use Rattle.ere_table.specs.Table.{row, join, no_place, accepts_at, begins, empty_word}

-- out with the row after the place p, where p takes b
abbrev pub put : List ℕ → List ℕ → ℕ → ℕ → List ℕ
put t out b p = cond (accepts_at t p b) (join out (row t (p + 2))) out

-- out with the rows after those places that take b: of word w of a set, which is x, the places below digit n
unfoldable pub step_word : List ℕ → ℕ → ℕ → ℕ → List ℕ → ℕ → List ℕ
step_word t b x w out zero = out
step_word t b x w out (suc n) = cond (bit x n) (put t (step_word t b x w out n) b (64 * w + n)) (step_word t b x w out n)

-- what may come next after the places of live that take b
abbrev pub step : List ℕ → List ℕ → ℕ → List ℕ
step t live b = step_word t b (get_or live 1 0) 1 (step_word t b (get_or live 0 0) 0 no_place 64) 64

-- no place is in the set
abbrev pub dead : List ℕ → Bool
dead s = eqb (get_or s 0 0) 0 && eqb (get_or s 1 0) 0

-- the table's row for a match that starts at s
abbrev pub entry_row : ℕ → ℕ
entry_row s = cond (eqb s 0) 0 1

-- a match of n bytes as the number n + 1, and 0 where there is none: the answer for n bytes, or best where they are
-- none
abbrev pub note : ℕ → List ℕ → Bool → ℕ → ℕ → ℕ
note best live f least n = cond (leb least n) (cond (stop_in live f) (suc n) best) best

-- what may come next after n bytes from s
unfoldable pub live_at : List ℕ → List ℕ → ℕ → ℕ → ℕ → List ℕ
live_at t rest at s zero = row t (entry_row (at + s))
live_at t rest at s (suc n) = step t (live_at t rest at s n) (get_or rest (s + n) 0)

-- the longest match from s of at least `least` and fewer than n bytes, as such a number
unfoldable pub longest_to : List ℕ → List ℕ → ℕ → ℕ → ℕ → ℕ → ℕ
longest_to t rest at least s zero = 0
longest_to t rest at least s (suc n) =
    note (longest_to t rest at least s n) (live_at t rest at s n) (eqb (s + n) (length rest)) least n

-- the longest match from s
abbrev pub longest_of : List ℕ → List ℕ → ℕ → ℕ → ℕ → ℕ
longest_of t rest at least s = longest_to t rest at least s (suc (length rest - s))

-- a match of at least `least` bytes may be empty, by the table
abbrev pub open_to : List ℕ → ℕ → Bool
open_to t least = cond (eqb least 0) (not (eqb (empty_word t) 0)) false

-- a match may begin with the byte b: it may be empty, or the byte is one of those
abbrev pub may_begin : List ℕ → ℕ → Bool → Bool
may_begin t b empty = cond empty true (begins t b)
