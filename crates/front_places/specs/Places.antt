-- Internal: cited by private contracts only. Places of a text: the line and the column of a byte, both from 1.
use Rattle.std.specs.Prelude.{ℕ, ◌+◌, ◌-◌, cond, List, [], ◌∷◌, take, drop, eqb, ◌==◌, count_by}
use Rattle.buffer.specs.First.{first_byte}
use Rattle.buffer.specs.Parts.{part}

abbrev pub NEWLINE : ℕ
NEWLINE = 10

-- how many newlines a text has
abbrev pub newlines : List ℕ → ℕ
newlines = count_by (λ b. b == NEWLINE)

-- how many bytes come after the last newline; where there is none, n more than the text has
unfoldable pub since_newline : ℕ → List ℕ → ℕ
since_newline n [] = n
since_newline n (b ∷ t) = since_newline (cond (eqb b NEWLINE) 0 (n + 1)) t

-- the line of a place: one more than the newlines before it
unfoldable pub line_at : List ℕ → ℕ → ℕ
line_at text place = 1 + newlines (take place text)

-- its column: one more than the bytes since the last newline before it
unfoldable pub column_at : List ℕ → ℕ → ℕ
column_at text place = 1 + since_newline 0 (take place text)

-- the bytes of its line before it
unfoldable pub line_before : List ℕ → ℕ → List ℕ
line_before text place =
    let n = since_newline 0 (take place text) in
    part (place - n) n text

-- the bytes of its line from it on, without the newline
unfoldable pub line_behind : List ℕ → ℕ → List ℕ
line_behind text place = part place (first_byte NEWLINE (drop place text)) text
