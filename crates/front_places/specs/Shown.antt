-- Internal: cited by private contracts only. A line as it is shown to a person: bytes that print, and tabs, as they
-- are, any other as a backslash and three octal digits; of a long line the part around a place.
use Rattle.std.specs.Prelude.{ℕ, suc, ◌+◌, ◌-◌, ◌/◌, ◌%◌, Bool, cond, ◌||◌, ◌&&◌, List, [], ◌∷◌, ◌++◌, take, drop, eqb, leb}
use Rattle.front_places.specs.Places.{line_before, line_behind}

abbrev pub TAB : ℕ
TAB = 9

-- a tab, or one of the 95 bytes that print
unfoldable pub prints : ℕ → Bool
prints b = eqb b TAB || (leb 32 b && leb b 126)

unfoldable pub shown_byte : ℕ → List ℕ
shown_byte b = cond (prints b) (b ∷ []) (92 ∷ (48 + b / 64) ∷ (48 + b / 8 % 8) ∷ (48 + b % 8) ∷ [])

-- what is under a byte before the caret: a tab under a tab, spaces under all else
unfoldable pub blank_byte : ℕ → List ℕ
blank_byte b = cond (eqb b TAB) (b ∷ []) (cond (prints b) (32 ∷ []) (32 ∷ 32 ∷ 32 ∷ 32 ∷ []))

-- the bytes of a list, each spelled in its way
unfoldable pub spelled : (ℕ → List ℕ) → List ℕ → List ℕ
spelled spell [] = []
spelled spell (b ∷ l) = spell b ++ spelled spell l

abbrev pub shown : List ℕ → List ℕ
shown = spelled shown_byte

abbrev pub blanks : List ℕ → List ℕ
blanks = spelled blank_byte

-- how many columns a byte takes, and a line; a tab counts as one
unfoldable pub width_of : ℕ → ℕ
width_of b = cond (prints b) 1 4

unfoldable pub columns_of : List ℕ → ℕ
columns_of [] = 0
columns_of (b ∷ l) = width_of b + columns_of l

-- how many bytes are left out at the front of a list so that the others take at most n columns
unfoldable pub left_out : ℕ → List ℕ → ℕ
left_out n [] = 0
left_out n (b ∷ l) = cond (leb (columns_of (b ∷ l)) n) 0 (suc (left_out n l))

-- how many bytes at the front of a list fit n columns
unfoldable pub fitting : ℕ → List ℕ → ℕ
fitting n [] = 0
fitting n (b ∷ l) = cond (leb (width_of b) n) (suc (fitting (n - width_of b) l)) 0

-- the columns that a line is shown in, and of these before the caret where the line is cut
abbrev pub COLUMNS : ℕ
COLUMNS = 77

abbrev pub BEFORE_CARET : ℕ
BEFORE_CARET = 38

-- how many bytes are left out at a line's front: none, if the line fits; else so many that what is before the caret
-- fits half of it
unfoldable pub omitted : List ℕ → List ℕ → ℕ
omitted before behind =
    let cut = left_out BEFORE_CARET before in
    cond (leb (columns_of before + columns_of behind) COLUMNS) 0 cut

-- the bytes that are shown before a place
unfoldable pub shown_before : List ℕ → ℕ → List ℕ
shown_before text place = drop (omitted (line_before text place) (line_behind text place)) (line_before text place)

-- and from the place on: as many as fit
unfoldable pub shown_behind : List ℕ → ℕ → List ℕ
shown_behind text place =
    take (fitting (COLUMNS - columns_of (shown_before text place)) (line_behind text place)) (line_behind text place)
