-- Internal: cited by private contracts only. What the program says.
use Rattle.std.specs.Prelude.{List, [], ◌∷◌, ◌++◌, ℕ}
use Prim.Native.Char.{code}
use Prim.Native.String.{String, [] as end-of-text, ◌∷◌ as ◌before◌}
use Rattle.decimals.specs.Decimal.{decimal_digits}
use Rattle.front_words.specs.Words.{word_in}
use Rattle.front_places.specs.Places.{line_at, column_at}
use Rattle.front_places.specs.Shown.{shown, blanks, shown_before, shown_behind}

-- the bytes of a text
abbrev pub says : String → List ℕ
says end-of-text = []
says (c before t) = code c ∷ says t

-- Document 01, "Outcomes": the meaning of each, from 0 on
abbrev pub meanings : List (List ℕ)
meanings =
    says "done" ∷ says "filter text too long" ∷ says "NUL byte in the filter text" ∷ says "bad token"
    ∷ says "misplaced token" ∷ says "bad ERE or its sizes" ∷ says "other size passed"
    ∷ says "image or content room too small" ∷ says "image bytes malformed" ∷ says "image fails the check"
    ∷ says "budget spent" ∷ says "number out of range" ∷ says "number not whole" ∷ says "divisor zero"
    ∷ says "text value too long" ∷ says "record too long" ∷ says "field number not 0 to 128, or over 128 fields"
    ∷ says "output room too small" ∷ says "FS empty or a bad ERE" ∷ says "working room too small" ∷ []

-- `misplaced token (outcome 4)`
unfoldable pub outcome_text : ℕ → List ℕ
outcome_text outcome = word_in meanings outcome ++ (says " (outcome " ++ (decimal_digits outcome ++ says ")"))

-- `flowawk: filter:1:23: `
unfoldable pub place_text : List ℕ → ℕ → ℕ → List ℕ
place_text name line column =
    says "flowawk: "
    ++ (name ++ (says ":" ++ (decimal_digits line ++ (says ":" ++ (decimal_digits column ++ says ": ")))))

-- the line of a place, indented, and under it the caret; the bytes before the caret have the columns of those above
-- them
unfoldable pub caret_of : List ℕ → ℕ → List ℕ
caret_of text place =
    says "  "
    ++ (shown (shown_before text place)
    ++ (shown (shown_behind text place) ++ (says "\n  " ++ (blanks (shown_before text place) ++ says "^\n"))))

-- `; 3 records begun, 23 steps, 17 bytes written`
unfoldable pub counts_text : ℕ → ℕ → ℕ → List ℕ
counts_text records steps bytes =
    says "; "
    ++ (decimal_digits records
    ++ (says " records begun, "
    ++ (decimal_digits steps ++ (says " steps, " ++ (decimal_digits bytes ++ says " bytes written\n")))))

-- ---- whole messages

-- why a filter is refused
unfoldable pub refusal_text : List ℕ → List ℕ → ℕ → ℕ → List ℕ
refusal_text name text place outcome =
    place_text name (line_at text place) (column_at text place)
    ++ (outcome_text outcome ++ (says "\n" ++ caret_of text place))

-- how a run ended
unfoldable pub summary_text : ℕ → ℕ → ℕ → ℕ → List ℕ
summary_text outcome records steps bytes =
    says "flowawk: " ++ (outcome_text outcome ++ counts_text records steps bytes)

-- why an image is refused
unfoldable pub image_text : List ℕ → ℕ → List ℕ
image_text name outcome = says "flowawk: " ++ (name ++ (says ": " ++ (outcome_text outcome ++ says "\n")))
