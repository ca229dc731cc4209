-- Document 01, "Outcomes": the table, a name for each row.
use Rattle.std.specs.Prelude.{ℕ, List, [], ◌∷◌}

-- "done"
abbrev pub done : ℕ
done = 0

-- "filter text too long"
abbrev pub filter_text_too_long : ℕ
filter_text_too_long = 1

-- "NUL byte in it"
abbrev pub nul_byte : ℕ
nul_byte = 2

-- "bad token"
abbrev pub bad_token : ℕ
bad_token = 3

-- "misplaced token"
abbrev pub misplaced_token : ℕ
misplaced_token = 4

-- "bad ERE or its sizes"
abbrev pub bad_ere : ℕ
bad_ere = 5

-- "other size passed"
abbrev pub size_passed : ℕ
size_passed = 6

-- "image or content room too small"
abbrev pub room_too_small : ℕ
room_too_small = 7

-- "image bytes malformed"
abbrev pub image_malformed : ℕ
image_malformed = 8

-- "image fails the check"
abbrev pub image_fails_check : ℕ
image_fails_check = 9

-- "budget spent"
abbrev pub budget_spent : ℕ
budget_spent = 10

-- "number out of range"
abbrev pub number_out_of_range : ℕ
number_out_of_range = 11

-- "number not whole"
abbrev pub number_not_whole : ℕ
number_not_whole = 12

-- "divisor zero"
abbrev pub divisor_zero : ℕ
divisor_zero = 13

-- "text value too long"
abbrev pub text_too_long : ℕ
text_too_long = 14

-- "record too long"
abbrev pub record_too_long : ℕ
record_too_long = 15

-- "field number not 0 to 128, or over 128 fields"
abbrev pub bad_field_number : ℕ
bad_field_number = 16

-- "output room too small"
abbrev pub output_room_too_small : ℕ
output_room_too_small = 17

-- "FS empty or a bad ERE"
abbrev pub bad_separator : ℕ
bad_separator = 18

-- "working room too small"
abbrev pub working_room_too_small : ℕ
working_room_too_small = 19

-- all of them, in the table's order
abbrev pub outcomes : List ℕ
outcomes =
    done
    ∷ filter_text_too_long
    ∷ nul_byte
    ∷ bad_token
    ∷ misplaced_token
    ∷ bad_ere
    ∷ size_passed
    ∷ room_too_small
    ∷ image_malformed
    ∷ image_fails_check
    ∷ budget_spent
    ∷ number_out_of_range
    ∷ number_not_whole
    ∷ divisor_zero
    ∷ text_too_long
    ∷ record_too_long
    ∷ bad_field_number
    ∷ output_room_too_small
    ∷ bad_separator
    ∷ working_room_too_small
    ∷ []
