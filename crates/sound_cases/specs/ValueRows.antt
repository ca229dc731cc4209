-- Document 01, "Values": a table of operations on values, to be read beside its sentences. The rows that follow a
-- sentence break where it is read in another way.
use Rattle.std.specs.Prelude.{◌≡◌, Bool, true, false, List, [], ◌∷◌, map, ℕ, pos}
use Prim.Native.String.{String}
use Rattle.image_format.specs.Codes.{Comparison, less, at-most, equal, different, greater, at-least}
use Rattle.image_format.specs.Codes.{add, subtract, multiply, divide, remainder}
use Rattle.values.specs.Value.{Value, unset, number, text, field_text, stop, Result, gives, stops, truth_of}
use Rattle.values.specs.Operations.{arithmetic_of, negate_of, to_number_of, not_of, compare_of, join_of, length_of, index_of}
use Rattle.values.specs.Operations.{substr_of, field_number}
use Rattle.sound_cases.specs.Text.{bytes, minus}

-- ---- values, and what operations give

abbrev pub num : ℕ → Value
num n = number (pos n)

abbrev pub neg : ℕ → Value
neg n = number (minus n)

abbrev pub plain : String → Value
plain s = text (bytes s)

abbrev pub field : String → Value
field s = field_text (bytes s)

-- 2^53, and texts of it and of one more
abbrev pub most : ℕ
most = 9007199254740992

abbrev pub most_text : String
most_text = "9007199254740992"

abbrev pub over_text : String
over_text = "9007199254740993"

-- ---- rows

infix 68 ◌is◌
infix 68 ◌ends◌
pub data Row : Type 0 where
  -- an operation, and the value that it gives
  ◌is◌ : Result Value → Value → Row
  -- an operation, and the outcome that it stops with
  ◌ends◌ : Result Value → ℕ → Row
  -- two sides, and what `<`, `<=`, `==`, `!=`, `>`, `>=` give for them
  compares : Value → Value → List ℕ → Row
  -- a value, and its truth
  truth : Value → Bool → Row
  -- a value whose truth stops, and the outcome
  truth_ends : Value → ℕ → Row
  -- a value, and the field number that it is
  names_field : Value → ℕ → Row
  -- a value that is no field number, and the outcome
  names_none : Value → ℕ → Row

abbrev pub Claim : Row → Type 0
Claim (r is a) = r ≡ gives a
Claim (r ends n) = r ≡ stops (stop n)
Claim (compares a b l) =
    map (λ (o : Comparison). compare_of o a b) (less ∷ at-most ∷ equal ∷ different ∷ greater ∷ at-least ∷ [])
    ≡ map (λ (n : ℕ). gives (num n)) l
Claim (truth a b) = truth_of a ≡ gives b
Claim (truth_ends a n) = truth_of a ≡ stops (stop n)
Claim (names_field a k) = field_number a ≡ gives k
Claim (names_none a n) = field_number a ≡ stops (stop n)

-- the three orders, and what the six comparisons say of them
abbrev pub is_less : List ℕ
is_less = 1 ∷ 1 ∷ 0 ∷ 1 ∷ 0 ∷ 0 ∷ []

abbrev pub is_equal : List ℕ
is_equal = 0 ∷ 1 ∷ 1 ∷ 0 ∷ 0 ∷ 1 ∷ []

abbrev pub is_greater : List ℕ
is_greater = 0 ∷ 0 ∷ 0 ∷ 1 ∷ 1 ∷ 1 ∷ []

-- "Field text looks numeric if, without outer blanks (space, tab), it is: optional sign, digits with an optional
-- point, at least one digit."
abbrev pub looks : List Row
looks =
    compares (field " \t+10. \t") (num 10) is_equal
    ∷ compares (field "-.0") (num 0) is_equal
    ∷ compares (field "1\n") (num 1) is_greater
    ∷ compares (field "- 1") (num 0) is_less
    ∷ compares (field ".") (num 0) is_less
    ∷ compares (field "") (num 0) is_less
    ∷ compares (field "24E") (num 100) is_greater
    ∷ []

-- "A text's number is that of its longest prefix of this form after leading blanks; without one, 0."
abbrev pub text_numbers : List Row
text_numbers =
    to_number_of (plain "\t -12.0.5x") is neg 12
    ∷ to_number_of (plain "+ 5") is num 0
    ∷ to_number_of (field "24E") is num 24
    ∷ to_number_of (plain "\n1") is num 0
    ∷ []

-- "Integer part over 2^53: 11; then a nonzero fraction digit: 12."
abbrev pub number_stops : List Row
number_stops =
    to_number_of (plain "-9007199254740992.00") is neg most
    ∷ to_number_of (plain "9007199254740992.01") ends 12
    ∷ to_number_of (plain "9007199254740993.5") ends 11
    ∷ to_number_of (plain "x1.5") is num 0
    ∷ []

-- "Comparison is of numbers if both sides are numbers, unset, or numeric-looking field text"
abbrev pub number_orders : List Row
number_orders =
    compares (num 9) (num 10) is_less
    ∷ compares (num 10) (num 10) is_equal
    ∷ compares (num 9) (neg 10) is_greater
    ∷ compares (neg 10) (neg 9) is_less
    ∷ compares (field "9") (field " 10") is_less
    ∷ compares unset (neg 1) is_greater
    ∷ compares unset (field "0.0") is_equal
    ∷ compares unset unset is_equal
    ∷ []

-- "else of unsigned bytes, the shorter first"
abbrev pub byte_orders : List Row
byte_orders =
    compares (plain "9") (num 10) is_greater
    ∷ compares (field "9") (plain "10") is_greater
    ∷ compares (plain "1.5") (plain "1.50") is_less
    ∷ compares (num 9) (field "10x") is_greater
    ∷ compares unset (plain "") is_equal
    ∷ compares (plain "ab") (plain "abc") is_less
    ∷ compares (plain "b") (plain "abc") is_greater
    ∷ compares (text (200 ∷ [])) (plain "a") is_greater
    ∷ []

-- nothing is converted where the sides are compared by their bytes; else left operand before right
abbrev pub comparison_stops : List Row
comparison_stops =
    compares (field "1.5") (plain "1") is_greater
    ∷ compare_of less (field "1.5") (num 2) ends 12
    ∷ compare_of less (field "1.5") (field over_text) ends 12
    ∷ compare_of less (field over_text) (field "1.5") ends 11
    ∷ []

-- "Truth: numbers and numeric-looking field text nonzero"
abbrev pub nonzero_truths : List Row
nonzero_truths =
    truth (num 0) false
    ∷ truth (neg 1) true
    ∷ truth (field " 00.0") false
    ∷ truth (field "-1") true
    ∷ []

-- "other texts nonempty, unset false"
abbrev pub nonempty_truths : List Row
nonempty_truths =
    truth (plain "") false
    ∷ truth (plain "0") true
    ∷ truth (plain "1.5") true
    ∷ truth (field "") false
    ∷ truth (field "a") true
    ∷ truth unset false
    ∷ []

-- "a numeric look takes the number here too (11, 12)"
abbrev pub truth_stops : List Row
truth_stops =
    truth_ends (field over_text) 11
    ∷ truth_ends (field "0.5") 12
    ∷ []

-- not
abbrev pub negations : List Row
negations =
    not_of (num 7) is num 0
    ∷ not_of (plain "") is num 1
    ∷ not_of (field "0.5") ends 12
    ∷ []

-- "Numbers become plain decimal. Unset is 0 and \"\"."
abbrev pub plain_decimals : List Row
plain_decimals =
    join_of (num 120) (neg 7) is plain "120-7"
    ∷ join_of (num 0) unset is plain "0"
    ∷ length_of (neg 10) is num 3
    ∷ length_of unset is num 0
    ∷ length_of (field " a ") is num 3
    ∷ to_number_of unset is num 0
    ∷ negate_of unset is num 0
    ∷ []

-- "Field numbers, `m` and `n` become numbers; left operand before right."
abbrev pub operand_numbers : List Row
operand_numbers =
    names_field unset 0
    ∷ names_field (plain " 128.0x") 128
    ∷ names_none (num 129) 16
    ∷ names_none (neg 1) 16
    ∷ names_none (field "1.5") 12
    ∷ names_none (plain over_text) 11
    ∷ substr_of (num 12345) (plain " 2x") (field "3.0") is plain "234"
    ∷ substr_of (plain "a") (plain over_text) (plain "1.5") ends 11
    ∷ substr_of (plain "a") (plain "1.5") (plain over_text) ends 12
    ∷ arithmetic_of add (plain over_text) (plain "1.5") ends 11
    ∷ arithmetic_of add (plain "1.5") (plain over_text) ends 12
    ∷ arithmetic_of subtract (plain "7x") (field "10") is neg 3
    ∷ []

-- "Inexact `/`: 12." A divisor of 0 is 13, after both operands are numbers.
abbrev pub quotients : List Row
quotients =
    arithmetic_of divide (num 6) (neg 3) is neg 2
    ∷ arithmetic_of divide (num 7) (num 2) ends 12
    ∷ arithmetic_of divide (num 0) unset ends 13
    ∷ arithmetic_of divide (num 1) (plain "0.5") ends 12
    ∷ []

-- "`%` takes the sign of the left operand, or is 0."
abbrev pub remainders : List Row
remainders =
    arithmetic_of remainder (neg 7) (num 3) is neg 1
    ∷ arithmetic_of remainder (num 7) (neg 3) is num 1
    ∷ arithmetic_of remainder (neg 6) (num 3) is num 0
    ∷ arithmetic_of remainder (num 7) (num 0) ends 13
    ∷ []

-- "Results out of range: 11."
abbrev pub ranges : List Row
ranges =
    arithmetic_of add (num most) (num 0) is num most
    ∷ arithmetic_of add (num most) (num 1) ends 11
    ∷ arithmetic_of subtract (neg most) (num 1) ends 11
    ∷ arithmetic_of multiply (neg most) (num 2) ends 11
    ∷ arithmetic_of multiply (neg most) (neg 1) is num most
    ∷ negate_of (plain most_text) is neg most
    ∷ []

-- "`substr` gives the bytes at positions p >= 1 with m <= p < m+n."
abbrev pub substrings : List Row
substrings =
    substr_of (plain "hello") (num 2) (num 3) is plain "ell"
    ∷ substr_of (plain "hello") (neg 1) (num 3) is plain "h"
    ∷ substr_of (plain "hello") (num 4) (num 10) is plain "lo"
    ∷ substr_of (plain "hello") (num 2) (num 0) is plain ""
    ∷ substr_of (plain "hello") (num 3) (neg 2) is plain ""
    ∷ substr_of (plain "hello") (num most) (num most) is plain ""
    ∷ substr_of (field "7 up") (num 1) (num 1) is plain "7"
    ∷ []

-- "`index` of an empty t is 0."
abbrev pub places : List Row
places =
    index_of (plain "banana") (plain "an") is num 2
    ∷ index_of (plain "an") (plain "banana") is num 0
    ∷ index_of (num 120) (num 0) is num 3
    ∷ index_of (plain "a") unset is num 0
    ∷ index_of (plain "") (plain "") is num 0
    ∷ []
