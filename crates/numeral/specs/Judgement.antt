-- Document 01, "Values": what number a text has.
use Rattle.std.specs.Prelude.{Bool, true, false, cond, List, [], ◌∷◌, ℕ, ◌+◌, ◌-◌, ◌*◌, ℤ, pos, neg_ℤ, eqb, ltb}
use Rattle.edition.specs.Limits.{number_bound}
use Rattle.edition.specs.Outcomes.{number_out_of_range, number_not_whole}
use Rattle.number.specs.Range.{Answer, number, stop}
use Rattle.numeral.specs.Form.{after_blanks, is_negative, whole_digits, fraction_digits, prefix_length}

-- a value with one digit more after it
abbrev pub appended : ℕ → ℕ → ℕ
appended value digit = value * 10 + (digit - 48)

-- the value of digits, after the digits of a value
unfoldable pub value_after : ℕ → List ℕ → ℕ
value_after value [] = value
value_after value (b ∷ t) = value_after (appended value b) t

abbrev pub digits_value : List ℕ → ℕ
digits_value t = value_after 0 t

unfoldable pub nonzero_digit : List ℕ → Bool
nonzero_digit [] = false
nonzero_digit (b ∷ t) = cond (eqb b 48) (nonzero_digit t) true

abbrev pub with_sign : Bool → ℕ → ℤ
with_sign true n = neg_ℤ (pos n)
with_sign false n = pos n

-- "Integer part over 2^53: 11; then a nonzero fraction digit: 12."
unfoldable pub judged : Bool → List ℕ → List ℕ → Answer
judged negative whole fraction =
    cond (ltb number_bound (digits_value whole)) (stop number_out_of_range)
    (cond (nonzero_digit fraction) (stop number_not_whole) (number (with_sign negative (digits_value whole))))

-- the number of a text without leading blanks: "that of its longest prefix of this form", "without one, 0"
unfoldable pub prefix_number : List ℕ → Answer
prefix_number t = cond (eqb (prefix_length t) 0) (number (pos 0))
    (judged (is_negative t) (whole_digits t) (fraction_digits t))

-- "A text's number is that of its longest prefix of this form after leading blanks; without one, 0."
unfoldable pub number_of : List ℕ → Answer
number_of t = prefix_number (after_blanks t)
