-- Document 01, "Values": the kinds, and a value's text, number, numeric look and truth.
use Rattle.std.specs.Prelude.{Bool, true, false, not, cond, List, [], ◌∷◌, ℕ, length, ℤ, pos, eqb}
use Rattle.number.specs.Range.{Answer, number as answered, stop as refused}
use Rattle.number.specs.Arithmetic.{is_zero}
use Rattle.numeral.specs.Form.{looks_numeric}
use Rattle.numeral.specs.Judgement.{number_of as text_number}
use Rattle.decimals.specs.Decimal.{decimal_text}

-- "Kinds: unset, number, text, field text."
pub data Value : Type 0 where
  unset : Value
  number : ℤ → Value
  text : List ℕ → Value
  field_text : List ℕ → Value

-- why an operation stops: the outcome, and how many bytes of output room are lacking, which is 0 but for a print
pub record Stop : Type 0 where
  pub outcome : ℕ
  pub short : ℕ

abbrev pub short_by : ℕ → ℕ → Stop
short_by short outcome = record { outcome = outcome; short = short }

abbrev pub stop : ℕ → Stop
stop = short_by 0

-- what an operation gives, or why it stops
pub data Result (A : Type 0) : Type 0 where
  gives : A → Result A
  stops : Stop → Result A

abbrev pub bind : {A B : Type 0} → Result A → (A → Result B) → Result B
bind (gives a) f = f a
bind (stops s) f = stops s

abbrev pub result : Answer → Result ℤ
result (answered z) = gives z
result (refused n) = stops (stop n)

-- "Numbers become plain decimal. Unset is 0 and \"\"."
unfoldable pub text_of : Value → List ℕ
text_of unset = []
text_of (number z) = decimal_text z
text_of (text l) = l
text_of (field_text l) = l

-- the number, or 11 or 12
unfoldable pub number_of : Value → Result ℤ
number_of unset = gives (pos 0)
number_of (number z) = gives z
number_of (text l) = result (text_number l)
number_of (field_text l) = result (text_number l)

-- "numbers, unset, or numeric-looking field text"
unfoldable pub numeric : Value → Bool
numeric unset = true
numeric (number z) = true
numeric (text l) = false
numeric (field_text l) = looks_numeric l

abbrev pub nonempty : List ℕ → Bool
nonempty l = not (eqb (length l) 0)

abbrev pub nonzero : Result ℤ → Result Bool
nonzero r = bind r (λ z. gives (not (is_zero z)))

-- "Truth: numbers and numeric-looking field text nonzero, other texts nonempty, unset false; a numeric look takes the
-- number here too (11, 12)."
unfoldable pub truth_of : Value → Result Bool
truth_of a = cond (numeric a) (nonzero (number_of a)) (gives (nonempty (text_of a)))

abbrev pub truth_value : Bool → Value
truth_value b = number (pos (cond b 1 0))
