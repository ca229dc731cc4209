-- Internal: cited by private contracts only. What the inner functions answer: the values of digits are kept only up to
-- one past the greatest number, which is enough to judge them.
use Rattle.std.specs.Prelude.{◌≡◌, Bool, cond, List, ℕ, ◌+◌, min, take, ltb}
use Rattle.lists.specs.Elements.{leading}
use Rattle.edition.specs.Limits.{number_bound}
use Rattle.edition.specs.Outcomes.{number_out_of_range, number_not_whole}
use Rattle.number.specs.Range.{Answer, number, stop}
use Rattle.numeral.specs.Form.{is_digit, is_negative, whole_digits, fraction_digits, prefix_length}
use Rattle.numeral.specs.Judgement.{digits_value, with_sign}
use Rattle.numeral.specs.declared.digits.Digits.{Digits}
use Rattle.numeral.specs.declared.prefix.Prefix.{Prefix}

unfoldable pub capped : ℕ → ℕ
capped n = min n (number_bound + 1)

-- the judgement by values
unfoldable pub judged_by : Bool → ℕ → ℕ → Answer
judged_by negative whole fraction =
    cond (ltb number_bound whole) (stop number_out_of_range)
    (cond (ltb 0 fraction) (stop number_not_whole) (number (with_sign negative whole)))

pub record ReadsDigits (r : Digits) (t : List ℕ) : Type 0 where
  pub counted : r.count ≡ leading is_digit t
  pub valued : r.value ≡ capped (digits_value (take (leading is_digit t) t))

pub record ReadsPrefix (r : Prefix) (t : List ℕ) : Type 0 where
  pub sized : r.length ≡ prefix_length t
  pub signed : r.negative ≡ is_negative t
  pub whole_valued : r.whole ≡ capped (digits_value (whole_digits t))
  pub fraction_valued : r.fraction ≡ capped (digits_value (fraction_digits t))
