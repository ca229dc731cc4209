-- Internal: cited by private contracts only. What each case of an answer says, and what a reading says of a text.
use Rattle.std.specs.Prelude.{◌≡◌, List, ℕ, ◌≤◌, Result, Ok, Err, IfOk}
use Rattle.edition.specs.Outcomes.{number_out_of_range, number_not_whole}
use Rattle.number.specs.Range.{Answer, number, stop, unbias, top}
use Rattle.numeral.specs.Form.{after_blanks, prefix_length, blank_after, looks_numeric}
use Rattle.numeral.specs.Judgement.{prefix_number, number_of}
use Rattle.numeral.specs.declared.reading.Unreadable.{Unreadable}
use Rattle.numeral.specs.declared.reading.Unreadable.TheVariants.{OutOfRange, NotWhole}
use Rattle.numeral.specs.declared.reading.Reading.{Reading}

abbrev pub outcome_of : Unreadable → ℕ
outcome_of OutOfRange = number_out_of_range
outcome_of NotWhole = number_not_whole

abbrev pub value_of : Result ℕ Unreadable → Answer
value_of (Ok w) = number (unbias w)
value_of (Err s) = stop (outcome_of s)

-- a number that is handed on is one of the edition
abbrev pub Bounded : Result ℕ Unreadable → Type 0
Bounded r = IfOk r (λ w. w ≤ top)

-- v is the answer a
pub record Values (v : Result ℕ Unreadable) (a : Answer) : Type 0 where
  pub answer : value_of v ≡ a
  pub bounded : Bounded v

-- r is what the text t, without leading blanks, says
pub record ReadsStripped (r : Reading) (t : List ℕ) : Type 0 where
  pub prefix : r.length ≡ prefix_length t
  pub look : r.numeric ≡ blank_after (prefix_length t) t
  pub number : Values r.value (prefix_number t)

-- r is what the text t says
pub record Reads (r : Reading) (t : List ℕ) : Type 0 where
  pub prefix : r.length ≡ prefix_length (after_blanks t)
  pub look : r.numeric ≡ looks_numeric t
  pub number : Values r.value (number_of t)
