-- Internal: cited by private contracts only. What the code answers for the look and the truth of a value.
use Rattle.std.specs.Prelude.{◌≡◌, Bool, true}
use Rattle.values.specs.Value.{Value, stop, Result, gives, stops, number_of, numeric}
use Rattle.run_numbers.specs.Numbers.{TakenBy}
use Rattle.run_values.specs.declared.numbers.Judged.{Judged}
use Rattle.run_values.specs.declared.numbers.Truth.{Truth}

-- whether a value is compared as a number, and its number where it is
pub record JudgedBy (v : Value) (r : Judged) : Type 0 where
  pub look : r.numeric ≡ numeric v
  pub taken : numeric v ≡ true → TakenBy (number_of v) (record { stop = r.stop; word = r.word })

abbrev pub TruthBy : Result Bool → Truth → Type 0
TruthBy (gives b) r = (r.stop ≡ 0) × (r.holds ≡ b)
TruthBy (stops z) r = (z ≡ stop r.stop) × (r.stop ≡ 0 → ⊥)
