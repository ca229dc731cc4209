-- Internal: cited by private contracts only. What the code answers for the number of a value, and for a field number.
use Rattle.std.specs.Prelude.{◌≡◌, ℕ, ◌≤◌, ℤ}
use Rattle.edition.specs.Limits.{field_count}
use Rattle.number.specs.Range.{unbias, top}
use Rattle.values.specs.Value.{stop, Result, gives, stops}
use Rattle.run_numbers.specs.declared.numbers.Taken.{Taken}
use Rattle.run_numbers.specs.declared.numbers.FieldNumber.{FieldNumber}

abbrev pub TakenBy : Result ℤ → Taken → Type 0
TakenBy (gives z) r = (r.stop ≡ 0) × (z ≡ unbias r.word) × (r.word ≤ top)
TakenBy (stops s) r = (s ≡ stop r.stop) × (r.stop ≡ 0 → ⊥)

abbrev pub FieldBy : Result ℕ → FieldNumber → Type 0
FieldBy (gives k) r = (r.stop ≡ 0) × (r.k ≡ k) × (k ≤ field_count)
FieldBy (stops s) r = (s ≡ stop r.stop) × (r.stop ≡ 0 → ⊥)
