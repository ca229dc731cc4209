-- Internal: cited by private contracts only. Where the value of a variable is, as a number.
use Rattle.std.proofs.Math.Option.{Option, some, none}
use Rattle.std.specs.Prelude.{ℕ}
use Rattle.semantics.specs.Variables.{Source, field-count, record_count, stored, Variable}

-- 0 for one that is stored, 1 for the number of fields, 2 for the number of records
abbrev pub source_number : Source → ℕ
source_number field-count = 1
source_number record_count = 2
source_number (stored a) = 0

-- of a special variable, and of another one
abbrev pub source_in : Option Variable → ℕ
source_in none = 0
source_in (some v) = source_number v.source
