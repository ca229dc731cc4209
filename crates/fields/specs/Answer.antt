-- Document 01, "Outcomes": "Public split: 15, 18, 16, count 0". `count_of` of `splitting` is that; here are the numbers
-- of what the code answers, and where a field is in memory.
use Rattle.std.specs.Prelude.{ℕ, ◌+◌, Result, Ok, Err}
use Rattle.edition.specs.Outcomes.{done, record_too_long, bad_field_number, bad_separator}
use Rattle.splitting.specs.Field.{Span, span}
use Rattle.splitting.specs.Splitting.{Counting, counting}
use Rattle.fields.specs.declared.entries.SplitError.{SplitError}
use Rattle.fields.specs.declared.entries.SplitError.TheVariants.{LongRecord, BadSeparator, ManyFields}
use Rattle.fields.specs.declared.entries.Located.{Located}

-- what a case of an answer says
abbrev pub counting_of : Result ℕ SplitError → Counting
counting_of (Ok n) = counting done n
counting_of (Err LongRecord) = counting record_too_long 0
counting_of (Err BadSeparator) = counting bad_separator 0
counting_of (Err ManyFields) = counting bad_field_number 0

-- the same, of an answer with a field's span
abbrev pub located_count : Result Located SplitError → Counting
located_count (Ok f) = counting done f.count
located_count (Err e) = counting_of (Err e)

-- the span of such an answer, of a record that ends at `end`: of a refused record, the empty part at its end
abbrev pub located_in : ℕ → Result Located SplitError → Span
located_in end (Ok f) = span f.start f.size
located_in end (Err e) = span end 0

-- a span's place in memory: the block, and the byte in it, from the record's
abbrev pub place_of : ℕ × ℕ → Span → ℕ × ℕ
place_of p f = (p.0, p.1 + f.start)
