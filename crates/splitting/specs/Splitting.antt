-- Document 01, "Outcomes": "Public split: 15, 18, 16, count 0"; and its first section: "for a number k, a field is
-- handed back as the part of the record itself (k = 0 the whole record; k above the count, and any k of a refused
-- record, the empty part at its end)".
use Rattle.std.specs.Prelude.{cond, List, ℕ, zero, suc, length, get_or, leb}
use Rattle.std.proofs.Math.Option.{Option, some, none}
use Rattle.edition.specs.Limits.{record_bytes, field_count}
use Rattle.edition.specs.Outcomes.{done, record_too_long, bad_field_number, bad_separator}
use Rattle.buffer.specs.Parts.{part}
use Rattle.splitting.specs.Separator.{Separator, separator_of}
use Rattle.splitting.specs.Field.{Span, span, fields_of}

-- the fields, or why there are none
pub data Split : Type 0 where
  fields : List Span → Split
  long_record bad-separator many_fields : Split

abbrev pub counted : List Span → Split
counted fs = cond (leb (length fs) field_count) (fields fs) many_fields

-- 18 before any look at the record
abbrev pub separated : List ℕ → Option Separator → Split
separated text none = bad-separator
separated text (some s) = counted (fields_of text s)

unfoldable pub split_of : ℕ → List ℕ → List ℕ → Split
split_of edition fs text = cond (leb (length text) record_bytes) (separated text (separator_of edition fs)) long_record

-- the outcome, and the count of fields
pub record Counting : Type 0 where
  pub outcome : ℕ
  pub count : ℕ

abbrev pub counting : ℕ → ℕ → Counting
counting o n = record { outcome = o; count = n }

-- "15, 18, 16, count 0"
abbrev pub count_of : Split → Counting
count_of (fields fs) = counting done (length fs)
count_of long_record = counting record_too_long 0
count_of bad-separator = counting bad_separator 0
count_of many_fields = counting bad_field_number 0

-- field k of a record that ends at `end`
abbrev pub field_at : ℕ → List Span → ℕ → Span
field_at end fs zero = span 0 end
field_at end fs (suc k) = get_or fs k (span end 0)

unfoldable pub span_of : ℕ → ℕ → Split → Span
span_of end k (fields fs) = field_at end fs k
span_of end k long_record = span end 0
span_of end k bad-separator = span end 0
span_of end k many_fields = span end 0

-- where field k of a record is
abbrev pub field_of : ℕ → List ℕ → List ℕ → ℕ → Span
field_of edition separator text k = span_of (length text) k (split_of edition separator text)

-- the bytes of a span
abbrev pub text_of : List ℕ → Span → List ℕ
text_of text f = part f.start f.size text
