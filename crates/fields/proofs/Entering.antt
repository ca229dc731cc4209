-- What the code answers of a record is what the definition says of it.
use mathlib.Core.Path.{◌≡◌, refl, sym, ap, subst, ◌∙◌}
use mathlib.Core.Bool.{Bool, true, false, cond}
use mathlib.Core.List.{List}
use mathlib.Core.Option.{Option, some, none}
use Prim.Native.Nat.{ℕ, ◌≤◌, ◌<◌}
use native.Mathlib.Omega.{arith}
use lib.ListN.{length}
use lib.Dec.{eqb, leb}
use borrow.Author.Tests.{le-leb, lt-leb, leb-true}
use Rattle.edition.specs.Limits.{record_bytes, field_count}
use Rattle.edition.specs.Outcomes.{done, record_too_long, bad_separator}
use Rattle.splitting.specs.Separator.{Separator, separator_of}
use Rattle.splitting.specs.Field.{Span, span, fields_of}
use Rattle.splitting.specs.Splitting.{Split, fields, long_record, bad-separator, many_fields, counted, separated}
use Rattle.splitting.specs.Splitting.{split_of, Counting, counting, count_of, span_of}
use Rattle.fields.specs.Answer.{counting_of}
use Rattle.field_spans.specs.Spread.{with_spans, up_to_many, spans_of, room_of}
use Rattle.std.specs.Prelude.{Result, Ok, Err}
use Rattle.fields.specs.declared.entries.SplitError.{SplitError}
use Rattle.fields.specs.declared.entries.SplitError.TheVariants.{LongRecord, BadSeparator, ManyFields}
use Rattle.field_spans.proofs.Spreading.{Spreads}

-- what is answered, with the room for spans
abbrev pub Filled : List ℕ → Option Separator → List ℕ → ℕ → Result ℕ SplitError → List ℕ → Type 0
Filled text o room₀ first r room = (counting_of r ≡ count_of (separated text o)) × (room ≡ spans_of room₀ first text o)

pub few : (n : ℕ) → up_to_many n ≤ field_count → (up_to_many n ≡ n) × (leb n field_count ≡ true)
few n h = by (leb n field_count) refl
  where
    by : (x : Bool) → leb n field_count ≡ x → (up_to_many n ≡ n) × (leb n field_count ≡ true)
    by true e = (rw e, e)
    by false e = absurd (omega (arith, (rw e at h)))

pub many : (n : ℕ) → field_count < up_to_many n → leb n field_count ≡ false
many n h = by (leb n field_count) refl
  where
    by : (x : Bool) → leb n field_count ≡ x → leb n field_count ≡ false
    by true e = absurd (omega (arith, leb-true n field_count e, (rw e at h)))
    by false e = e

module _ (text : List ℕ) (o : Option Separator) (room₀ : List ℕ) (first : ℕ) where
  pub filled_none : o ≡ none → Filled text o room₀ first (Err BadSeparator) room₀
  filled_none h = rw h (refl, refl)

  pub filled-many : (s : Separator) (n : ℕ) (room : List ℕ) → o ≡ some s → Spreads text s room₀ first n room → field_count < n → Filled text o room₀ first (Err ManyFields) room
  filled-many s n room h g l =
      let e = many (length (fields_of text s)) (subst (λ (m : ℕ). field_count < m) g.0 l) in
      rw h (rw e refl, g.1)

  pub filled-some : (s : Separator) (n : ℕ) (room : List ℕ) → o ≡ some s → Spreads text s room₀ first n room → n ≤ field_count → Filled text o room₀ first (Ok n) room
  filled-some s n room h g l =
      let e = few (length (fields_of text s)) (subst (λ (m : ℕ). m ≤ field_count) g.0 l) in
      rw h (rw e.1 (ap (counting done) (g.0 ∙ e.0)), g.1)

module _ (edition : ℕ) (separator text : List ℕ) (room₀ : List ℕ) (first : ℕ) where
  -- what a split answers, with the room for spans
  abbrev pub Splits : Result ℕ SplitError → List ℕ → Type 0
  Splits r room =
      (counting_of r ≡ count_of (split_of edition separator text)) × (room ≡ room_of edition separator text first room₀)

  pub split-long : record_bytes < length text → Splits (Err LongRecord) room₀
  unfolding split_of
  split-long h = rw (lt-leb (length text) record_bytes h) (refl, refl)

  pub split-filled : (r : Result ℕ SplitError) (room : List ℕ) → length text ≤ record_bytes → Filled text (separator_of edition separator) room₀ first r room → Splits r room
  unfolding split_of
  split-filled r room h g = rw (le-leb (length text) record_bytes h) g

-- ---- a split that answers a count

-- the split has n fields, and the room has their spans
pub record Has (n : ℕ) (x : Split) (room₀ : List ℕ) (first : ℕ) (room : List ℕ) : Type 0 where
  pub them : List Span
  pub split : x ≡ fields them
  pub many : length them ≡ n
  pub few : n ≤ field_count
  pub spans : room ≡ with_spans room₀ first 0 them

abbrev outcome : Counting → ℕ
outcome x = x.outcome

has-counted : (n : ℕ) (room₀ : List ℕ) (first : ℕ) (fs : List Span) → counting_of (Ok n) ≡ count_of (counted fs)
    → Has n (counted fs) room₀ first (with_spans room₀ first 0 fs)
has-counted n room₀ first fs h = by (leb (length fs) field_count) refl h
  where
    by : (x : Bool) → leb (length fs) field_count ≡ x → counting_of (Ok n) ≡ count_of (cond x (fields fs) many_fields)
        → Has n (counted fs) room₀ first (with_spans room₀ first 0 fs)
    by true e z =
        let many = sym (ap (λ (x : Counting). x.count) z) in
        let few : n ≤ field_count = omega (arith, many, leb-true (length fs) field_count e) in
        record { them = fs; split = rw e; many = many; few = few; spans = refl }
    by false e z = absurd (let q = ap outcome z in omega arith)

has-separated : (n : ℕ) (text room₀ : List ℕ) (first : ℕ) (o : Option Separator)
    → counting_of (Ok n) ≡ count_of (separated text o)
    → Has n (separated text o) room₀ first (spans_of room₀ first text o)
has-separated n text room₀ first none h = absurd (let z = ap outcome h in omega arith)
has-separated n text room₀ first (some s) h = has-counted n room₀ first (fields_of text s) h

module _ (edition : ℕ) (separator text : List ℕ) (room₀ : List ℕ) (first : ℕ) where
  pub has_split : (n : ℕ) → counting_of (Ok n) ≡ count_of (split_of edition separator text)
      → Has n (split_of edition separator text) room₀ first (room_of edition separator text first room₀)
  unfolding split_of
  has_split n h = by (leb (length text) record_bytes) refl h
    where
      by : (x : Bool) → leb (length text) record_bytes ≡ x
          → counting_of (Ok n) ≡ count_of (cond x (separated text (separator_of edition separator)) long_record)
          → Has n (cond x (separated text (separator_of edition separator)) long_record) room₀ first
          (cond x (spans_of room₀ first text (separator_of edition separator)) room₀)
      by true e z = has-separated n text room₀ first (separator_of edition separator) z
      by false e z = absurd (let q = ap outcome z in omega arith)

-- ---- and one that doesn't

refused : (e : SplitError) → done < (counting_of (Err e)).outcome
refused LongRecord = omega arith
refused BadSeparator = omega arith
refused ManyFields = omega arith

pub no_span : (end k : ℕ) (x : Split) (e : SplitError) → counting_of (Err e) ≡ count_of x → span end 0 ≡ span_of end k x
unfolding span_of
no_span end k (fields fs) e h = absurd (let z = ap outcome h in omega (arith, refused e))
no_span end k long_record e h = refl
no_span end k bad-separator e h = refl
no_span end k many_fields e h = refl

-- ---- the numbers of an answer tell its case, so a promise on the numbers is one on the case

-- the case with these numbers
abbrev pub case_of : Counting → Result ℕ SplitError
case_of x =
    cond (eqb x.outcome done) (Ok x.count)
    (Err (cond (eqb x.outcome record_too_long) LongRecord (cond (eqb x.outcome bad_separator) BadSeparator ManyFields)))

pub case-told : (r : Result ℕ SplitError) → case_of (counting_of r) ≡ r
case-told (Ok n) = refl
case-told (Err LongRecord) = refl
case-told (Err BadSeparator) = refl
case-told (Err ManyFields) = refl
