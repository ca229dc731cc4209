-- Field k of a record: its span is read off the room of spans, and lies in the record.
use mathlib.Core.Path.{◌≡◌, refl, sym, ap, ap₂, subst, ◌∙◌}
use mathlib.Core.Bool.{Bool, true, false, cond}
use mathlib.Core.List.{List, [], ◌∷◌}
use mathlib.Core.Option.{Option, some, none}
use Prim.Native.Nat.{ℕ, zero, suc, ◌+◌, ◌-◌, ◌≤◌, ◌<◌}
use native.Mathlib.Omega.{arith}
use native.Mathlib.Nat.{add_comm}
use lib.ListN.{length, get_or, take, drop}
use lib.Dec.{leb}
use borrow.Rule.Slice.PartMut.{mid_of}
use Rattle.edition.specs.Limits.{record_bytes, field_count}
use Rattle.buffer.proofs.Lent.{part-lent}
use Rattle.splitting.specs.Separator.{Separator, separator_of}
use Rattle.splitting.specs.Field.{Span, span, fields_of}
use Rattle.splitting.specs.Meaning.{Ordered}
use Rattle.splitting.specs.Splitting.{fields, long_record, many_fields, field_at, separated}
use Rattle.splitting.specs.Splitting.{split_of, count_of, span_of, text_of}
use Rattle.splitting.proofs.Turns.{ordered}
use Rattle.fields.specs.Answer.{counting_of, place_of}
use Rattle.field_spans.specs.Spread.{room_of}
use Rattle.std.specs.Prelude.{Ok}
use Rattle.field_spans.proofs.Located.{field-whole, field_past, field-inside}
use Rattle.fields.proofs.Entering.{Has, has_split}

-- ---- read off the room

module _ (edition : ℕ) (separator text room₀ : List ℕ) (k n : ℕ)
    (h : counting_of (Ok n) ≡ count_of (split_of edition separator text)) where
  has : Has n (split_of edition separator text) room₀ (k - 1) (room_of edition separator text (k - 1) room₀)
  has = has_split edition separator text room₀ (k - 1) n h

  of_fields : field_at (length text) has.them k ≡ span_of (length text) k (split_of edition separator text)
  unfolding span_of
  of_fields = ap (span_of (length text) k) (sym has.split)

  pub located-whole : k ≡ 0 → span 0 (length text) ≡ span_of (length text) k (split_of edition separator text)
  located-whole e = field-whole has.them (length text) k e ∙ of_fields

  pub located-past : n < k → span (length text) 0 ≡ span_of (length text) k (split_of edition separator text)
  located-past l = field_past has.them (length text) k (omega (arith, has.many)) ∙ of_fields

  pub located-field : (room : List ℕ) → room ≡ room_of edition separator text (k - 1) room₀ → 2 ≤ length room₀ → (k ≡ 0 → ⊥) → k ≤ n
      → span (get_or room 0 0) (get_or room 1 0) ≡ span_of (length text) k (split_of edition separator text)
  located-field room e g z l =
      let q = e ∙ has.spans in
      ap₂ span (ap (λ (r : List ℕ). get_or r 0 0) q) (ap (λ (r : List ℕ). get_or r 1 0) q)
      ∙ field-inside has.them (length text) k room₀ z (omega (arith, has.many)) (omega (arith, has.many, has.few)) g
      ∙ of_fields

-- ---- in the record

ordered-most : (end at : ℕ) (fs : List Span) → Ordered end at fs → at ≤ end
ordered-most end at [] h = h
ordered-most end at (f ∷ fs) h = omega (arith, h.0, ordered-most end (f.start + f.size) fs h.1)

abbrev pub Within : ℕ → Span → Type 0
Within end f = f.start + f.size ≤ end

ordered-within : (end at : ℕ) (fs : List Span) (j : ℕ) → Ordered end at fs → Within end (get_or fs j (span end 0))
ordered-within end at [] j h = omega arith
ordered-within end at (f ∷ fs) zero h = ordered-most end (f.start + f.size) fs h.1
ordered-within end at (f ∷ fs) (suc j) h = ordered-within end (f.start + f.size) fs j h.1

module _ (edition : ℕ) (separator text : List ℕ) (k : ℕ) where
  at-within : (fs : List Span) (k : ℕ) → Ordered (length text) 0 fs → Within (length text) (field_at (length text) fs k)
  at-within fs zero h = omega arith
  at-within fs (suc j) h = ordered-within (length text) 0 fs j h

  separated-within : (o : Option Separator) → Within (length text) (span_of (length text) k (separated text o))
  unfolding span_of
  separated-within none = omega arith
  separated-within (some s) = by (leb (length (fields_of text s)) field_count)
    where
      by : (x : Bool) → Within (length text) (span_of (length text) k (cond x (fields (fields_of text s)) many_fields))
      by true = at-within (fields_of text s) k (ordered text s)
      by false = omega arith

  pub span-within : Within (length text) (span_of (length text) k (split_of edition separator text))
  unfolding split_of span_of
  span-within = by (leb (length text) record_bytes)
    where
      by : (x : Bool) → Within (length text) (span_of (length text) k (cond x (separated text (separator_of edition separator)) long_record))
      by true = separated-within (separator_of edition separator)
      by false = omega arith

-- ---- the part of the record

-- `&text[a..a + n]`, of the span that is field k
module _ (text : List ℕ) (p : ℕ × ℕ) (a n : ℕ) (f : Span) (e : span a n ≡ f) where
  pub handed-text : mid_of a (a + n - a) text ≡ text_of text f
  handed-text = part-lent text a (a + n) n refl ∙ ap (text_of text) e

  pub handed-place : ◌≡◌ {A = ℕ × ℕ} (p.0, a + p.1) (place_of p f)
  handed-place = ap (λ (i : ℕ). (p.0, i)) (add_comm a p.1) ∙ ap (place_of p) e

  pub handed-within : (end : ℕ) → Within end f → a + n ≤ end
  handed-within end h = subst (Within end) (sym e) h

-- `&text[end..]`, of the empty part at the end
pub handed-none : (text : List ℕ) (f : Span) → span (length text) 0 ≡ f
    → take (length text - length text) (drop (length text) text) ≡ text_of text f
handed-none text f e =
    let z : length text ≡ length text + 0 = omega arith in
    part-lent text (length text) (length text) 0 z ∙ ap (text_of text) e
