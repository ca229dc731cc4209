-- The turns of `split_into`: what is written and what is left make all fields.
use mathlib.Core.Path.{◌≡◌, refl, sym, ap, ◌∙◌}
use mathlib.Core.Bool.{true, false}
use mathlib.Core.List.{List, [], ◌∷◌}
use Prim.Native.Nat.{ℕ, suc, ◌+◌, ◌≤◌, ◌<◌}
use native.Mathlib.Omega.{arith}
use native.Mathlib.Nat.{zero-add}
use native.Mathlib.Numerals.{add-one}
use lib.ListN.{length}
use borrow.Author.Tests.{le-ltb, le-leb, lt-leb}
use Rattle.edition.specs.Limits.{field_count}
use Rattle.splitting.specs.Separator.{Separator}
use Rattle.splitting.specs.Field.{Span, span, field, none, next_field, fields_from, fields_of}
use Rattle.splitting.proofs.Turns.{fields-more, fields-none, fields-of, fields-empty}
use Rattle.field_spans.specs.Spread.{with_span, with_spans, up_to_many}

-- a room takes no more fields than a record may have
full : (room : List ℕ) (first k : ℕ) (fs : List Span) → field_count ≤ k → with_spans room first k fs ≡ room
unfolding with_spans
full room first k [] h = refl
full room first k (f ∷ fs) h = ap (λ (r : List ℕ). with_spans r first (suc k) fs) (rw (le-ltb k field_count h)) ∙ full room first (suc k) fs (omega arith)

-- n fields are written, and those from `at` on are left
abbrev pub Held : List ℕ → Separator → List ℕ → ℕ → ℕ → ℕ → List ℕ → Type 0
Held text s room₀ first at n room =
    (length (fields_of text s) ≡ n + length (fields_from text s at)) × (with_spans room₀ first 0 (fields_of text s) ≡ with_spans room first n (fields_from text s at))

-- what `split_into` answers
abbrev pub Spreads : List ℕ → Separator → List ℕ → ℕ → ℕ → List ℕ → Type 0
Spreads text s room₀ first r room = (r ≡ up_to_many (length (fields_of text s))) × (room ≡ with_spans room₀ first 0 (fields_of text s))

module _ (text : List ℕ) (s : Separator) (room₀ : List ℕ) (first : ℕ) where
  pub held_start : 0 < length text → Held text s room₀ first 0 0 room₀
  held_start h =
      let e = fields-of text s h in
      (ap length e ∙ sym (zero-add (length (fields_from text s 0))), ap (with_spans room₀ first 0) e)

  pub held_more : (at n : ℕ) (room : List ℕ) (f : Span) (b : ℕ) → next_field text s at ≡ field f b → Held text s room₀ first at n room
      → Held text s room₀ first b (n + 1) (with_span room first n f)
  unfolding with_spans
  held_more at n room f b h g =
      let e = fields-more text s at b f h in (
        omega (arith, ap length e, g.0),
        rw (add-one n) (g.1 ∙ ap (with_spans room first n) e),
      )

  pub spread_end : (at n : ℕ) (room : List ℕ) → next_field text s at ≡ none → n ≤ field_count → Held text s room₀ first at n room → Spreads text s room₀ first n room
  unfolding with_spans
  spread_end at n room h l g =
      let e = fields-none text s at h in
      let z : length (fields_of text s) ≡ n = omega (arith, ap length e, g.0) in
      (rw (z, le-leb n field_count l), sym (g.1 ∙ ap (with_spans room first n) e))

  pub spread-many : (at n : ℕ) (room : List ℕ) → n ≡ suc field_count → Held text s room₀ first at n room → Spreads text s room₀ first n room
  spread-many at n room l g =
      (rw (lt-leb (length (fields_of text s)) field_count (omega (arith, g.0))) l, sym (g.1 ∙ full room first n (fields_from text s at) (omega arith)))

  -- a record without bytes
  pub spread-empty : length text ≡ 0 → Spreads text s room₀ first 0 room₀
  unfolding with_spans
  spread-empty h = let e = fields-empty text s h in rw e (refl, refl)
