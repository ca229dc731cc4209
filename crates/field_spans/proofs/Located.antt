-- A field's span is read off the room where the spans are.
use mathlib.Core.Path.{◌≡◌, refl, sym, ap, ap₂, ◌∙◌}
use mathlib.Core.Bool.{Bool, true, false, cond, ◌&&◌}
use mathlib.Core.List.{List, [], ◌∷◌}
use Prim.Native.Nat.{ℕ, zero, suc, ◌+◌, ◌-◌, ◌*◌, ◌≤◌, ◌<◌}
use native.Mathlib.Omega.{arith}
use lib.ListN.{length, get_or, set, length-set, get_or-eq_default}
use lib.Seq.{get_or-set_same, get_or-set_other}
use lib.Dec.{ltb, leb}
use borrow.Author.Tests.{lt-ltb, le-ltb, le-leb}
use Rattle.edition.specs.Limits.{field_count}
use Rattle.splitting.specs.Field.{Span, span}
use Rattle.splitting.specs.Splitting.{field_at}
use Rattle.field_spans.specs.Spread.{with_span, with_spans}

-- a span's words
abbrev pub word_of : ℕ → Span → ℕ
word_of zero f = f.start
word_of (suc i) f = f.size

module _ (first : ℕ) where
  -- ---- one span

  module _ (room : List ℕ) (k : ℕ) (f : Span) where
    abbrev at : ℕ
    at = 2 * (k - first)

    abbrev whole : List ℕ
    whole = set (set room at f.start) (at + 1) f.size

    -- the room is as long as it was, and what is before the span is as it was, whether the span is written or not
    whole_length : length whole ≡ length room
    whole_length = length-set (set room at f.start) (at + 1) f.size ∙ length-set room at f.start

    kept-length : length (with_span room first k f) ≡ length room
    kept-length = by (ltb k field_count && (leb first k && ltb (at + 1) (length room)))
      where
        by : (x : Bool) → length (cond x whole room) ≡ length room
        by true = whole_length
        by false = refl

    before-kept : (i : ℕ) → i < at → get_or (with_span room first k f) i 0 ≡ get_or room i 0
    before-kept i l = by (ltb k field_count && (leb first k && ltb (at + 1) (length room)))
      where
        by : (x : Bool) → get_or (cond x whole room) i 0 ≡ get_or room i 0
        by true =
            get_or-set_other (set room at f.start) (at + 1) i f.size 0 (λ e. omega arith)
            ∙ get_or-set_other room at i f.start 0 (λ e. omega arith)
        by false = refl

    -- a room of less than two words has none for a span
    pub no_room : length room < 2 → with_span room first k f ≡ room
    no_room h = by (ltb k field_count) (leb first k)
      where
        z : ltb (at + 1) (length room) ≡ false
        z = le-ltb (at + 1) (length room) (omega arith)

        by : (x y : Bool) → cond (x && (y && ltb (at + 1) (length room))) whole room ≡ room
        by true true = rw z
        by true false = refl
        by false y = refl

    module _ (h : k < field_count) (g : first ≤ k) (l : at + 1 < length room) where
      written : with_span room first k f ≡ whole
      written = rw (lt-ltb k field_count h, le-leb first k g, lt-ltb (at + 1) (length room) l)

      word-written : (i : ℕ) → i < 2 → get_or (with_span room first k f) (at + i) 0 ≡ word_of i f
      word-written zero m =
          let z : at + 0 ≡ at = omega arith in
          ap₂ (λ (r : List ℕ) (n : ℕ). get_or r n 0) written z
          ∙ get_or-set_other (set room at f.start) (at + 1) at f.size 0 (λ e. omega arith)
          ∙ get_or-set_same room at f.start 0 (omega arith)
      word-written (suc zero) m =
          ap (λ (r : List ℕ). get_or r (at + 1) 0) written
          ∙ get_or-set_same (set room at f.start) (at + 1) f.size 0 (omega (arith, length-set room at f.start))
      word-written (suc (suc i)) m = absurd (omega arith)

  -- ---- all spans

  kept : (fs : List Span) (room : List ℕ) (k i : ℕ) → i < 2 * (k - first) → get_or (with_spans room first k fs) i 0 ≡ get_or room i 0
  unfolding with_spans
  kept [] room k i l = refl
  kept (f ∷ fs) room k i l = kept fs (with_span room first k f) (suc k) i (omega arith) ∙ before-kept room k f i l

  -- the span of field k + j
  pub word-is : (d : Span) (fs : List Span) (room : List ℕ) (k j i : ℕ) → j < length fs → first ≤ k + j → k + length fs ≤ field_count
      → 2 * (k + j - first) + 1 < length room → i < 2 → get_or (with_spans room first k fs) (2 * (k + j - first) + i) 0 ≡ word_of i (get_or fs j d)
  unfolding with_spans
  word-is d [] room k j i l p h g m = absurd (omega arith)
  word-is d (f ∷ fs) room k zero i l p h g m =
      let z : 2 * (k + 0 - first) + i ≡ 2 * (k - first) + i = omega arith in
      ap (λ (n : ℕ). get_or (with_spans (with_span room first k f) first (suc k) fs) n 0) z
      ∙ kept fs (with_span room first k f) (suc k) (2 * (k - first) + i) (omega arith)
      ∙ word-written room k f (omega arith) (omega arith) (omega arith) i m
  word-is d (f ∷ fs) room k (suc j) i l p h g m =
      let z : 2 * (k + suc j - first) + i ≡ 2 * (suc k + j - first) + i = omega arith in
      ap (λ (n : ℕ). get_or (with_spans (with_span room first k f) first (suc k) fs) n 0) z
      ∙ word-is d fs (with_span room first k f) (suc k) j i (omega arith) (omega arith) (omega arith) (omega (arith, kept-length room k f)) m

-- ---- field k of n fields

module _ (fs : List Span) (end k : ℕ) where
  pub field-whole : k ≡ 0 → span 0 end ≡ field_at end fs k
  field-whole e = rw e

  pub field_past : length fs < k → span end 0 ≡ field_at end fs k
  field_past h = by k h
    where
      by : (k : ℕ) → length fs < k → span end 0 ≡ field_at end fs k
      by zero h = absurd (omega arith)
      by (suc j) h = sym (get_or-eq_default fs (span end 0) {n = j} (omega arith))

  -- by a room for this field alone
  pub field-inside : (room : List ℕ) → (k ≡ 0 → ⊥) → k ≤ length fs → length fs ≤ field_count → 2 ≤ length room
      → span (get_or (with_spans room (k - 1) 0 fs) 0 0) (get_or (with_spans room (k - 1) 0 fs) 1 0) ≡ field_at end fs k
  field-inside room n h l g = by k n h
    where
      by : (k : ℕ) → (k ≡ 0 → ⊥) → k ≤ length fs
          → span (get_or (with_spans room (k - 1) 0 fs) 0 0) (get_or (with_spans room (k - 1) 0 fs) 1 0) ≡ field_at end fs k
      by zero n h = absurd (n refl)
      by (suc j) n h =
          let d = span end 0 in
          let o = suc j - 1 in
          let word : (i : ℕ) → i < 2 → get_or (with_spans room o 0 fs) i 0 ≡ word_of i (get_or fs j d) =
          λ i m.
          let z : i ≡ 2 * (0 + j - o) + i = omega arith in
          ap (λ (n : ℕ). get_or (with_spans room o 0 fs) n 0) z
          ∙ word-is o d fs room 0 j i (omega arith) (omega arith) (omega arith) (omega arith) m in
          ap₂ span (word 0 (omega arith)) (word 1 (omega arith))
