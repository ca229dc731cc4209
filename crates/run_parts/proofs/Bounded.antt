-- A bound of the size of all fields joined: of the texts that are there, the value that comes, and what is between.
use mathlib.Core.Path.{◌≡◌, refl, sym, ap, ◌∙◌}
use mathlib.Core.Bool.{false}
use mathlib.Core.List.{List, [], ◌∷◌, ◌++◌}
use Prim.Native.Nat.{ℕ, zero, suc, ◌+◌, ◌*◌, ◌/◌, ◌%◌, ◌≤◌, ◌<◌, min}
use native.Mathlib.Nat.{suc-mul}
use native.Mathlib.Decide.{dec_lt, ℕ_discrete}
use native.Mathlib.Omega.{arith}
use lib.ListN.{length, length-take, length-drop}
use borrow.Author.Tests.{eq-eqb, ne_eqb, lt-ltb, le-ltb}
use Rattle.edition.specs.Limits.{text_bytes}
use Rattle.buffer.specs.Parts.{part}
use Rattle.buffer.proofs.Parts.{length_part}
use Rattle.number.specs.Range.{top}
use Rattle.values.specs.Value.{Value, text_of}
use Rattle.run_room.specs.Layout.{head_size, slot_bytes, entries_start, entry_bytes}
use Rattle.run_room.specs.Room.{word_at, value_by, size_in, is_number, slot_at, line_of, entry_at, entries_to, Texted}
use Rattle.run_room.specs.declared.lines.Line.{Line}
use Rattle.run_room.proofs.Decimal.{decimal-most}
use Rattle.run_parts.specs.Join.{new_field, new_fields, gap_of, joined_text, texts_size}
use Rattle.run_parts.proofs.Grown.{number-text, text-low, text-words}
use Rattle.run_parts.proofs.Joined.{joined_length}

-- ---- the text of a value

number-most : (k w : ℕ) (t : List ℕ) → k ≡ 1 → length (text_of (value_by k w t)) ≤ 17
number-most k w t e = omega (arith, ap length (number-text k w (min w top) t e refl), decimal-most (min w top) (omega arith))

other-most : (k w : ℕ) (t : List ℕ) → (k ≡ 1 → ⊥) → length (text_of (value_by k w t)) ≤ length t
other-most k w t n =
    elim (dec_lt k 2) [
      | yes h ↦ omega (arith, ap length (text-low k w t n h))
      | no h ↦ omega (arith, ap length (text-words k w t (omega arith)))
    ]

no_number : (k w : ℕ) (t : List ℕ) → (k ≡ 1 → ⊥) → is_number (value_by k w t) ≡ false
unfolding value_by
no_number zero w t n = refl
no_number (suc zero) w t n = absurd (n refl)
no_number (suc (suc zero)) w t n = refl
no_number (suc (suc (suc k))) w t n = refl

part-most : (a n : ℕ) (l : List ℕ) → length (part a n l) ≤ n
unfolding part
part-most a n l = simp (length-take, length-drop) (omega arith)

-- ---- of an entry, by its head h

module _ (line room : List ℕ) (i h : ℕ) (e : h ≡ word_at room (entries_start + i * entry_bytes)) where
  kind : h / 4294967296 % 256 ≡ word_at room (entries_start + i * entry_bytes) / 4294967296 % 256
  kind = ap (λ (q : ℕ). q / 4294967296 % 256) e

  pub entry-number : h / 4294967296 % 256 ≡ 1 → length (text_of (entry_at line room i)) ≤ 17
  unfolding entry_at
  entry-number c = number-most _ _ _ (sym kind ∙ c)

  pub entry_other : (h / 4294967296 % 256 ≡ 1 → ⊥) → length (text_of (entry_at line room i)) ≤ h / 65536 % 65536
  unfolding entry_at
  entry_other n =
      let w = word_at room (entries_start + i * entry_bytes) in
      omega (
        arith,
        other-most (w / 4294967296 % 256) (word_at room (entries_start + i * entry_bytes + 8)) (part (w % 65536) (w / 65536 % 65536) line) (λ c. n (kind ∙ c)),
        part-most (w % 65536) (w / 65536 % 65536) line,
        ap (λ (q : ℕ). q / 65536 % 65536) e,
      )

-- ---- of a slot

pub slot-most : (x : List ℕ) (v r : ℕ) → Texted x v r → v * slot_bytes + slot_bytes ≤ length x → length (text_of (slot_at x v)) ≤ r + 17
unfolding slot_at
slot-most x v r t fits =
    let h = word_at x (v * slot_bytes) in
    let w = word_at x (v * slot_bytes + 8) in
    let b = part (v * slot_bytes + head_size) (size_in h) x in
    elim (ℕ_discrete (h % 256) 1) [
      | yes e ↦ omega (arith, number-most (h % 256) w b e)
      | no n ↦ omega (arith, ap length (t.bytes (no_number (h % 256) w b n)), length_part (v * slot_bytes + head_size) r x (omega (arith, t.most)))
    ]

-- ---- texts one after the other

pub texts-more : (vs : List Value) (v : Value) → texts_size (vs ++ (v ∷ [])) ≡ texts_size vs + length (text_of v)
unfolding texts_size
texts-more [] v = omega arith
texts-more (a ∷ vs) v = omega (arith, texts-more vs v)

module _ (line room : List ℕ) where
  pub entries_none : texts_size (entries_to line room 0) ≡ 0
  unfolding entries_to texts_size
  entries_none = refl

  pub entries-more : (n : ℕ) → texts_size (entries_to line room (suc n)) ≡ texts_size (entries_to line room n) + length (text_of (entry_at line room n))
  unfolding entries_to
  entries-more n = texts-more (entries_to line room n) (entry_at line room n)

-- ---- all fields

module _ (x : List ℕ) (l : Line) (k v : ℕ) where
  -- the texts of the first n fields as they are
  Old : ℕ → ℕ
  Old n = texts_size (entries_to (line_of x l) x (min n l.known))

  old-on : (n : ℕ) → n < l.known → Old (suc n) ≡ Old n + length (text_of (entry_at (line_of x l) x n))
  unfolding Old
  old-on n h =
      let a : min (suc n) l.known ≡ suc n = omega arith in
      let b : n ≡ min n l.known = omega arith in
      ap (λ (q : ℕ). texts_size (entries_to (line_of x l) x q)) a
      ∙ entries-more (line_of x l) x n
      ∙ ap (λ (q : ℕ). texts_size (entries_to (line_of x l) x q) + length (text_of (entry_at (line_of x l) x n))) b

  old-all : (n : ℕ) → l.known ≤ n → Old n ≡ texts_size (entries_to (line_of x l) x l.known)
  unfolding Old
  old-all n h =
      let a : min n l.known ≡ l.known = omega arith in
      ap (λ (q : ℕ). texts_size (entries_to (line_of x l) x q)) a

  old-more : (n : ℕ) → Old n ≤ Old (suc n)
  old-more n =
      elim (dec_lt n l.known) [
        | yes h ↦ omega (arith, old-on n h)
        | no h ↦ omega (arith, old-all n (omega arith), old-all (suc n) (omega arith))
      ]

  -- the field that is assigned, and another
  field-here : (n : ℕ) → n ≡ k → length (text_of (new_field x l k v n)) ≡ length (text_of (slot_at x v))
  unfolding new_field
  field-here n e = rw (eq-eqb n k e)

  field-other : (n : ℕ) → (n ≡ k → ⊥) → Old n + length (text_of (new_field x l k v n)) ≤ Old (suc n)
  unfolding new_field text_of
  field-other n e =
      elim (dec_lt n l.known) [
        | yes h ↦ rw (ne_eqb n k e, lt-ltb n l.known h) (omega (arith, old-on n h))
        | no h ↦
            (let z : length (text_of (new_field x l k v n)) ≡ 0 = rw (ne_eqb n k e, le-ltb n l.known (omega arith)) in
            omega (arith, old-more n))
      ]

  module _ (b : List ℕ) where
    Size : ℕ → ℕ
    Size n = length (joined_text b (new_fields x l k v n))

    gap-most : (n : ℕ) → length (gap_of b n) ≤ length b
    unfolding gap_of
    gap-most zero = omega arith
    gap-most (suc n) = rw (ne_eqb (suc n) 0 (λ z. omega arith)) (omega arith)

    -- before the assigned field, and anywhere
    joined-bound : (n : ℕ) → (n ≤ k → Size n ≤ n * length b + Old n) × (Size n ≤ n * length b + length (text_of (slot_at x v)) + Old n)
    unfolding Size new_fields joined_text
    joined-bound zero = (λ h. omega arith, omega arith)
    joined-bound (suc n) =
        let p = joined-bound n in
        let s = joined_length x l k v b n in
        let g = gap-most n in
        let m = suc-mul n (length b) in
        elim (ℕ_discrete n k) [
          | yes e ↦ (λ h. absurd (omega arith), omega (arith, p.0 (omega arith), field-here n e, old-more n))
          | no e ↦ (λ h. omega (arith, p.0 (omega arith), field-other n e), omega (arith, p.1, field-other n e))
        ]

    -- all of them, by a bound of what is there and one of what comes
    pub fits-surely : (count rest size m : ℕ) → l.known ≤ count → texts_size (entries_to (line_of x l) x l.known) ≤ rest
        → length (text_of (slot_at x v)) ≤ size → length b ≡ m → rest + size + count * m ≤ text_bytes
        → length (joined_text b (new_fields x l k v count)) ≤ text_bytes
    unfolding Size
    fits-surely count rest size m hk hr hs e h =
        omega (arith, (joined-bound count).1, old-all count hk, ap (λ (q : ℕ). count * q) e)
