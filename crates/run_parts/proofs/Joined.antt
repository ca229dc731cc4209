-- One more field is joined.
use mathlib.Core.Path.{◌≡◌, refl, sym, ap, ap₂, subst, ◌∙◌}
use mathlib.Core.Bool.{cond}
use mathlib.Core.List.{List, [], ◌∷◌, ◌++◌, append_assoc}
use Prim.Native.Nat.{ℕ, zero, suc, ◌+◌, ◌-◌, ◌*◌, ◌≤◌, ◌<◌}
use native.Mathlib.Omega.{arith}
use native.Mathlib.Nat.{add-suc, add-zero}
use native.Mathlib.Decide.{dec_lt}
use lib.ListN.{length, take, drop, length-append}
use lib.Seq.{drop_at, take-append_seam}
use lib.Dec.{eqb, ltb}
use borrow.Author.Tests.{ne_eqb}
use Rattle.edition.specs.Limits.{text_bytes, field_count}
use Rattle.buffer.specs.Parts.{part}
use Rattle.values.specs.Value.{Value, unset, text_of}
use Rattle.semantics.specs.Operations.{joined}
use Rattle.run_room.specs.Layout.{slot_count, slots_end, record_start, entries_start, entry_bytes, base_end}
use Rattle.run_room.specs.Room.{line_of, entry_at, entries_to, Placed}
use Rattle.run_room.specs.Held.{EntryHeld}
use Rattle.run_room.specs.declared.lines.Line.{Line}
use Rattle.run_room.proofs.Outside.{outside-same, outside-on, outside_wider, part-before, part-after}
use Rattle.run_room.proofs.Slotwise.{slot-before}
use Rattle.run_room.proofs.Entrywise.{entry-after, entries-before, entries-after}
use Rattle.run_room.proofs.Kept.{kept_entry}
use Rattle.run_parts.specs.Join.{new_field, new_fields, gap_of, joined_text, record_end, Grown, Turned, Joins}

-- ---- the definition's text, one field more

gap-on : (b : List ℕ) (n : ℕ) → cond (eqb (suc n) 0) [] b ≡ b
gap-on b n = rw (ne_eqb (suc n) 0 (λ z. omega arith))

regroup : (a b c d : List ℕ) → a ++ (b ++ (c ++ d)) ≡ (a ++ (b ++ c)) ++ d
regroup a b c d = simp append_assoc

pub joined_snoc : (b : List ℕ) (fs : List Value) (v : Value) → joined_text b (fs ++ (v ∷ [])) ≡ joined_text b fs ++ (gap_of b (length fs) ++ text_of v)
unfolding joined_text gap_of
joined_snoc b [] v = refl
joined_snoc b (a ∷ []) v = refl
joined_snoc b (a ∷ c ∷ l) v =
    ap (λ (t : List ℕ). text_of a ++ (b ++ t)) (joined_snoc b (c ∷ l) v ∙ ap (λ (g : List ℕ). joined b (c ∷ l) ++ (g ++ text_of v)) (gap-on b (length l)))
    ∙ regroup (text_of a) b (joined b (c ∷ l)) (b ++ text_of v)
    ∙ ap (λ (g : List ℕ). (text_of a ++ (b ++ joined b (c ∷ l))) ++ (g ++ text_of v)) (sym (gap-on b (suc (length l))))

module _ (x : List ℕ) (l : Line) (k v : ℕ) (b : List ℕ) where
  pub length-new : (n : ℕ) → length (new_fields x l k v n) ≡ n
  unfolding new_fields
  length-new zero = refl
  length-new (suc n) = length-append (new_fields x l k v n) (new_field x l k v n ∷ []) ∙ (let e = length-new n in omega arith)

  pub joined-next : (n : ℕ) → joined_text b (new_fields x l k v (suc n)) ≡ joined_text b (new_fields x l k v n) ++ (gap_of b n ++ text_of (new_field x l k v n))
  unfolding new_fields
  joined-next n =
      joined_snoc b (new_fields x l k v n) (new_field x l k v n)
      ∙ ap (λ (m : ℕ). joined_text b (new_fields x l k v n) ++ (gap_of b m ++ text_of (new_field x l k v n))) (length-new n)

  pub joined_length : (n : ℕ) → length (joined_text b (new_fields x l k v (suc n)))
      ≡ length (joined_text b (new_fields x l k v n)) + (length (gap_of b n) + length (text_of (new_field x l k v n)))
  joined_length n = ap length (joined-next n) ∙ (simp length-append)

  pub joined-most : (d n : ℕ) → length (joined_text b (new_fields x l k v n)) ≤ length (joined_text b (new_fields x l k v (n + d)))
  joined-most zero n = let e = ap (λ (m : ℕ). length (joined_text b (new_fields x l k v m))) (add-zero n) in omega arith
  joined-most (suc d) n =
      let e = ap (λ (m : ℕ). length (joined_text b (new_fields x l k v m))) (add-suc n d) in
      omega (arith, joined-most d n, joined_length (n + d))

  pub joined-below : (n m : ℕ) → n ≤ m → length (joined_text b (new_fields x l k v n)) ≤ length (joined_text b (new_fields x l k v m))
  joined-below n m h =
      let z : n + (m - n) ≡ m = omega arith in
      let e = ap (λ (q : ℕ). length (joined_text b (new_fields x l k v q))) z in
      omega (arith, joined-most (m - n) n)

-- a part in the middle
part-mid : (p g t r : List ℕ) (n : ℕ) → n ≡ length p + length g → part n (length t) ((p ++ (g ++ t)) ++ r) ≡ t
unfolding part
part-mid p g t r n e =
    let regroup : (p ++ (g ++ t)) ++ r ≡ (p ++ g) ++ (t ++ r) = simp append_assoc in
    let z : length (p ++ g) ≡ n = length-append p g ∙ sym e in
    ap (λ (q : List ℕ). take (length t) (drop n q)) regroup
    ∙ ap (take (length t)) (drop_at (p ++ g) (t ++ r) n z)
    ∙ take-append_seam t r

-- ---- the loop

pub joins-none : (x : List ℕ) (l : Line) (k v : ℕ) (b : List ℕ) → Joins x x l k v b 0 0
unfolding new_fields joined_text part entries_to
joins-none x l k v b =
    record { outside = outside-same slots_end base_end x; line = refl; later = outside-same 0 entries_start x; place = refl; text = refl; known = λ tail. refl; held = λ line m h. absurd (omega arith) }

module _ (x y : List ℕ) (l : Line) (k v : ℕ) (b : List ℕ) (n at : ℕ) (fits : base_end ≤ length x) (i : Placed l) (slot : v < slot_count) (few : n < field_count) (j : Joins x y l k v b n at) where
  -- what is read is as it was at first
  pub new-same : new_field y l k v n ≡ new_field x l k v n
  unfolding new_field
  new-same =
      ap₂ (λ (a c : Value). cond (eqb n k) a (cond (ltb n l.known) c unset)) (slot-before slots_end base_end x y v j.outside (omega arith))
      (ap (λ (t : List ℕ). entry_at t y n) j.line ∙ entry-after 0 (entries_start + n * entry_bytes) j.later (line_of x l) n (omega arith))

  pub between-same : (from m : ℕ) → from + m ≤ slots_end → part from m y ≡ part from m x
  between-same from m h = part-before slots_end base_end from m j.outside h

  pub join-bound : (from m count : ℕ) → b ≡ part from m x → from + m ≤ slots_end → n < count → length (joined_text b (new_fields x l k v count)) ≤ text_bytes
      → at + length (gap_of (part from m y) n) + length (text_of (new_field y l k v n)) ≤ text_bytes
  join-bound from m count e h c most =
      let f = ap (λ (q : List ℕ). length (gap_of q n)) (between-same from m h ∙ sym e) in
      let g = ap (λ (q : Value). length (text_of q)) new-same in
      omega (arith, j.place, joined_length x l k v b n, joined-below x l k v b (suc n) count c)

  module _ (z : List ℕ) (r : ℕ) (bound : length (joined_text b (new_fields x l k v (suc n))) ≤ text_bytes) (t : Turned y z l k v n at r b) where
    w : Value
    w = new_field x l k v n

    grew : Grown y t.mid (1 - l.side) at (gap_of b n ++ text_of (new_field x l k v n))
    grew = subst (λ (a : Value). Grown y t.mid (1 - l.side) at (gap_of b n ++ text_of a)) new-same t.grown

    place : r ≡ at + length (gap_of b n) + length (text_of (new_field x l k v n))
    place = t.place ∙ ap (λ (a : Value). at + length (gap_of b n) + length (text_of a)) new-same

    reach : r ≡ length (joined_text b (new_fields x l k v (suc n)))
    reach = omega (arith, place, j.place, joined_length x l k v b n)

    line-mid : line_of t.mid l ≡ line_of y l
    unfolding line_of
    line-mid =
        elim (dec_lt l.side 1) [
          | yes h ↦ part-before (record_start (1 - l.side) + at) (record_end (1 - l.side)) (record_start l.side) l.size grew.outside (omega (arith, i.size))
          | no h ↦ part-after (record_start (1 - l.side) + at) (record_end (1 - l.side)) (record_start l.side) l.size grew.outside (omega (arith, i.side))
        ]

    line-end : line_of z l ≡ line_of t.mid l
    unfolding line_of
    line-end = part-before (entries_start + n * entry_bytes) (entries_start + n * entry_bytes + entry_bytes) (record_start l.side) l.size t.entry (omega (arith, i.side, i.size))

    all-before : (line : List ℕ) → entries_to line z n ≡ entries_to line y n
    all-before line =
        entries-before (entries_start + n * entry_bytes) (entries_start + n * entry_bytes + entry_bytes) t.entry line n (omega arith)
        ∙ entries-after (record_start (1 - l.side) + at) (record_end (1 - l.side)) grew.outside line n (omega arith)

    text : part (record_start (1 - l.side)) r z ≡ joined_text b (new_fields x l k v (suc n))
    text =
        let a = record_start (1 - l.side) in
        let e : r ≡ at + length (gap_of b n ++ text_of (new_field x l k v n)) = simp length-append (omega (arith, place)) in
        part-before (entries_start + n * entry_bytes) (entries_start + n * entry_bytes + entry_bytes) a r t.entry (omega (arith, reach))
        ∙ ap (λ (m : ℕ). part a m t.mid) e
        ∙ grew.text
        ∙ ap (λ (q : List ℕ). q ++ (gap_of b n ++ text_of (new_field x l k v n))) j.text
        ∙ sym (joined-next x l k v b n)

    known : (tail : List ℕ) → entries_to (joined_text b (new_fields x l k v (suc n)) ++ tail) z (suc n) ≡ new_fields x l k v (suc n)
    unfolding entries_to new_fields
    known tail =
        let p = joined_text b (new_fields x l k v n) in
        let g = gap_of b n in
        let s = text_of (new_field x l k v n) in
        let whole : joined_text b (new_fields x l k v (suc n)) ++ tail ≡ (p ++ (g ++ s)) ++ tail = ap (λ (q : List ℕ). q ++ tail) (joined-next x l k v b n) in
        let here : at + length g ≡ length p + length g = omega (arith, j.place) in
        let value : entry_at ((p ++ (g ++ s)) ++ tail) z n ≡ new_field x l k v n =
        t.value ((p ++ (g ++ s)) ++ tail)
        (ap (λ (a : Value). part (at + length g) (length (text_of a)) ((p ++ (g ++ s)) ++ tail)) new-same ∙ part-mid p g s tail (at + length g) here ∙ ap text_of (sym new-same))
        ∙ new-same in
        ap (λ (q : List ℕ). entries_to q z n ++ (entry_at q z n ∷ [])) whole
        ∙ ap₂ (λ (es : List Value) (a : Value). es ++ (a ∷ []))
        (all-before ((p ++ (g ++ s)) ++ tail) ∙ ap (λ (q : List ℕ). entries_to q y n) (append_assoc p (g ++ s) tail) ∙ j.known ((g ++ s) ++ tail))
        value

    pub joins-more : Joins x z l k v b (suc n) r
    joins-more =
        let a = record_start (1 - l.side) in
        let c = record_end (1 - l.side) in
        record {
          outside =
              outside-on slots_end base_end x y z j.outside
              (outside-on slots_end base_end y t.mid z (outside_wider (a + at) c slots_end base_end y t.mid (omega arith) (omega arith) grew.outside)
              (outside_wider (entries_start + n * entry_bytes) (entries_start + n * entry_bytes + entry_bytes) slots_end base_end t.mid z (omega arith) (omega arith) t.entry));
          line = line-end ∙ line-mid ∙ j.line;
          later =
              outside-on 0 (entries_start + suc n * entry_bytes) x y z (outside_wider 0 (entries_start + n * entry_bytes) 0 (entries_start + suc n * entry_bytes) x y (omega arith) (omega arith) j.later)
              (outside-on 0 (entries_start + suc n * entry_bytes) y t.mid z (outside_wider (a + at) c 0 (entries_start + suc n * entry_bytes) y t.mid (omega arith) (omega arith) grew.outside)
              (outside_wider (entries_start + n * entry_bytes) (entries_start + n * entry_bytes + entry_bytes) 0 (entries_start + suc n * entry_bytes) t.mid z (omega arith) (omega arith) t.entry));
          place = reach;
          text = text;
          known = known;
          held = λ line m h.
              elim (dec_lt m n) [
                | yes p ↦
                    kept_entry line y z m
                    (part-before (entries_start + n * entry_bytes) (entries_start + n * entry_bytes + entry_bytes) (entries_start + m * entry_bytes) entry_bytes t.entry (omega arith)
                    ∙ part-after (a + at) c (entries_start + m * entry_bytes) entry_bytes grew.outside (omega arith)) (j.held line m p)
                | no p ↦ (let q : n ≡ m = omega arith in subst (EntryHeld line z) q (t.held line))
              ];
        }
