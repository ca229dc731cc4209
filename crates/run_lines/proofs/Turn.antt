-- One more field is split off: all fields are as they were.
use mathlib.Core.Path.{◌≡◌, refl, sym, ap, ap₂, subst, ◌∙◌}
use mathlib.Core.Bool.{true, false}
use mathlib.Core.List.{List, [], ◌∷◌, ◌++◌, append_assoc, append-nil, map}
use Prim.Native.Nat.{ℕ, zero, suc, ◌+◌, ◌-◌, ◌*◌, ◌≤◌, ◌<◌}
use native.Mathlib.Omega.{arith}
use native.Mathlib.Numerals.{add-one}
use native.Mathlib.Decide.{dec_lt}
use lib.ListN.{length, length-append, length-map}
use borrow.Rule.Slice.PartMut.{mid_of}
use Rattle.edition.specs.Limits.{field_count}
use Rattle.buffer.specs.Parts.{part}
use Rattle.buffer.proofs.Lent.{part-lent}
use Rattle.splitting.specs.Separator.{Separator}
use Rattle.splitting.specs.Field.{Span, span, Next, field, none, Goes, next_field, follow, fields_in, fields_from}
use Rattle.splitting.specs.Splitting.{text_of}
use Rattle.splitting.proofs.Turns.{fields-more, fields-none, next_past}
use Rattle.std.specs.Prelude.{Option, Some, None}
use Rattle.separators.specs.Kinds.{Means, next_of}
use Rattle.separators.specs.declared.kinds.Kind.{Kind}
use Rattle.separators.specs.declared.steps.Step.{Step}
use Rattle.values.specs.Value.{Value, unset, field_text}
use Rattle.run_room.specs.Layout.{slot_bytes, head_size, slot_count, record_start, entries_start, entry_bytes, base_end}
use Rattle.run_room.specs.Room.{word_at, size_in, value_by, line_of, entry_at, entries_to, pending_of, fields_of, Placed, Lined, Outside}
use Rattle.run_room.specs.Held.{SlotHeld, EntryHeld, Held, Entered}
use Rattle.run_room.specs.declared.lines.Line.{Line}
use Rattle.run_room.specs.declared.entries.Entry.{Entry}
use Rattle.run_room.proofs.Outside.{part-before, outside-same, outside-on, outside_wider}
use Rattle.run_room.proofs.Entrywise.{entries-before, length-entries, length-line}
use Rattle.run_room.proofs.Kept.{copied-slot, kept_entry}
use Rattle.run_lines.specs.Records.{Pends, Splits}

-- ---- the record

pub line-lent : (x : List ℕ) (l : Line) (a : ℕ) → a ≡ record_start l.side → mid_of a (a + l.size - a) x ≡ line_of x l
unfolding line_of
line-lent x l a e = part-lent x a (a + l.size) l.size refl ∙ ap (λ (n : ℕ). part n l.size x) e

-- the record is before the entries
pub line_kept : (a : ℕ) (x y : List ℕ) (l r : Line) → Outside a base_end x y → entries_start ≤ a → Placed l → r.side ≡ l.side → r.size ≡ l.size → line_of y r ≡ line_of x l
unfolding line_of
line_kept a x y l r o h i e f =
    ap₂ (λ (n m : ℕ). part (record_start n) m y) e f ∙ part-before a base_end (record_start l.side) l.size o (omega arith)

-- ---- what is pending

module _ (line : List ℕ) (s : Separator) where
  pub pending-more : (at b : ℕ) (f : Span) → next_field line s at ≡ field f b → pending_of line s at ≡ field_text (text_of line f) ∷ pending_of line s b
  unfolding pending_of
  pending-more at b f h = ap (map (λ (g : Span). field_text (text_of line g))) (fields-more line s at b f h)

  pub pending-none : (at : ℕ) → next_field line s at ≡ none → pending_of line s at ≡ []
  unfolding pending_of
  pending-none at h = ap (map (λ (g : Span). field_text (text_of line g))) (fields-none line s at h)

  pub pending-past : (at : ℕ) → length line < at → pending_of line s at ≡ []
  pending-past at h = pending-none at (next_past line s at h)

-- how many there are
pub fields-counted : (x : List ℕ) (l : Line) (s : Separator) → length (fields_of x l s) ≡ l.known + length (pending_of (line_of x l) s l.after)
unfolding fields_of
fields-counted x l s =
    length-append (entries_to (line_of x l) x l.known) (pending_of (line_of x l) s l.after)
    ∙ ap (λ (n : ℕ). n + length (pending_of (line_of x l) s l.after)) (length-entries (line_of x l) x l.known)

-- a turn for each byte, and a field for each turn
fields-in-few : (line : List ℕ) (s : Separator) (n at : ℕ) → length (fields_in line s n at) ≤ n
unfolding fields_in
fields-in-few line s zero at = omega arith
fields-in-few line s (suc n) at = by (next_field line s at) (fields-in-few line s n)
  where
    by : (o : Next) → ((b : ℕ) → length (fields_in line s n b) ≤ n) → length (follow line (fields_in line s n) o) ≤ suc n
    by none h = omega arith
    by (field f b) h = omega (arith, h b)

pub fields-from-few : (line : List ℕ) (s : Separator) (at : ℕ) → length (fields_from line s at) ≤ suc (length line) - at
unfolding fields_from
fields-from-few line s at = fields-in-few line s (suc (length line) - at) at

pending-few : (line : List ℕ) (s : Separator) (at : ℕ) → length (pending_of line s at) ≤ suc (length line) - at
unfolding pending_of
pending-few line s at = rw length-map (fields-from-few line s at)

-- a line's numbers alone tell that there are entries enough
pub lined-few : (x : List ℕ) (l : Line) → base_end ≤ length x → Lined l → (s : Separator) → length (fields_of x l s) ≤ field_count
lined-few x l fits i s =
    omega (arith, fields-counted x l s, pending-few (line_of x l) s l.after, length-line x l i.placed fits, i.few)

-- ---- one turn

field-value : (w : ℕ) (t : List ℕ) → value_by 3 w t ≡ field_text t
unfolding value_by
field-value w t = refl

-- what slots and entries keep stays where nothing is written
pub slot_kept : (a e : ℕ) (x y : List ℕ) (i : ℕ) → Outside a e x y → i * slot_bytes + slot_bytes ≤ a → SlotHeld x i → SlotHeld y i
slot_kept a e x y i o h s =
    copied-slot x y i i (size_in (word_at x (i * slot_bytes))) refl (part-before a e (i * slot_bytes) (head_size + size_in (word_at x (i * slot_bytes))) o (omega arith)) s

pub entry_kept : (a e : ℕ) (x y line line' : List ℕ) (k : ℕ) → Outside a e x y → entries_start + k * entry_bytes + entry_bytes ≤ a → line' ≡ line
    → EntryHeld line x k → EntryHeld line' y k
entry_kept a e x y line line' k o h f s =
    subst (λ (b : List ℕ). EntryHeld b y k) (sym f) (kept_entry line x y k (part-before a e (entries_start + k * entry_bytes) entry_bytes o h) s)

module _ (x : List ℕ) (l r : Line) (fits : base_end ≤ length x) (i : Placed l) (pends : l.after ≤ l.size) (side : r.side ≡ l.side) (size : r.size ≡ l.size) where
  -- a field was found, and is written to the next entry
  module _ (f : Step) (y : List ℕ) (e : Entry) (w : Entered x y l.known e) (kind : e.kind ≡ 3) (start : e.start ≡ f.start) (long : e.size ≡ f.size)
      (known : r.known ≡ l.known + 1) (after : r.after ≡ f.after) (room : l.known < field_count) where
    entry-outside : Outside (entries_start + l.known * entry_bytes) base_end x y
    entry-outside =
        outside_wider (entries_start + l.known * entry_bytes) (entries_start + l.known * entry_bytes + entry_bytes) (entries_start + l.known * entry_bytes) base_end x y
        (omega arith) (omega arith) w.outside

    pub turn-outside : Outside entries_start base_end x y
    turn-outside = outside_wider (entries_start + l.known * entry_bytes) base_end entries_start base_end x y (omega arith) (omega arith) entry-outside

    line_same : line_of y r ≡ line_of x l
    line_same = line_kept entries_start x y l r turn-outside (omega arith) i side size

    new-entry : (line : List ℕ) → entry_at line y l.known ≡ field_text (part f.start f.size line)
    new-entry line =
        w.value line
        ∙ ap₂ (λ (k : ℕ) (b : List ℕ). value_by k e.number b) kind (ap₂ (λ (a n : ℕ). part a n line) start long)
        ∙ field-value _ _

    pub turn-fields : (s : Separator) → next_of (Some f) ≡ next_field (line_of x l) s l.after → fields_of y r s ≡ fields_of x l s
    unfolding fields_of entries_to
    turn-fields s h =
        let line = line_of x l in
        ap₂ (λ (t : List ℕ) (n : ℕ). entries_to t y n ++ pending_of t s r.after) line_same (known ∙ add-one l.known)
        ∙ ap (λ (n : ℕ). entries_to line y (suc l.known) ++ pending_of line s n) after
        ∙ ap₂ (λ (a : List Value) (v : Value). a ++ (v ∷ []) ++ pending_of line s f.after)
        (entries-before (entries_start + l.known * entry_bytes) base_end entry-outside line l.known (omega arith)) (new-entry line)
        ∙ append_assoc (entries_to line x l.known) (field_text (text_of line (span f.start f.size)) ∷ []) (pending_of line s f.after)
        ∙ ap (λ (p : List Value). entries_to line x l.known ++ p) (sym (pending-more line s l.after f.after (span f.start f.size) (sym h)))

    pub turn-held : Held x l → Held y r
    turn-held h =
        record {
          slots = λ j g. slot_kept entries_start base_end x y j turn-outside (omega arith) (h.slots j g);
          entries = λ k g.
              elim (dec_lt k l.known) [
                | yes p ↦ entry_kept (entries_start + l.known * entry_bytes) base_end x y (line_of x l) (line_of y r) k entry-outside (omega arith) line_same (h.entries k p)
                | no p ↦ (let q : l.known ≡ k = omega arith in subst (λ (n : ℕ). EntryHeld (line_of y r) y n) q (w.held (line_of y r)))
              ];
        }

  same_line : line_of x r ≡ line_of x l
  same_line = line_kept entries_start x x l r (outside-same entries_start base_end x) (omega arith) i side size

  -- none was found
  pub end-fields : r.known ≡ l.known → r.after ≡ l.size + 1 → (s : Separator) → none ≡ next_field (line_of x l) s l.after → fields_of x r s ≡ fields_of x l s
  unfolding fields_of
  end-fields known after s h =
      let line = line_of x l in
      let len : length line ≡ l.size = length-line x l i fits in
      ap₂ (λ (t : List ℕ) (n : ℕ). entries_to t x n ++ pending_of t s r.after) same_line known
      ∙ ap (λ (p : List Value). entries_to line x l.known ++ p)
      (pending-past line s r.after (omega arith) ∙ sym (pending-none line s l.after (sym h)))

  pub end-held : r.known ≡ l.known → Held x l → Held x r
  end-held known h =
      record { slots = h.slots; entries = λ k g. subst (λ (b : List ℕ). EntryHeld b x k) (sym same_line) (h.entries k (omega arith)) }

-- ---- turns

module _ (edition : ℕ) (t : List ℕ) (kind : Kind) where
  -- what the code's step answers, of the part that it was lent
  abbrev pub Stepped : List ℕ → Line → ℕ → Option Step → Type 0
  Stepped x l a f =
      (Goes l.after (length (mid_of a (a + l.size - a) x)) (next_of f))
      × ((s : Separator) → Means edition t kind s → next_of f ≡ next_field (mid_of a (a + l.size - a) x) s l.after)

  module _ (x : List ℕ) (l : Line) (fits : base_end ≤ length x) (i : Placed l) (pends : l.after ≤ l.size) (a : ℕ) (ea : a ≡ record_start l.side) where
    stepped_line : (f : Option Step) → Stepped x l a f → (s : Separator) → Means edition t kind s → next_of f ≡ next_field (line_of x l) s l.after
    stepped_line f stepped s m = stepped.1 s m ∙ ap (λ (q : List ℕ). next_field q s l.after) (line-lent x l a ea)

    -- a field was found
    module _ (f : Step) (stepped : Stepped x l a (Some f)) where
      -- it lies in the record
      pub turn-bounds : (f.start + f.size ≤ l.size) × (l.after < f.after) × (f.after ≤ suc l.size)
      turn-bounds =
          let len : length (mid_of a (a + l.size - a) x) ≡ l.size = ap length (line-lent x l a ea) ∙ length-line x l i fits in
          let g = stepped.0 in
          (omega (arith, g.1), omega (arith, g.3), omega (arith, g.4))

      pub turned : (y : List ℕ) (r : Line) (e : Entry) → l.known < field_count → Entered x y l.known e
          → (e.kind ≡ 3) × (e.start ≡ f.start) × (e.size ≡ f.size)
          → (r.side ≡ l.side) × (r.size ≡ l.size) × (r.known ≡ l.known + 1) × (r.after ≡ f.after)
          → (l.after < r.after) × (r.known ≤ l.known + 1) × (Splits edition t kind x y l r)
      turned y r e room w v q =
          let b = turn-bounds in (
            omega (arith, b.1, q.3),
            omega (arith, q.2),
            record {
              outside = turn-outside x l r fits i pends q.0 q.1 f y e w v.0 v.1 v.2 q.2 q.3 room;
              side = q.0;
              size = q.1;
              more = omega (arith, q.2);
              on = omega (arith, b.1, q.3);
              pace = omega (arith, q.1, q.2, q.3, b.1, b.2);
              fields = λ s m. turn-fields x l r fits i pends q.0 q.1 f y e w v.0 v.1 v.2 q.2 q.3 room s (stepped_line (Some f) stepped s (m pends));
              held = turn-held x l r fits i pends q.0 q.1 f y e w v.0 v.1 v.2 q.2 q.3 room;
            },
          )

    -- none was found
    pub ended : Stepped x l a None → (r : Line)
        → (r.side ≡ l.side) × (r.size ≡ l.size) × (r.known ≡ l.known) × (r.after ≡ l.size + 1)
        → (l.after < r.after) × (r.known ≤ l.known + 1) × (Splits edition t kind x x l r)
    ended stepped r q = (
      omega (arith, q.3),
      omega (arith, q.2),
      record {
        outside = outside-same entries_start base_end x;
        side = q.0;
        size = q.1;
        more = omega (arith, q.2);
        on = omega (arith, q.3);
        pace = omega (arith, q.1, q.2, q.3);
        fields = λ s m. end-fields x l r fits i pends q.0 q.1 q.2 q.3 s (stepped_line None stepped s (m pends));
        held = end-held x l r fits i pends q.0 q.1 q.2;
      },
    )

  pub splits-none : (x : List ℕ) (l : Line) → Splits edition t kind x x l l
  splits-none x l =
      record {
        outside = outside-same entries_start base_end x;
        side = refl;
        size = refl;
        more = omega arith;
        on = omega arith;
        pace = omega arith;
        fields = λ s m. refl;
        held = λ h. h;
      }

  pub splits-pends : (x y : List ℕ) (l r : Line) (s : Separator) → Splits edition t kind x y l r → Pends edition t kind l s → Pends edition t kind r s
  splits-pends x y l r s p m = λ h. m (omega (arith, p.on, p.size))

  pub splits-on : (x y z : List ℕ) (l m r : Line) → Splits edition t kind x y l m → Splits edition t kind y z m r → Splits edition t kind x z l r
  splits-on x y z l m r f g =
      record {
        outside = outside-on entries_start base_end x y z f.outside g.outside;
        side = g.side ∙ f.side;
        size = g.size ∙ f.size;
        more = omega (arith, f.more, g.more);
        on = omega (arith, f.on, g.on);
        pace = omega (arith, f.pace, g.pace);
        fields = λ s w. g.fields s (splits-pends x y l m s f w) ∙ f.fields s w;
        held = λ h. g.held (f.held h);
      }

  pub splits-placed : (x y : List ℕ) (l r : Line) → Placed l → Splits edition t kind x y l r → Placed r
  splits-placed x y l r i p = record { side = omega (arith, p.side, i.side); size = omega (arith, p.size, i.size) }

  pub splits-lined : (x y : List ℕ) (l r : Line) → Lined l → Splits edition t kind x y l r → Lined r
  splits-lined x y l r i p = record { placed = splits-placed x y l r i.placed p; few = omega (arith, i.few, p.pace) }
