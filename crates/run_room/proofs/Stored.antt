-- The frame: what the whole room stands for after a part of it has changed, and what is kept stays true.
use mathlib.Core.Path.{◌≡◌, refl, sym, ap, ap₂, subst, ◌∙◌}
use mathlib.Core.List.{List, [], ◌∷◌, ◌++◌}
use Prim.Native.Nat.{ℕ, suc, ◌+◌, ◌*◌, ◌≤◌, ◌<◌}
use native.Mathlib.Omega.{arith}
use native.Mathlib.Decide.{ℕ_discrete, dec_lt}
use lib.ListN.{drop}
use Rattle.edition.specs.Limits.{text_bytes, field_count}
use Rattle.buffer.specs.Parts.{part}
use Rattle.splitting.specs.Separator.{Separator}
use Rattle.values.specs.Value.{Value}
use Rattle.run_room.specs.Layout.{head_size, slot_bytes, slot_count, record_start, entry_bytes, entries_start, base_end}
use Rattle.run_room.specs.Room.{word_at, value_by, size_in, slots_from, line_of, entries_to, pending_of, fields_of, Placed, store_of, with_slot, Outside}
use Rattle.run_room.specs.Held.{SlotHeld, EntryHeld, Held, Did, Slotted, Entered}
use Rattle.run_room.specs.declared.lines.Line.{Line}
use Rattle.run_room.specs.declared.entries.Entry.{Entry}
use Rattle.run_room.proofs.Kept.{copied-slot, kept_entry}
use Rattle.run_room.proofs.Outside.{part-before, part-after, outside_wider}
use Rattle.run_room.proofs.Slotwise.{slots-put, slots-before}
use Rattle.run_room.proofs.Entrywise.{entries-before, entries-after}

-- ---- slot i has become v

module _ {From : Type 0} (x y : List ℕ) (l : Line) (i : ℕ) (v : Value) (o : Slotted x y i v From) (inside : i < slot_count) where
  line_same : line_of y l ≡ line_of x l
  unfolding line_of
  line_same = part-after (i * slot_bytes) (i * slot_bytes + slot_bytes) (record_start l.side) l.size o.outside (omega arith)

  fields-same : (s : Separator) → fields_of y l s ≡ fields_of x l s
  unfolding fields_of
  fields-same s =
      ap₂ (λ (t : List ℕ) (e : List Value). e ++ pending_of t s l.after) line_same
      (ap (λ (t : List ℕ). entries_to t y l.known) line_same
      ∙ entries-after (i * slot_bytes) (i * slot_bytes + slot_bytes) o.outside (line_of x l) l.known (omega arith))

  rest-same : drop base_end y ≡ drop base_end x
  rest-same = (outside_wider (i * slot_bytes) (i * slot_bytes + slot_bytes) (i * slot_bytes) base_end x y (omega arith) (omega arith) o.outside).after

  -- The list of values has v there; the record, its fields and the rest are as they were.
  pub store-slot : (s : Separator) → store_of y l s ≡ with_slot (store_of x l s) i v
  unfolding store_of
  store-slot s = rw (slots-put x y slot_count i v o inside, line_same, fields-same s, rest-same)

  slot_kept : (j : ℕ) → Dec (j ≡ i) → From → SlotHeld x j → SlotHeld y j
  slot_kept j (yes e) f h = subst (SlotHeld y) (sym e) (o.held f)
  slot_kept j (no n) f h =
      let m = size_in (word_at x (j * slot_bytes)) in
      copied-slot x y j j m refl
      (elim (dec_lt j i) [
        | yes p ↦ part-before (i * slot_bytes) (i * slot_bytes + slot_bytes) (j * slot_bytes) (head_size + m) o.outside (omega arith)
        | no p ↦ part-after (i * slot_bytes) (i * slot_bytes + slot_bytes) (j * slot_bytes) (head_size + m) o.outside (omega arith)
      ])
      h

  -- what is kept stays true
  pub held-slot : From → Held x l → Held y l
  held-slot f h =
      record {
        slots = λ j b. slot_kept j (ℕ_discrete j i) f (h.slots j b);
        entries = λ k b.
            subst (λ (t : List ℕ). EntryHeld t y k) (sym line_same)
            (kept_entry (line_of x l) x y k
            (part-after (i * slot_bytes) (i * slot_bytes + slot_bytes) (entries_start + k * entry_bytes) entry_bytes o.outside (omega arith)) (h.entries k b));
      }

  -- a slot that is set is an operation
  pub did-slot : {Safe : Type 0} → Safe → (Held x l → From) → Did x l y l Safe ((s : Separator) → store_of y l s ≡ with_slot (store_of x l s) i v)
  did-slot safe from = record { safe = safe; next = λ h. (held-slot (from h) h, store-slot) }

-- ---- operations one after the other

module _ {Safe Then E F : Type 0} {x y z : List ℕ} {l r q : Line} where
  pub did-on : Did x l y r Safe E → Did y r z q Then F → Did x l z q (Safe × Then) (E × F)
  did-on a b =
      record {
        safe = (a.safe, b.safe);
        next = λ h. ((b.next (a.next h).0).0, ((a.next h).1, (b.next (a.next h).0).1));
      }

-- an operation that changes nothing, and one whose promise is put in other words
pub did_nothing : {Safe E : Type 0} (x : List ℕ) (l : Line) → Safe → E → Did x l x l Safe E
did_nothing x l safe e = record { safe = safe; next = λ h. (h, e) }

pub did_so : {Safe E F : Type 0} {x y : List ℕ} {l r : Line} → (E → F) → Did x l y r Safe E → Did x l y r Safe F
did_so f d = record { safe = d.safe; next = λ h. ((d.next h).0, f (d.next h).1) }

-- ---- what is outside of what the room stands for

module _ (x y : List ℕ) (l : Line) where
  same_store : slots_from 0 slot_count y ≡ slots_from 0 slot_count x → line_of y l ≡ line_of x l
      → entries_to (line_of x l) y l.known ≡ entries_to (line_of x l) x l.known → drop base_end y ≡ drop base_end x
      → (s : Separator) → store_of y l s ≡ store_of x l s
  unfolding store_of fields_of
  same_store e f g h s = rw (e, f, g, h)

  -- the slot of the other record
  pub store_other : (side : ℕ) → side < 2 → l.side < 2 → (side ≡ l.side → ⊥) → l.size ≤ text_bytes
      → Outside ((slot_count + side) * slot_bytes) ((slot_count + side) * slot_bytes + slot_bytes) x y → (s : Separator) → store_of y l s ≡ store_of x l s
  unfolding line_of
  store_other side hs hl apart few o =
      same_store
      (slots-before ((slot_count + side) * slot_bytes) ((slot_count + side) * slot_bytes + slot_bytes) x y slot_count 0 o (omega arith))
      (elim (dec_lt l.side side) [
        | yes p ↦ part-before ((slot_count + side) * slot_bytes) ((slot_count + side) * slot_bytes + slot_bytes) (record_start l.side) l.size o (omega arith)
        | no p ↦ part-after ((slot_count + side) * slot_bytes) ((slot_count + side) * slot_bytes + slot_bytes) (record_start l.side) l.size o (omega arith)
      ])
      (entries-after ((slot_count + side) * slot_bytes) ((slot_count + side) * slot_bytes + slot_bytes) o (line_of x l) l.known (omega arith))
      (outside_wider ((slot_count + side) * slot_bytes) ((slot_count + side) * slot_bytes + slot_bytes) ((slot_count + side) * slot_bytes) base_end x y
      (omega arith) (omega arith) o).after

  -- the entries that aren't known yet
  pub store-unknown : Placed l → l.known ≤ field_count → Outside (entries_start + l.known * entry_bytes) base_end x y → (s : Separator) → store_of y l s ≡ store_of x l s
  unfolding line_of
  store-unknown placed few o =
      same_store
      (slots-before (entries_start + l.known * entry_bytes) base_end x y slot_count 0 o (omega arith))
      (part-before (entries_start + l.known * entry_bytes) base_end (record_start l.side) l.size o (omega (arith, placed.side, placed.size)))
      (entries-before (entries_start + l.known * entry_bytes) base_end o (line_of x l) l.known (omega arith))
      o.after

-- ---- one entry more

pub entries-more : (x y line : List ℕ) (k : ℕ) (e : Entry) → Entered x y k e
    → entries_to line y (suc k) ≡ entries_to line x k ++ (value_by e.kind e.number (part e.start e.size line) ∷ [])
unfolding entries_to
entries-more x y line k e o =
    ap₂ (λ (l : List Value) (v : Value). l ++ (v ∷ []))
    (entries-before (entries_start + k * entry_bytes) (entries_start + k * entry_bytes + entry_bytes) o.outside line k (omega arith)) (o.value line)
