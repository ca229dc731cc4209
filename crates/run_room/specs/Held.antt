-- Internal: cited by private contracts only. What an operation does to the room. Beside its value a slot or an entry
-- may keep what was found out about it; what is kept is true if the bytes are those that operations left, and an
-- operation says its equation under that. Nothing is kept yet: a later edition of this crate says what.
use Rattle.std.specs.Prelude.{◌≡◌, List, ℕ, ◌+◌, ◌*◌, ◌≤◌, ◌<◌}
use Rattle.edition.specs.Limits.{text_bytes}
use Rattle.buffer.specs.Parts.{part}
use Rattle.values.specs.Value.{Value, text_of}
use Rattle.run_room.specs.Layout.{head_size, slot_bytes, slot_count, entry_bytes, entries_start}
use Rattle.run_room.specs.Room.{value_by, slot_at, line_of, entry_at, Outside}
use Rattle.run_room.specs.declared.lines.Line.{Line}
use Rattle.run_room.specs.declared.entries.Entry.{Entry}

-- ---- what is kept is true

-- of slot i
unfoldable pub SlotHeld : List ℕ → ℕ → Type 0
SlotHeld room i = Unit {0}

-- of entry k, for a record's bytes
unfoldable pub EntryHeld : List ℕ → List ℕ → ℕ → Type 0
EntryHeld line room k = Unit {0}

-- of all slots, and of the entries that are known
pub record Held (room : List ℕ) (l : Line) : Type 0 where
  pub slots : (i : ℕ) → i < slot_count → SlotHeld room i
  pub entries : (k : ℕ) → k < l.known → EntryHeld (line_of room l) room k

-- ---- operations

-- A room x with record l has become y with record r. What is safe holds for any bytes; the equation, and what is kept,
-- where what was kept is true.
pub record Did (x : List ℕ) (l : Line) (y : List ℕ) (r : Line) (Safe Equation : Type 0) : Type 0 where
  pub safe : Safe
  pub next : Held x l → (Held y r) × Equation

-- ---- parts of operations

-- Slot i has become v, and nothing else has changed. What it keeps is true if what it was taken from is.
pub record Slotted (room room' : List ℕ) (i : ℕ) (v : Value) (From : Type 0) : Type 0 where
  pub outside : Outside (i * slot_bytes) (i * slot_bytes + slot_bytes) room room'
  pub value : slot_at room' i ≡ v
  pub held : From → SlotHeld room' i

-- The value of slot i is as it was, as is all else, and its text is in the slot and has r bytes.
pub record Shown (room room' : List ℕ) (i r : ℕ) : Type 0 where
  pub slotted : Slotted room room' i (slot_at room i) (SlotHeld room i)
  pub most : r ≤ text_bytes
  pub bytes : part (i * slot_bytes + head_size) r room' ≡ text_of (slot_at room i)

-- Entry k has become e, and nothing else has changed.
pub record Entered (room room' : List ℕ) (k : ℕ) (e : Entry) : Type 0 where
  pub outside : Outside (entries_start + k * entry_bytes) (entries_start + k * entry_bytes + entry_bytes) room room'
  pub value : (line : List ℕ) → entry_at line room' k ≡ value_by e.kind e.number (part e.start e.size line)
  pub held : (line : List ℕ) → EntryHeld line room' k

-- e is entry k, and its span is in the record.
pub record Reads (room : List ℕ) (l : Line) (k : ℕ) (e : Entry) : Type 0 where
  pub inside : e.start + e.size ≤ l.size
  pub value : value_by e.kind e.number (part e.start e.size (line_of room l)) ≡ entry_at (line_of room l) room k
