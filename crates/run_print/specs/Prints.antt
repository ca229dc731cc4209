-- Internal: cited by private contracts only. What print writes to the output that is left.
use Rattle.std.specs.Prelude.{◌≡◌, List, [], ◌++◌, ℕ, ◌+◌, ◌-◌, ◌*◌, ◌≤◌, ◌<◌, length, drop}
use Rattle.std.specs.Prelude.{Result as Printed, Ok, Err}
use Rattle.edition.specs.Limits.{text_bytes, operand_depth}
use Rattle.edition.specs.Outcomes.{output_room_too_small}
use Rattle.buffer.specs.Parts.{part}
use Rattle.splitting.specs.Separator.{Separator}
use Rattle.values.specs.Value.{short_by, Result, gives, stops, text_of}
use Rattle.semantics.specs.Variables.{OFS, ORS}
use Rattle.semantics.specs.World.{World, with_output, special}
use Rattle.semantics.specs.Operations.{Effect, effect, joined}
use Rattle.run_room.specs.Layout.{head_size, slot_bytes, slot_count}
use Rattle.run_room.specs.Room.{slot_at, slots_from, store_of}
use Rattle.run_room.specs.Held.{Held}
use Rattle.run_room.specs.declared.lines.Line.{Line}
use Rattle.run_lines.specs.Records.{ofs_slot}

abbrev pub ors_slot : ℕ
ors_slot = operand_depth + ORS

-- ---- texts in slots

-- the text of slot i has n bytes, and they are in the slot
pub record InSlot (room : List ℕ) (i n : ℕ) : Type 0 where
  pub most : n ≤ text_bytes
  pub bytes : part (i * slot_bytes + head_size) n room ≡ text_of (slot_at room i)

-- Texts were shown: each value, each text that was in its slot, and all that the room stands for are as they were.
pub record Kept (x y : List ℕ) : Type 0 where
  pub size : length y ≡ length x
  pub slots : (i : ℕ) → i < slot_count → slot_at y i ≡ slot_at x i
  pub texts : (i n : ℕ) → i < slot_count → InSlot x i n → InSlot y i n
  pub store : (l : Line) (s : Separator) → store_of y l s ≡ store_of x l s
  pub held : (l : Line) → Held x l → Held y l

-- the text of OFS
abbrev pub ofs_of : List ℕ → List ℕ
ofs_of room = text_of (slot_at room ofs_slot)

-- the texts of n slots from slot i on, with OFS between them
unfoldable pub line_from : ℕ → ℕ → List ℕ → List ℕ
line_from i n room = joined (ofs_of room) (slots_from i n room)

-- ---- print

-- OFS and ORS are those of their slots, and o is the output that is left
pub record Writes (x o : List ℕ) (w : World) : Type 0 where
  pub between : special w OFS ≡ text_of (slot_at x ofs_slot)
  pub ending : special w ORS ≡ text_of (slot_at x ors_slot)
  pub room : w.output.room ≡ length o

-- how many bytes were written
abbrev pub written : Printed ℕ ℕ → ℕ
written (Ok k) = k
written (Err k) = 0

-- The definition's print wrote the same bytes to the front of the output; or it stops, as many bytes short, and nothing
-- was written.
abbrev pub PrintedBy : World → List ℕ → List ℕ → Printed ℕ ℕ → Result Effect → Type 0
PrintedBy w o o' (Ok k) r =
    (line : List ℕ) × (length line ≡ k) × (o' ≡ line ++ drop k o)
    × (r ≡ gives (effect [] (with_output w (w.output.bytes ++ line) (length o - k))))
PrintedBy w o o' (Err k) r = (o' ≡ o) × (r ≡ stops (short_by k output_room_too_small))
