-- Internal: cited by private contracts only. What the bytes of the working room stand for. Every content stands for
-- something.
use Rattle.std.specs.Prelude.{◌≡◌, Bool, true, false, List, [], ◌∷◌, ◌++◌, map, ℕ, zero, suc, ◌+◌, ◌-◌, ◌*◌, ◌/◌, ◌%◌, ◌≤◌, ◌<◌, min, length, take, drop, set}
use Rattle.edition.specs.Limits.{text_bytes, record_bytes, field_count}
use Rattle.buffer.specs.Parts.{part}
use Rattle.little_endian.specs.Words.{le_bytes, le_value}
use Rattle.number.specs.Range.{unbias, top}
use Rattle.splitting.specs.Separator.{Separator}
use Rattle.splitting.specs.Field.{Span, fields_from}
use Rattle.splitting.specs.Splitting.{text_of as span_text}
use Rattle.values.specs.Value.{Value, unset, number, text, field_text, text_of}
use Rattle.run_room.specs.Layout.{head_size, slot_bytes, slot_count, record_start, entry_bytes, entries_start, base_end}
use Rattle.run_room.specs.declared.lines.Line.{Line}

-- ---- values

-- the number in the eight bytes from an index on
unfoldable pub word_at : List ℕ → ℕ → ℕ
word_at room a = le_value (part a 8 room)

-- the value of a kind, with a number and a text
unfoldable pub value_by : ℕ → ℕ → List ℕ → Value
value_by zero w t = unset
value_by (suc zero) w t = number (unbias (min w top))
value_by (suc (suc zero)) w t = text t
value_by (suc (suc (suc k))) w t = field_text t

-- the least kind of a value
abbrev pub kind_of : Value → ℕ
kind_of unset = 0
kind_of (number z) = 1
kind_of (text l) = 2
kind_of (field_text l) = 3

abbrev pub is_number : Value → Bool
is_number unset = false
is_number (number z) = true
is_number (text l) = false
is_number (field_text l) = false

-- ---- slots

-- A head: in its first word the kind in the first byte and the length of the text in the third and fourth; then the
-- number.
unfoldable pub head_of : ℕ → ℕ → ℕ → List ℕ
head_of kind n w = le_bytes 8 (kind + 65536 * n) ++ le_bytes 8 w

abbrev pub size_in : ℕ → ℕ
size_in h = min text_bytes (h / 65536 % 65536)

unfoldable pub slot_at : List ℕ → ℕ → Value
slot_at room i =
    let h = word_at room (i * slot_bytes) in
    value_by (h % 256) (word_at room (i * slot_bytes + 8)) (part (i * slot_bytes + head_size) (size_in h) room)

-- n slots from slot i on
unfoldable pub slots_from : ℕ → ℕ → List ℕ → List Value
slots_from i zero room = []
slots_from i (suc n) room = slot_at room i ∷ slots_from (suc i) n room

-- ---- the record and its fields

unfoldable pub line_of : List ℕ → Line → List ℕ
line_of room l = part (record_start l.side) l.size room

-- An entry: in its first word where a field of the record starts, its size and its kind; then its number. `part` clips
-- it to the record.
unfoldable pub entry_at : List ℕ → List ℕ → ℕ → Value
entry_at line room k =
    let h = word_at room (entries_start + k * entry_bytes) in
    value_by (h / 4294967296 % 256) (word_at room (entries_start + k * entry_bytes + 8)) (part (h % 65536) (h / 65536 % 65536) line)

-- the first n
unfoldable pub entries_to : List ℕ → List ℕ → ℕ → List Value
entries_to line room zero = []
entries_to line room (suc n) = entries_to line room n ++ (entry_at line room n ∷ [])

-- the fields from a place of the record on
unfoldable pub pending_of : List ℕ → Separator → ℕ → List Value
pending_of line s at = map (λ (f : Span). field_text (span_text line f)) (fields_from line s at)

-- all fields: those that are known, and those that are not split off yet
unfoldable pub fields_of : List ℕ → Line → Separator → List Value
fields_of room l s = entries_to (line_of room l) room l.known ++ pending_of (line_of room l) s l.after

-- the record is in the room
pub record Placed (l : Line) : Type 0 where
  pub side : l.side < 2
  pub size : l.size ≤ record_bytes

-- Each byte that is left can be the first of one field, no more: so there are entries enough.
pub record Lined (l : Line) : Type 0 where
  pub placed : Placed l
  pub few : l.known + (suc l.size - l.after) ≤ field_count

-- ---- all of the room

pub record Store : Type 0 where
  pub slots : List Value
  pub line : List ℕ
  pub fields : List Value
  pub rest : List ℕ

unfoldable pub store_of : List ℕ → Line → Separator → Store
store_of room l s =
    record { slots = slots_from 0 slot_count room; line = line_of room l; fields = fields_of room l s; rest = drop base_end room }

-- the store with another value of a slot; with another record and other fields; and nothing else
abbrev pub with_slot : Store → ℕ → Value → Store
with_slot st i v = record { slots = set st.slots i v; line = st.line; fields = st.fields; rest = st.rest }

abbrev pub with_line : Store → List ℕ → List Value → Store
with_line st line vs = record { slots = st.slots; line = line; fields = vs; rest = st.rest }

-- ---- what is read

-- where the value of slot i is a number, it is that at distance r
pub record Numbered (room : List ℕ) (i r : ℕ) : Type 0 where
  pub within : r ≤ top
  pub value : is_number (slot_at room i) ≡ true → slot_at room i ≡ number (unbias r)

-- unless the value of slot i is a number, its text has r bytes
pub record Texted (room : List ℕ) (i r : ℕ) : Type 0 where
  pub most : r ≤ text_bytes
  pub bytes : is_number (slot_at room i) ≡ false → part (i * slot_bytes + head_size) r room ≡ text_of (slot_at room i)

-- ---- what is kept

-- the bytes before a and from e on are as they were
pub record Outside (a e : ℕ) (room room' : List ℕ) : Type 0 where
  pub size : length room' ≡ length room
  pub before : take a room' ≡ take a room
  pub after : drop e room' ≡ drop e room
