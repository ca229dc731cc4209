-- Internal: cited by private contracts only. What is where in the working room, in bytes. Document 01 gives its size
-- alone; src/layout.rt has the same constants.
use Rattle.std.specs.Prelude.{ℕ, ◌+◌, ◌*◌}
use Rattle.edition.specs.Limits.{text_bytes, operand_depth, user_names, field_count}

-- a block: copies inside the room go in whole ones
abbrev pub block_size : ℕ
block_size = 16

-- a slot: a head, a text, and a block that copies may write to
abbrev pub head_size : ℕ
head_size = 16

abbrev pub slot_bytes : ℕ
slot_bytes = head_size + text_bytes + block_size

-- slots of operands, then of variables: nine for those of the rules' own, of which editions have up to that many
abbrev pub special_slots : ℕ
special_slots = 9

abbrev pub slot_count : ℕ
slot_count = operand_depth + special_slots + user_names

abbrev pub slots_end : ℕ
slots_end = slot_count * slot_bytes

-- two more slots, of which one is the record: where its bytes are
abbrev pub record_start : ℕ → ℕ
record_start side = (slot_count + side) * slot_bytes + head_size

-- an entry for each field
abbrev pub entry_bytes : ℕ
entry_bytes = 16

abbrev pub entries_start : ℕ
entries_start = (slot_count + 2) * slot_bytes

-- the end of what the base uses; the bytes from here on are kept by all that is here
abbrev pub base_end : ℕ
base_end = entries_start + field_count * entry_bytes
