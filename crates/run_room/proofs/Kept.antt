-- The laws that open what slots and entries keep beside their values. Nothing is kept yet, so each is at hand.
use mathlib.Core.Path.{◌≡◌}
use mathlib.Core.List.{List}
use Prim.Native.Nat.{ℕ, ◌+◌, ◌*◌}
use Rattle.buffer.specs.Parts.{part}
use Rattle.run_room.specs.Layout.{head_size, slot_bytes, entry_bytes, entries_start}
use Rattle.run_room.specs.Room.{word_at, size_in}
use Rattle.run_room.specs.Held.{SlotHeld, EntryHeld}

-- a head or an entry that is written anew keeps nothing
pub fresh-slot : (room : List ℕ) (i : ℕ) → SlotHeld room i
unfolding SlotHeld
fresh-slot room i = tt

pub fresh-entry : (line room : List ℕ) (k : ℕ) → EntryHeld line room k
unfolding EntryHeld
fresh-entry line room k = tt

-- head and text go over to another slot, or stay
pub copied-slot : (x y : List ℕ) (j i n : ℕ) → n ≡ size_in (word_at x (j * slot_bytes))
    → part (i * slot_bytes) (head_size + n) y ≡ part (j * slot_bytes) (head_size + n) x → SlotHeld x j → SlotHeld y i
unfolding SlotHeld
copied-slot x y j i n e f h = h

-- an entry stays, for a record with the same bytes
pub kept_entry : (line x y : List ℕ) (k : ℕ)
    → part (entries_start + k * entry_bytes) entry_bytes y ≡ part (entries_start + k * entry_bytes) entry_bytes x → EntryHeld line x k → EntryHeld line y k
unfolding EntryHeld
kept_entry line x y k e h = h
