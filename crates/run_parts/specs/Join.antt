-- Internal: cited by private contracts only. The fields after an assignment, and the rooms on the way.
use Rattle.std.specs.Prelude.{◌≡◌, ◌⊎◌, Bool, true, false, cond, List, [], ◌∷◌, ◌++◌, ℕ, zero, suc, ◌+◌, ◌-◌, ◌*◌, ◌≤◌, ◌<◌, length, eqb, ltb}
use Rattle.edition.specs.Limits.{text_bytes}
use Rattle.buffer.specs.Parts.{part}
use Rattle.values.specs.Value.{Value, unset, text_of}
use Rattle.semantics.specs.Operations.{joined}
use Rattle.run_room.specs.Layout.{slot_bytes, slot_count, slots_end, record_start, entries_start, entry_bytes, base_end}
use Rattle.run_room.specs.Room.{slot_at, line_of, entry_at, entries_to, Outside}
use Rattle.run_room.specs.Held.{EntryHeld}
use Rattle.run_room.specs.declared.lines.Line.{Line}
use Rattle.run_parts.specs.declared.parts.Part.{Part}

-- field i, from 0 on, where field k is the value of slot v
unfoldable pub new_field : List ℕ → Line → ℕ → ℕ → ℕ → Value
new_field x l k v i = cond (eqb i k) (slot_at x v) (cond (ltb i l.known) (entry_at (line_of x l) x i) unset)

unfoldable pub new_fields : List ℕ → Line → ℕ → ℕ → ℕ → List Value
new_fields x l k v zero = []
new_fields x l k v (suc n) = new_fields x l k v n ++ (new_field x l k v n ∷ [])

-- what is before field i
unfoldable pub gap_of : List ℕ → ℕ → List ℕ
gap_of between i = cond (eqb i 0) [] between

-- the definition's text of fields with another between them
unfoldable pub joined_text : List ℕ → List Value → List ℕ
joined_text between fs = joined between fs

-- the sizes of the texts of values, taken together
unfoldable pub texts_size : List Value → ℕ
texts_size [] = 0
texts_size (v ∷ vs) = length (text_of v) + texts_size vs

-- where the slot of a record ends
abbrev pub record_end : ℕ → ℕ
record_end side = (slot_count + side) * slot_bytes + slot_bytes

-- bytes t after the first `at` of a record
pub record Grown (x y : List ℕ) (side at : ℕ) (t : List ℕ) : Type 0 where
  pub outside : Outside (record_start side + at) (record_end side) x y
  pub text : part (record_start side) (at + length t) y ≡ part (record_start side) at x ++ t

-- a value whose text isn't in the record of that side
pub record PartOf (side : ℕ) (p : Part) : Type 0 where
  pub size : p.size ≤ text_bytes
  pub fits : p.from + p.size + 15 ≤ entries_start
  pub apart : (p.from + p.size + 15 ≤ record_start side) ⊎ (record_end side ≤ p.from)

-- field i has been joined: the text first, then its entry
pub record Turned (x z : List ℕ) (l : Line) (k v i at r : ℕ) (between : List ℕ) : Type 0 where
  pub mid : List ℕ
  pub place : r ≡ at + length (gap_of between i) + length (text_of (new_field x l k v i))
  pub grown : Grown x mid (1 - l.side) at (gap_of between i ++ text_of (new_field x l k v i))
  pub entry : Outside (entries_start + i * entry_bytes) (entries_start + i * entry_bytes + entry_bytes) mid z
  pub value : (line : List ℕ)
      → part (at + length (gap_of between i)) (length (text_of (new_field x l k v i))) line ≡ text_of (new_field x l k v i)
      → entry_at line z i ≡ new_field x l k v i
  pub held : (line : List ℕ) → EntryHeld line z i

-- n fields have been joined
pub record Joins (x y : List ℕ) (l : Line) (k v : ℕ) (between : List ℕ) (n at : ℕ) : Type 0 where
  pub outside : Outside slots_end base_end x y
  pub line : line_of y l ≡ line_of x l
  pub later : Outside 0 (entries_start + n * entry_bytes) x y
  pub place : at ≡ length (joined_text between (new_fields x l k v n))
  pub text : part (record_start (1 - l.side)) at y ≡ joined_text between (new_fields x l k v n)
  pub known : (tail : List ℕ) → entries_to (joined_text between (new_fields x l k v n) ++ tail) y n ≡ new_fields x l k v n
  pub held : (line : List ℕ) (j : ℕ) → j < n → EntryHeld line y j

-- r is the size of the first n fields joined, with m bytes between them, or both are more than a text may have
pub record Measured (x : List ℕ) (l : Line) (k v n m r : ℕ) : Type 0 where
  pub short : r ≤ text_bytes → (b : List ℕ) → length b ≡ m → r ≡ length (joined_text b (new_fields x l k v n))
  pub long : text_bytes < r → (b : List ℕ) → length b ≡ m → text_bytes < length (joined_text b (new_fields x l k v n))

-- r tells whether the first n fields joined, with m bytes between them, are more than a text may have
pub record TooLong (x : List ℕ) (l : Line) (k v n m : ℕ) (r : Bool) : Type 0 where
  pub short : r ≡ false → (b : List ℕ) → length b ≡ m → length (joined_text b (new_fields x l k v n)) ≤ text_bytes
  pub long : r ≡ true → (b : List ℕ) → length b ≡ m → text_bytes < length (joined_text b (new_fields x l k v n))
