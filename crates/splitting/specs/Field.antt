-- Document 01, "Splitting": the fields of a record, each as a span of it.
use Rattle.std.specs.Prelude.{Bool, true, false, cond, not, List, [], ◌∷◌, ℕ, zero, suc, ◌+◌, ◌-◌, ◌≤◌, ◌<◌, length, drop, eqb, ltb, leb}
use Rattle.lists.specs.Elements.{one_of, leading}
use Rattle.buffer.specs.First.{first_byte}
use Rattle.ere_meaning.specs.Tree.{accepts}
use Rattle.ere_meaning.specs.Meaning.{Match, found, nowhere}
use Rattle.ere_meaning.specs.Search.{best_from}
use Rattle.splitting.specs.Separator.{Separator, blank, byte, ere}

-- `size` bytes from the place `start` on
pub record Span : Type 0 where
  pub start : ℕ
  pub size : ℕ

abbrev pub span : ℕ → ℕ → Span
span a n = record { start = a; size = n }

-- the next field, and the place from which on the one after it is looked for; or that there is none
pub data Next : Type 0 where
  field : Span → ℕ → Next
  none : Next

-- A turn goes on: the field lies in a text of `end` bytes, at or after `at`, and the next place is after both.
abbrev pub Goes : ℕ → ℕ → Next → Type 0
Goes at end (field f b) = (at ≤ f.start) × (f.start + f.size ≤ end) × (f.start + f.size ≤ b) × (at < b)
    × (b ≤ suc end)
Goes at end none = Unit

-- b is in the set, or is not
abbrev pub is_in : Bool → List ℕ → ℕ → Bool
is_in inside set b = cond inside (one_of set b) (not (one_of set b))

-- from `at` up to a separator, or up to the end
abbrev pub until_separator : ℕ → ℕ → Match → Next
until_separator at end (found s n) = field (span at (s - at)) (s + n)
until_separator at end nowhere = field (span at (end - at)) (suc end)

module _ (text : List ℕ) where
  -- "leading and trailing ones dropped"
  abbrev pub word_from : List ℕ → ℕ → Next
  word_from set s =
      let n = leading (is_in false set) (drop s text) in
      cond (ltb s (length text)) (field (span s n) (s + n)) none

  -- After the last separator there is a field, which may be empty; the place after the text's end is the one after the
  -- last field.
  unfoldable pub next_field : Separator → ℕ → Next
  next_field (blank set) at = word_from set (at + leading (is_in true set) (drop at text))
  next_field (byte b) at =
      let n = first_byte b (drop at text) in
      cond (leb at (length text)) (field (span at n) (suc (at + n))) none
  -- "each separator starts at the leftmost place after the last separator where a nonempty match exists, and is the
  -- longest there"
  next_field (ere e) at = cond (leb at (length text)) (until_separator at (length text) (best_from accepts text e at 1))
      none

  abbrev pub follow : (ℕ → List Span) → Next → List Span
  follow rest none = []
  follow rest (field f at) = f ∷ rest at

  -- the fields from a place on, in at most that number of turns
  unfoldable pub fields_in : Separator → ℕ → ℕ → List Span
  fields_in s zero at = []
  fields_in s (suc n) at = follow (fields_in s n) (next_field s at)

  -- A turn goes on by a byte at least, so these are enough.
  unfoldable pub fields_from : Separator → ℕ → List Span
  fields_from s at = fields_in s (suc (length text) - at) at

  -- "An empty record has no fields."
  unfoldable pub fields_of : Separator → List Span
  fields_of s = cond (eqb (length text) 0) [] (fields_from s 0)
