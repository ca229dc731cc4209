-- Internal: cited by private contracts only. A room for the spans of fields.
use Rattle.std.specs.Prelude.{cond, ◌&&◌, List, [], ◌∷◌, ℕ, suc, ◌+◌, ◌-◌, ◌*◌, length, set, ltb, leb}
use Rattle.std.proofs.Math.Option.{Option, some, none}
use Rattle.edition.specs.Limits.{record_bytes, field_count}
use Rattle.splitting.specs.Separator.{Separator, separator_of}
use Rattle.splitting.specs.Field.{Span, fields_of}

-- The room with the span of field k, counted from 0, if it has words for it: it is a room for the fields from `first`
-- on, in two words each.
abbrev pub with_span : List ℕ → ℕ → ℕ → Span → List ℕ
with_span room first k f =
    let i = 2 * (k - first) in
    let full = set (set room i f.start) (i + 1) f.size in
    cond (ltb k field_count && (leb first k && ltb (i + 1) (length room))) full room

-- with the spans of fields, the first of which is field k
unfoldable pub with_spans : List ℕ → ℕ → ℕ → List Span → List ℕ
with_spans room first k [] = room
with_spans room first k (f ∷ fs) = with_spans (with_span room first k f) first (suc k) fs

-- how many fields, or one more than there may be
abbrev pub up_to_many : ℕ → ℕ
up_to_many n = cond (leb n field_count) n (suc field_count)

-- the room after a record is split, refused or not
abbrev pub spans_of : List ℕ → ℕ → List ℕ → Option Separator → List ℕ
spans_of room first text none = room
spans_of room first text (some s) = with_spans room first 0 (fields_of text s)

abbrev pub room_of : ℕ → List ℕ → List ℕ → ℕ → List ℕ → List ℕ
room_of edition separator text first room =
    cond (leb (length text) record_bytes) (spans_of room first text (separator_of edition separator)) room
