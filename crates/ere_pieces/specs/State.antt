-- Internal: cited by private contracts only. What the reader keeps while it reads a group, and what each part of it
-- does.
use Rattle.std.specs.Prelude.{Bool, true, false, cond, Option, Some, None, List, ℕ, ◌+◌, ◌-◌, get_or, eqb, leb}
use Rattle.edition.specs.Limits.{ere_places}
use Rattle.ere_table.specs.Table.{no_place, join}
use Rattle.ere_table.specs.Build.{link, or_stop, accept, accept_at_end, single, link_rows, with_row, with_class}
use Rattle.ere_pieces.specs.declared.rows.Entry.{Entry}
use Rattle.ere_pieces.specs.declared.rows.Piece.{Piece}
use Rattle.ere_pieces.specs.declared.rows.State.{State}

abbrev pub entry : List ℕ → List ℕ → Entry
entry f l = record { first = f; later = l }

abbrev pub join_entry : Entry → Entry → Entry
join_entry a b = entry (join a.first b.first) (join a.later b.later)

abbrev pub link_entry : Entry → Entry → Entry
link_entry a b = entry (link a.first b.first) (link a.later b.later)

abbrev pub stop_entry : Entry → Entry
stop_entry a = entry (or_stop a.first) (or_stop a.later)

-- no alternative; no piece; a place; the anchors
abbrev pub no_alts : Entry
no_alts = entry no_place no_place

abbrev pub no_seq : Entry
no_seq = entry accept accept

abbrev pub place_entry : ℕ → Entry
place_entry p = entry (single p) (single p)

abbrev pub bol_entry : Entry
bol_entry = entry accept no_place

abbrev pub eol_entry : Entry
eol_entry = entry accept_at_end accept_at_end

-- a state of reading a group
abbrev pub state : Bool → ℕ → ℕ → ℕ → ℕ → Entry → Entry → State
state some at lo hi count alts seq =
    record {
      some = some;
      at = at;
      lo = lo;
      hi = hi;
      count = count;
      alts = alts;
      seq = seq;
    }

-- the state with which a group is begun
abbrev pub start_of : ℕ → ℕ → ℕ → State
start_of at lo count = state false at lo lo count no_alts no_seq

-- one alternative more
abbrev pub bar_of : State → State
bar_of s = state false (s.at + 1) s.hi s.hi s.count (join_entry s.alts s.seq) no_seq

-- one piece more, whose places start where those of the sequence end
abbrev pub pushed_of : State → Piece → State
pushed_of s g = state true g.at s.lo g.hi g.count s.alts (link_entry s.seq g.entry)

abbrev pub pushed_table : State → Piece → List ℕ → List ℕ
pushed_table s g t = link_rows t (s.lo + 2) (s.hi - s.lo) g.entry.later

-- a piece with the byte after it that repeats it, if one does
abbrev pub piece_of : ℕ → ℕ → ℕ → Entry → Piece
piece_of at hi count e = record { at = at; hi = hi; count = count; entry = e }

abbrev pub repeated_of : ℕ → Piece → Piece
repeated_of b g =
    cond (eqb b 42) (piece_of (g.at + 1) g.hi g.count (stop_entry g.entry))
    (cond (eqb b 43) (piece_of (g.at + 1) g.hi g.count g.entry)
    (cond (eqb b 63) (piece_of (g.at + 1) g.hi g.count (stop_entry g.entry)) g))

abbrev pub loop_table : Piece → ℕ → List ℕ → List ℕ
loop_table g lo t = link_rows t (lo + 2) (g.hi - lo) (or_stop g.entry.later)

abbrev pub repeated_table : ℕ → Piece → ℕ → List ℕ → List ℕ
repeated_table b g lo t = cond (eqb b 42) (loop_table g lo t) (cond (eqb b 43) (loop_table g lo t) t)

-- a place with a class: its row has the accept bits
abbrev pub leaf_table : ℕ → List ℕ → List ℕ → List ℕ
leaf_table p words t = with_row (with_class t p words) (p + 2) accept

-- an anchor more
abbrev pub anchor_piece : State → Entry → Piece
anchor_piece s x = piece_of (s.at + 1) s.hi (s.count + 1) x

abbrev pub anchor_of : State → Entry → Option State
anchor_of s x = cond (leb ere_places s.count) None (Some (pushed_of s (anchor_piece s x)))

abbrev pub anchor_table : State → Entry → List ℕ → List ℕ
anchor_table s x t = cond (leb ere_places s.count) t (pushed_table s (anchor_piece s x) t)

-- a group g more, read from s on
abbrev pub closed_piece : Piece → Piece
closed_piece g = piece_of (g.at + 1) g.hi g.count g.entry

abbrev pub grouped_of : List ℕ → State → Option Piece → Option State
grouped_of l s None = None
grouped_of l s (Some g) =
    cond (eqb (get_or l g.at 0) 41) (Some (pushed_of s (repeated_of (get_or l (g.at + 1) 0) (closed_piece g)))) None

abbrev pub grouped_table : List ℕ → State → Option Piece → List ℕ → List ℕ
grouped_table l s None t = t
grouped_table l s (Some g) t =
    cond (eqb (get_or l g.at 0) 41)
    (pushed_table s (repeated_of (get_or l (g.at + 1) 0) (closed_piece g))
    (repeated_table (get_or l (g.at + 1) 0) (closed_piece g) s.hi t)) t

-- a place more, with a class that ends before next, and with the byte b after it
abbrev pub leaf_piece : State → ℕ → Piece
leaf_piece s next = piece_of next (s.hi + 1) (s.count + 1) (place_entry s.hi)

abbrev pub atom_table : State → List ℕ → Piece → ℕ → List ℕ → List ℕ
atom_table s words g b t = pushed_table s (repeated_of b g) (repeated_table b g s.hi (leaf_table s.hi words t))

-- the end of a group: the alternatives with the sequence
abbrev pub finish_of : State → Option Piece
finish_of s = cond s.some (Some (piece_of s.at s.hi s.count (join_entry s.alts s.seq))) None

abbrev pub choice_of : State → Option State
choice_of s = cond s.some (Some (bar_of s)) None
