-- Internal: cited by private contracts only. What holds while a group is read: the trees so far, in the table, and what
-- is left to read gives what the whole gives.
use Rattle.std.specs.Prelude.{◌≡◌, Bool, true, false, Option as Answer, Some, None, List, [], ◌∷◌, ℕ, ◌+◌, ◌≤◌, ◌<◌, length, drop}
use Rattle.std.proofs.Math.Option.{Option, some, none}
use Rattle.lists.specs.Parsing.{Parsed, parsed}
use Rattle.edition.specs.Limits.{ere_places}
use Rattle.ere_meaning.specs.Tree.{Class, Ere, places}
use Rattle.ere_grammar.specs.Read.{Tree}
use Rattle.ere_table.specs.Table.{row, accepts_at}
use Rattle.ere_parser.specs.Reading.{rest_from}
use Rattle.ere_pieces.specs.State.{no_alts, no_seq}
use Rattle.ere_parser.specs.Built.{Built}
use Rattle.ere_pieces.specs.declared.rows.Entry.{Entry}
use Rattle.ere_pieces.specs.declared.rows.Piece.{Piece}
use Rattle.ere_pieces.specs.declared.rows.State.{State}

-- the places of what may be there
unfoldable pub size_of : Option (Ere Class) → ℕ
size_of none = 0
size_of (some e) = places e

-- where a group begins: its first place, the places and anchors before it, and what the definition reads
pub record Base : Type 0 where
  pub lo : ℕ
  pub count : ℕ
  pub goal : Tree

-- the definition reads nothing, or too many places
pub data Refuses (b : Base) : Type 0 where
  unread : b.goal ≡ none → Refuses b
  many : (g : Parsed (Ere Class)) → b.goal ≡ some g → ere_places < b.count + places g.value → Refuses b

unfoldable pub AltsOk : List ℕ → ℕ → ℕ → Entry → Option (Ere Class) → Type 0
AltsOk t lo hi x none = (lo ≡ hi) × (x ≡ no_alts)
AltsOk t lo hi x (some e) = Built t lo hi x e

unfoldable pub SeqOk : List ℕ → ℕ → ℕ → Entry → Bool → Option (Ere Class) → Type 0
SeqOk t lo hi x s none = (s ≡ false) × (lo ≡ hi) × (x ≡ no_seq)
SeqOk t lo hi x s (some e) = (s ≡ true) × (Built t lo hi x e)

pub record Standing (l : List ℕ) (n : ℕ) (b : Base) (t : List ℕ) (s : State) : Type 0 where
  pub A : Option (Ere Class)
  pub S : Option (Ere Class)
  pub same : rest_from n A S (drop s.at l) ≡ b.goal
  pub counted : b.count + (size_of A + size_of S) ≡ s.count
  pub alts_ok : AltsOk t b.lo s.lo s.alts A
  pub seq_ok : SeqOk t s.lo s.hi s.seq s.some S

-- a group ends before a `)` or at the end
pub data Closed : List ℕ → Type 0 where
  at-end : Closed []
  at_paren : {t : List ℕ} → Closed (41 ∷ t)

-- sizes
pub record Safe (l : List ℕ) (s : State) : Type 0 where
  pub order : s.lo ≤ s.hi
  pub fewer : s.hi ≤ s.count
  pub few : s.count ≤ ere_places
  pub inside : s.at ≤ length l

-- the rows and classes of the places below lo are as they were
pub record SameBelow (lo : ℕ) (t u : List ℕ) : Type 0 where
  pub rows : (r : ℕ) → r < lo + 2 → row u r ≡ row t r
  pub classes : (p b : ℕ) → p < lo → b < 256 → accepts_at u p b ≡ accepts_at t p b

-- a turn that goes on: from s with the table t to r with the table u
pub record Moves (l : List ℕ) (n : ℕ) (t u : List ℕ) (s r : State) : Type 0 where
  pub safe : Safe l r
  pub kept : SameBelow s.lo t u
  pub later : s.lo ≤ r.lo
  pub ahead : s.at < r.at
  pub means : (b : Base) → b.lo ≤ s.lo → Standing l n b t s → Standing l n b u r

-- one turn: it goes on, or the definition refuses
abbrev pub Turns : List ℕ → ℕ → List ℕ → List ℕ → State → Answer State → Type 0
Turns l n t u s None = (SameBelow s.lo t u) × ((b : Base) → Standing l n b t s → Refuses b)
Turns l n t u s (Some r) = Moves l n t u s r

-- where a group from at on begins, whose first place is lo, with count places and anchors before it
abbrev pub base_of : List ℕ → ℕ → ℕ → ℕ → ℕ → Base
base_of l n at lo count = record { lo = lo; count = count; goal = rest_from n none none (drop at l) }

-- while that group is read: the table was t₀ and is t
pub record Under (l : List ℕ) (n at lo count : ℕ) (t₀ t : List ℕ) (s : State) : Type 0 where
  pub safe : Safe l s
  pub later : lo ≤ s.lo
  pub onward : at ≤ s.at
  pub kept : SameBelow lo t₀ t
  pub means : Standing l n (base_of l n at lo count) t s

-- a group that was read: its bytes are those from at on
pub record GroupRead (l : List ℕ) (n at lo count : ℕ) (t u : List ℕ) (r : Piece) : Type 0 where
  pub order : lo ≤ r.hi
  pub fewer : r.hi ≤ r.count
  pub few : r.count ≤ ere_places
  pub from : at ≤ r.at
  pub inside : r.at ≤ length l
  pub kept : SameBelow lo t u
  pub read : (e : Ere Class) × (rest_from n none none (drop at l) ≡ parsed e (drop r.at l)) × (count + places e ≡ r.count)
      × (Built u lo r.hi r.entry e) × (Closed (drop r.at l))

-- the answer for a group: it was read, or the definition refuses
abbrev pub GroupReads : List ℕ → ℕ → ℕ → ℕ → ℕ → List ℕ → List ℕ → Answer Piece → Type 0
GroupReads l n at lo count t u None = (SameBelow lo t u) × Refuses (base_of l n at lo count)
GroupReads l n at lo count t u (Some r) = GroupRead l n at lo count t u r

-- a byte that begins one
pub record Begins (b : ℕ) : Type 0 where
  pub no_close : b ≡ 41 → ⊥
  pub no_bar : b ≡ 124 → ⊥
  pub no_bol : b ≡ 94 → ⊥
  pub no_eol : b ≡ 36 → ⊥
  pub no_open : b ≡ 40 → ⊥
