-- Internal: cited by private contracts only. Variables: variable v is slot operand_depth + v.
use Rattle.std.specs.Prelude.{◌≡◌, List, ℕ, ◌+◌}
use Rattle.std.proofs.Math.Option.{some}
use Rattle.lists.specs.Elements.{nth}
use Rattle.edition.specs.Limits.{operand_depth}
use Rattle.splitting.specs.Separator.{Separator}
use Rattle.separators.specs.Kinds.{Tells}
use Rattle.separators.specs.declared.kinds.Kind.{Kind}
use Rattle.values.specs.Value.{Value, text_of}
use Rattle.semantics.specs.World.{World, record_of}
use Rattle.run_room.specs.Room.{slot_at, line_of, fields_of, store_of, with_slot}
use Rattle.run_room.specs.declared.lines.Line.{Line}
use Rattle.run_lines.specs.Records.{fs_slot, InForce, Forced}

-- what is told of the world: its variables are those of the slots, its record that of the room, and so many records
-- were begun
pub record Known (x : List ℕ) (l : Line) (s : Separator) (records : ℕ) (w : World) : Type 0 where
  pub variables : (v : ℕ) (a : Value) → nth w.variables v ≡ some a → slot_at x (operand_depth + v) ≡ a
  pub current : w.current ≡ record_of (line_of x l) (fields_of x l s)
  pub count : w.feed.count ≡ records

-- the text of FS
abbrev pub fs_of : List ℕ → List ℕ
fs_of room = text_of (slot_at room fs_slot)

-- Variable v has become the value of slot a; t' and kind' are for what FS is now.
abbrev pub Assigns : ℕ → List ℕ → List ℕ → Kind → Kind → List ℕ → List ℕ → Line → Line → ℕ → ℕ → Type 0
Assigns edition t t' kind kind' x y l r v a =
    Tells edition (fs_of x) t kind
    → Tells edition (fs_of y) t' kind'
    × (Forced edition (fs_of x) l → Forced edition (fs_of y) r)
    × ((s s' : Separator) → InForce edition (fs_of x) l s → InForce edition (fs_of y) r s'
    → store_of y r s' ≡ with_slot (store_of x l s) (operand_depth + v) (slot_at x a))
