-- Internal: cited by private contracts only. Document 01, "Values": a field that is assigned, as the definition has it.
use Rattle.std.specs.Prelude.{◌≡◌, List, [], ◌∷◌, ℕ, ◌+◌}
use Rattle.splitting.specs.Separator.{Separator}
use Rattle.separators.specs.Kinds.{Tells}
use Rattle.separators.specs.declared.kinds.Kind.{Kind}
use Rattle.values.specs.Value.{stop, Result, gives, stops, text_of}
use Rattle.semantics.specs.World.{World, record_of, special}
use Rattle.semantics.specs.Variables.{FS, OFS}
use Rattle.semantics.specs.Operations.{Effect, assigned, set_field}
use Rattle.run_room.specs.Room.{slot_at, line_of, fields_of, store_of, with_slot, with_line}
use Rattle.run_room.specs.Held.{Did}
use Rattle.run_room.specs.declared.lines.Line.{Line}
use Rattle.run_lines.specs.Records.{ofs_slot, Safe, InForce, Forced, Same, Becomes}

-- what is told of the world: its record is that of the room, and FS and OFS are those of their slots
pub record Stands (edition : ℕ) (t : List ℕ) (kind : Kind) (x : List ℕ) (l : Line) (s : Separator)
    (w : World) : Type 0 where
  pub tells : Tells edition (special w FS) t kind
  pub force : InForce edition (special w FS) l s
  pub current : w.current ≡ record_of (line_of x l) (fields_of x l s)
  pub between : special w OFS ≡ text_of (slot_at x ofs_slot)

-- field k has become the value of slot v
abbrev pub Assigns : ℕ → List ℕ → Kind → List ℕ → List ℕ → Line → Line → ℕ → ℕ → ℕ → Type 0
Assigns edition t kind x y l r k v outcome =
    Did x l y r (Safe x y r)
    ((s : Separator) (w : World) → Stands edition t kind x l s w
    → Becomes edition (special w FS) x y l r outcome (assigned edition w k (slot_at x v)))

-- The world has another record, for which a separator is in force, and the value is left in slot a; or it stops, and
-- nothing has changed.
abbrev pub Effected : ℕ → List ℕ → List ℕ → List ℕ → Line → Line → ℕ → ℕ → Result Effect → Type 0
Effected edition fs x y l r a outcome (gives e) =
    (outcome ≡ 0) × (Forced edition fs r) × (e.left ≡ slot_at x (a + 1) ∷ [])
    × ((s s' : Separator) → InForce edition fs r s'
    → store_of y r s' ≡ with_slot (with_line (store_of x l s) e.world.current.line e.world.current.fields) a
    (slot_at x (a + 1)))
Effected edition fs x y l r a outcome (stops z) = (z ≡ stop outcome) × (outcome ≡ 0 → ⊥) × (Same edition fs x y l r)

abbrev pub Stores : ℕ → List ℕ → Kind → List ℕ → List ℕ → Line → Line → ℕ → ℕ → Type 0
Stores edition t kind x y l r a outcome =
    Did x l y r (Safe x y r)
    ((s : Separator) (w : World) → Stands edition t kind x l s w
    → Effected edition (special w FS) x y l r a outcome (set_field edition (slot_at x a) (slot_at x (a + 1)) w))
