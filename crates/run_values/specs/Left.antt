-- Internal: cited by private contracts only. What an operation on values leaves in the working room.
use Rattle.std.specs.Prelude.{◌≡◌, List, ℕ, length}
use Rattle.splitting.specs.Separator.{Separator}
use Rattle.values.specs.Value.{Value, stop, Result, gives, stops}
use Rattle.run_room.specs.Room.{Store, store_of, with_slot}
use Rattle.run_room.specs.Held.{Did}
use Rattle.run_room.specs.declared.lines.Line.{Line}

-- A room x has become y, whose record is the same one: what is safe is its size, and the equation is one of what the
-- rooms stand for.
abbrev pub Kept : List ℕ → List ℕ → (Store → Store → Type 0) → Type 0
Kept x y E = (l : Line) → Did x l y l (length y ≡ length x) ((s : Separator) → E (store_of x l s) (store_of y l s))

-- A value is left in slot a; or the operation stops with the outcome, and nothing has changed.
abbrev pub LeftBy : Result Value → ℕ → ℕ → Store → Store → Type 0
LeftBy (gives v) a outcome before after = (outcome ≡ 0) × (after ≡ with_slot before a v)
LeftBy (stops z) a outcome before after = (z ≡ stop outcome) × (outcome ≡ 0 → ⊥) × (after ≡ before)

-- what an operation has done that takes operands from slot a on, and answers an outcome
abbrev pub Left : List ℕ → List ℕ → ℕ → ℕ → Result Value → Type 0
Left x y a outcome v = Kept x y (LeftBy v a outcome)

-- nothing has changed
abbrev pub Unchanged : List ℕ → List ℕ → Type 0
Unchanged x y = Kept x y (λ before after. after ≡ before)
