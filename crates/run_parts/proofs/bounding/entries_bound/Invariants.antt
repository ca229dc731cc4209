-- `entries_bound` meets its contract: a bound of the first i.
use mathlib.Core.List.{List}
use Prim.Native.Nat.{ℕ, ◌*◌, ◌≤◌}
use Rattle.run_room.specs.Room.{entries_to}
use Rattle.run_parts.specs.Join.{texts_size}
use Rattle.run_parts.proofs.bounding.entries_bound.Given as goal

abbrev pub invariant-loop-i : goal.invariant-loop-i
invariant-loop-i l = (l.i ≤ l.n) × (l.sum ≤ l.i * 65536) × ((line : List ℕ) → texts_size (entries_to line l.work l.i) ≤ l.sum)
