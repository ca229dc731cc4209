-- `columns`: what is counted, and the columns of what is left, are those of the list.
use mathlib.Core.Path.{◌≡◌}
use Prim.Native.Nat.{◌+◌, ◌*◌, ◌≤◌}
use lib.ListN.{drop}
use Rattle.front_places.specs.Shown.{columns_of}
use Rattle.front_places.proofs.shown.columns.Given as goal

abbrev pub invariant-loop-b : goal.invariant-loop-b
invariant-loop-b l = (l.n ≤ 4 * l.b-index) × (columns_of l.s ≡ l.n + columns_of (drop l.b-index l.s))
