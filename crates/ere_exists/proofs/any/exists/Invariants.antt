-- `exists` meets its contract: if the table is sealed, live is what may come next at i after the starts before i, and
-- no walk could stop before i.
use mathlib.Core.Bool.{false}
use mathlib.Core.Path.{◌≡◌}
use Prim.Native.Nat.{ℕ, ◌-◌, ◌≤◌, ◌<◌}
use lib.ListN.{length}
use Rattle.ere_table.specs.Wiring.{stop_in, Sealed}
use Rattle.ere_search.specs.Walk.{open_to}
use Rattle.ere_exists.proofs.Anywhere.{pending, all_at}
use Rattle.ere_exists.proofs.any.exists.Given as goal

abbrev pub invariant-loop-i : goal.invariant-loop-i
invariant-loop-i l =
    (l.i ≤ length l.text) × (l.empty ≡ open_to l.t 0) × (Sealed l.t → l.live ≡ pending l.t l.text l.i)
    × ((k : ℕ) → k < l.i → Sealed l.t → stop_in (all_at l.t l.text k) false ≡ false)

abbrev pub decreases-loop-i : goal.decreases-loop-i
decreases-loop-i l = length l.text - l.i
