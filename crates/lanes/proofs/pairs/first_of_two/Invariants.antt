-- `first_of_two` meets its contract: the run from `at` on goes to index k and on from there.
use Prim.Native.Nat.{◌+◌, ◌-◌, ◌≤◌}
use mathlib.Core.Path.{◌≡◌}
use lib.ListN.{length, drop}
use Rattle.lists.specs.Elements.{leading}
use Rattle.lanes.specs.Pair.{neither}
use Rattle.lanes.proofs.pairs.first_of_two.Given as goal

abbrev pub invariant-loop-k : goal.invariant-loop-k
invariant-loop-k l = (l.k ≤ length l.s) × (l.at + leading (neither l.a l.b) (drop l.at l.s) ≡ l.k + leading (neither l.a l.b) (drop l.k l.s))

abbrev pub decreases-loop-k : goal.decreases-loop-k
decreases-loop-k l = length l.s - l.k
