-- `first_pair_by_1` meets its contract: the run from `at` on goes to index k and on from there.
use Prim.Native.Nat.{◌+◌}
use mathlib.Core.Path.{◌≡◌}
use lib.ListN.{drop}
use Rattle.lists.specs.Elements.{leading}
use Rattle.lanes.specs.Pair.{neither}
use Rattle.lanes.proofs.pairs.first_pair_by_1.Given as goal

abbrev pub invariant-loop-k : goal.invariant-loop-k
invariant-loop-k l = l.at + leading (neither l.a l.b) (drop l.at l.s) ≡ l.k + leading (neither l.a l.b) (drop l.k l.s)
