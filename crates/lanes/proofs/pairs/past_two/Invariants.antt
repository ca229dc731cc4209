-- `past_two` meets its contract: the run from `at` on goes to index k and on from there.
use Prim.Native.Nat.{◌+◌}
use mathlib.Core.Path.{◌≡◌}
use mathlib.Core.List.{[], ◌∷◌}
use lib.ListN.{drop}
use Rattle.lists.specs.Elements.{one_of, leading}
use Rattle.lanes.proofs.pairs.past_two.Given as goal

abbrev pub invariant-loop-k : goal.invariant-loop-k
invariant-loop-k l = l.at + leading (one_of (l.a ∷ l.b ∷ [])) (drop l.at l.s) ≡ l.k + leading (one_of (l.a ∷ l.b ∷ [])) (drop l.k l.s)
