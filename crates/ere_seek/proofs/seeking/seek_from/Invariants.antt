-- `seek_from` meets its contract: no start from `from` to s has a match.
use mathlib.Core.List.{List}
use Prim.Native.Nat.{ℕ, ◌+◌, ◌-◌, ◌≤◌}
use lib.ListN.{length}
use Rattle.ere_automaton.specs.Follows.{FollowsOne}
use Rattle.ere_seek.specs.Starts.{Bares, Hulled}
use Rattle.ere_seek.proofs.seeking.seek_from.Given as goal

abbrev pub invariant-loop-s : goal.invariant-loop-s
invariant-loop-s l =
    (l.s ≤ length l.x + 1) × ((t : List ℕ) → FollowsOne t l.d → Hulled t l.d → Bares t l.x l.at 0 l.from → Bares t l.x l.at 0 l.s)

abbrev pub decreases-loop-s : goal.decreases-loop-s
decreases-loop-s l = length l.x + 1 - l.s
