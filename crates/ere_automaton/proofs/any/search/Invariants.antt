-- `search` meets its contract: what is left of the search from the state s at i is what it was.
use Rattle.std.proofs.Common.{◌-◌, ◌≤◌, length}
use Rattle.ere_automaton.specs.Layout.{State}
use Rattle.ere_automaton.proofs.Left.{Left}
use Rattle.ere_automaton.proofs.any.search.Given as goal

abbrev pub invariant-loop-i : goal.invariant-loop-i
invariant-loop-i l = (State l.d l.s) × (l.i ≤ length l.text) × (Left l.d l.text l.s l.i)

abbrev pub decreases-loop-i : goal.decreases-loop-i
decreases-loop-i l = length l.text - l.i
