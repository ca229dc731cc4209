-- `is_in` meets its contract: `hit` tells of the places before i, and blocks from i on end with the last place.
use Rattle.std.proofs.Common.{◌≡◌, ◌+◌, ◌-◌, ◌%◌, ◌<◌, ◌≤◌}
use Rattle.ere_automaton.specs.Words.{Looked}
use Rattle.ere_automaton.proofs.words.is_in.Given as goal

abbrev pub invariant-loop-i : goal.invariant-loop-i
invariant-loop-i l =
    (Looked l.d l.x l.last l.tests l.i l.hit) × (0 < l.step) × (l.step ≤ 16) × (l.i ≤ l.end + 16) × ((l.end + 16 - l.i) % 16 ≡ l.step % 16)
    × (0 < l.i → l.step ≡ 16)

abbrev pub decreases-loop-i : goal.decreases-loop-i
decreases-loop-i l = l.end + 16 - l.i
