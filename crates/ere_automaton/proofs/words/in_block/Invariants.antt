-- `in_block` meets its contract: `hit` tells of the first j places.
use Rattle.std.proofs.Common.{◌≡◌}
use Rattle.ere_automaton.specs.Words.{here_in}
use Rattle.ere_automaton.proofs.words.in_block.Given as goal

abbrev pub invariant-loop-j : goal.invariant-loop-j
invariant-loop-j l = l.hit ≡ here_in l.d l.x l.last l.tests l.i l.j
