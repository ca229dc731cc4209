-- `may_start` meets its contract: j places are looked at.
use Rattle.std.proofs.Common.{◌≡◌}
use Rattle.ere_automaton.specs.Scan.{ranges, starts}
use Rattle.ere_automaton.proofs.blocks.may_start.Given as goal

abbrev pub invariant-loop-j : goal.invariant-loop-j
invariant-loop-j l = l.hit ≡ starts (ranges l.low l.width l.next_low l.next_width) l.x l.i l.j
