-- `skip` meets its contract: no match starts between `from` and i.
use Rattle.std.proofs.Common.{◌-◌, ◌≤◌, length}
use Rattle.ere_automaton.specs.Scan.{ranges, Skipped}
use Rattle.ere_automaton.proofs.blocks.skip.Given as goal

abbrev pub invariant-loop-i : goal.invariant-loop-i
invariant-loop-i l =
    (l.i ≤ length l.x) × (Skipped (ranges l.low l.width l.next_low l.next_width) l.x l.from l.i)

abbrev pub decreases-loop-i : goal.decreases-loop-i
decreases-loop-i l = length l.x - l.i
