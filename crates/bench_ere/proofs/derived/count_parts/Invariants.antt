-- `count_parts` is safe: each separator lies in the text.
use Rattle.std.proofs.Common.{◌-◌, ◌≤◌, length}
use Rattle.bench_ere.proofs.derived.count_parts.Given as goal

abbrev pub invariant-loop-start : goal.invariant-loop-start
invariant-loop-start l = l.at ≤ length l.text

abbrev pub decreases-loop-start : goal.decreases-loop-start
decreases-loop-start l = length l.text - l.at
