-- `count_matching` is safe: each text lies in all of them.
use Rattle.std.proofs.Common.{◌≤◌, length}
use Rattle.bench_ere.proofs.derived.count_matching.Given as goal

abbrev pub invariant-loop-e : goal.invariant-loop-e
invariant-loop-e l = l.from ≤ length l.texts
