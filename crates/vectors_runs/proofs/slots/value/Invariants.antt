-- `value` is safe and ends: `at` is an index of the payload, or its end.
use Prim.Native.Nat.{◌≤◌}
use lib.ListN.{length}
use Rattle.vectors_runs.proofs.slots.value.Given as goal

abbrev pub invariant-loop : goal.invariant-loop
invariant-loop l = l.at ≤ length l.p
