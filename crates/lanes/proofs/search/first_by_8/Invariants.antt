-- `first_by_8` meets its contract: no b is before index k, nor before the last eight bytes at the end.
use Prim.Native.Nat.{◌-◌, ◌≤◌}
use Rattle.buffer.specs.First.{first_byte}
use Rattle.lanes.proofs.search.first_by_8.Given as goal

abbrev pub invariant-loop-k : goal.invariant-loop-k
invariant-loop-k l = l.k ≤ first_byte l.b l.s

abbrev pub decreases-loop-k : goal.decreases-loop-k
decreases-loop-k l = l.last - l.k
