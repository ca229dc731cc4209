-- `first_byte` meets its contract: k bytes are passed, and the first place in the others is the first of all.
use Prim.Native.Nat.{◌+◌}
use mathlib.Core.Path.{◌≡◌}
use lib.ListN.{drop}
use Rattle.buffer.specs.First.{first_byte}
use Rattle.buffer.proofs.search.first_byte.Given as goal

abbrev pub invariant-loop-k : goal.invariant-loop-k
invariant-loop-k l = l.k + first_byte l.b (drop l.k l.s) ≡ first_byte l.b l.s
