-- `bytes_order` meets its contract: k bytes are passed, and the order of what is left is the order of all.
use Prim.Native.Nat.{◌≤◌}
use mathlib.Core.Path.{◌≡◌}
use lib.ListN.{length, drop}
use Rattle.buffer.specs.Order.{ordering}
use Rattle.run_comparison.proofs.comparing.bytes_order.Given as goal

abbrev pub invariant-loop-k : goal.invariant-loop-k
invariant-loop-k l = (l.k ≤ length l.a) × (l.k ≤ length l.b) × (ordering l.a l.b ≡ ordering (drop l.k l.a) (drop l.k l.b))
