-- `alike` meets its contract: each class of the set leads to `next`.
use mathlib.Core.Path.{◌≡◌}
use mathlib.Core.Bool.{true}
use Prim.Native.Nat.{ℕ, ◌<◌}
use lib.ListN.{get_or}
use Rattle.lists.specs.Digit.{bit}
use Rattle.ere_search.specs.Walk.{step}
use Rattle.ere_shapes.proofs.leads.alike.Given as goal

abbrev pub invariant-loop-c : goal.invariant-loop-c
invariant-loop-c l = (e : ℕ) → e < 64 → bit l.out e ≡ true → step l.t l.s (get_or l.bytes e 0) ≡ l.next
