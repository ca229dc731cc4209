-- `are_in` meets its contract: the bytes before b are.
use mathlib.Core.Path.{◌≡◌}
use mathlib.Core.Bool.{true}
use Prim.Native.Nat.{ℕ, ◌≤◌, ◌<◌}
use Rattle.lists.specs.Digit.{bit}
use Rattle.ere_automaton.specs.Layout.{class_in}
use Rattle.ere_shapes.proofs.leads.are_in.Given as goal

abbrev pub invariant-loop-b : goal.invariant-loop-b
invariant-loop-b l = (x : ℕ) → l.low ≤ x → x < l.b → bit l.set (class_in l.d x) ≡ true
