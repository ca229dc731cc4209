-- `reach_from` meets its contract: if nothing is left of s after m bytes, nothing is left of the start after n more.
use mathlib.Core.List.{List}
use Prim.Native.Nat.{ℕ, ◌+◌}
use Rattle.ere_classes.specs.Column.{Classified}
use Rattle.ere_classes.specs.Reach.{Ends}
use Rattle.ere_classes.proofs.reach.reach_from.Given as goal

abbrev pub invariant-loop-n : goal.invariant-loop-n
invariant-loop-n l = (d : List ℕ) → Classified l.t l.bytes l.k d → (m : ℕ) → Ends l.t m l.s → Ends l.t (l.n + m) l.initial.s
