-- `with_range` meets its contract: the bytes from lo up to b are in the class.
use mathlib.Core.Path.{◌≡◌}
use Prim.Native.Nat.{◌-◌}
use Rattle.ere_byte_set.specs.Words.{with_bytes}
use Rattle.ere_byte_set.proofs.classes.with_range.Given as goal

abbrev pub invariant-loop-b : goal.invariant-loop-b
invariant-loop-b l = l.d ≡ with_bytes l.initial.d l.lo (l.b - l.lo)
