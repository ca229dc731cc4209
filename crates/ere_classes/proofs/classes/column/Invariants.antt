use Prim.Native.Nat.{◌-◌}
use mathlib.Core.Path.{◌≡◌}
use Rattle.ere_classes.specs.Column.{column_of}
use Rattle.ere_classes.proofs.classes.column.Given as goal

abbrev pub invariant-loop-p : goal.invariant-loop-p
invariant-loop-p l = l.c ≡ column_of l.t l.b l.from (l.p - l.from)
