use Prim.Native.Nat.{◌≤◌}
use mathlib.Core.Path.{◌≡◌}
use lib.ListN.{length}
use Rattle.ere_classes.specs.Column.{Used, Classed}
use Rattle.ere_classes.proofs.classes.put_classes.Given as goal

abbrev pub invariant-loop-b : goal.invariant-loop-b
invariant-loop-b l = (l.k ≤ 64) × (length l.columns ≡ 128) × (Used l.t l.n) × (Classed l.t l.n l.b l.columns l.k l.bytes l.d)
