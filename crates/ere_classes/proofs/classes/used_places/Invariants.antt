use mathlib.Core.Path.{◌≡◌}
use Prim.Native.Nat.{ℕ, ◌≤◌, ◌<◌}
use Rattle.ere_table.specs.Table.{place_count}
use Rattle.ere_classes.specs.Column.{taken_by}
use Rattle.ere_classes.proofs.classes.used_places.Given as goal

abbrev pub invariant-loop-p : goal.invariant-loop-p
invariant-loop-p l = (q b : ℕ) → l.p ≤ q → q < place_count → b < 256 → taken_by l.t b q ≡ 0
