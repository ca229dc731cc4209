-- `number_order` meets its contract, by how two distances compare.
use mathlib.Core.Path.{◌≡◌}
use Prim.Native.Nat.{ℕ, ◌<◌}
use Rattle.std.specs.Cmp.{ranked}
use Rattle.std.specs.Ordering.{MatchOrdering}
use Rattle.std.specs.declared.cmp.Ordering.{Ordering}
use Rattle.std.specs.declared.cmp.Ordering.TheVariants.{Less, Equal, Greater}
use Rattle.number.specs.Range.{unbias}
use Rattle.values.specs.Operations.{order_of}
use Rattle.run_values.proofs.Orders.{order-less, order-greater, order-equal}
use Rattle.run_comparison.proofs.comparing.number_order.Goals as goal

by-rank : (x y : ℕ) (r : Ordering) → MatchOrdering r (x < y) (x ≡ y) (y < x) → r ≡ order_of (unbias x) (unbias y)
by-rank x y Less h = order-less x y h
by-rank x y Equal h = order-equal x y h
by-rank x y Greater h = order-greater x y h

pub returns : goal.returns
returns c = by-rank _ _ _ (ranked _ _ _ c.cmp.ensures)
