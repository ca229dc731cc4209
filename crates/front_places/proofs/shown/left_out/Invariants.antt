-- `left_out`: bytes go as long as the rest takes too many columns, which are counted down.
use mathlib.Core.Path.{◌≡◌}
use Prim.Native.Nat.{◌+◌}
use lib.ListN.{drop}
use Rattle.front_places.specs.Shown.{columns_of, left_out}
use Rattle.front_places.proofs.shown.left_out.Given as goal

abbrev pub invariant-loop-i : goal.invariant-loop-i
invariant-loop-i l = (l.rest ≡ columns_of (drop l.i l.s)) × (left_out l.most l.s ≡ l.i + left_out l.most (drop l.i l.s))
