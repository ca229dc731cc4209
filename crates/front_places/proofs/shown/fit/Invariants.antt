-- `fit`: bytes are taken as long as the columns that are left have room for the next.
use mathlib.Core.Path.{◌≡◌}
use Prim.Native.Nat.{◌+◌}
use lib.ListN.{drop}
use Rattle.front_places.specs.Shown.{fitting}
use Rattle.front_places.proofs.shown.fit.Given as goal

abbrev pub invariant-loop-i : goal.invariant-loop-i
invariant-loop-i l = fitting l.most l.s ≡ l.i + fitting l.rest (drop l.i l.s)
