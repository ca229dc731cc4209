-- `next_start` meets its contract: the run from `from` on goes to i and on from there.
use Prim.Native.Nat.{◌+◌}
use mathlib.Core.Path.{◌≡◌}
use lib.ListN.{drop}
use Rattle.lists.specs.Elements.{leading}
use Rattle.ere_exists.specs.Any.{no_start}
use Rattle.ere_exists.proofs.any.next_start.Given as goal

abbrev pub invariant-loop-i : goal.invariant-loop-i
invariant-loop-i l = l.from + leading (no_start l.t l.empty) (drop l.from l.text) ≡ l.i + leading (no_start l.t l.empty) (drop l.i l.text)
