-- `since_newline`: with what is counted, what is left gives the same as the text.
use mathlib.Core.Path.{◌≡◌}
use Prim.Native.Nat.{◌≤◌}
use lib.ListN.{drop}
use Rattle.front_places.specs.Places.{since_newline}
use Rattle.front_places.proofs.place.since_newline.Given as goal

abbrev pub invariant-loop-b : goal.invariant-loop-b
invariant-loop-b l = (l.n ≤ l.b-index) × (since_newline 0 l.s ≡ since_newline l.n (drop l.b-index l.s))
