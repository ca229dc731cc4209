-- `by_two` meets its contract: the start is followed up to l.
use mathlib.Core.Bool.{Bool}
use Prim.Native.Nat.{◌-◌}
use lib.ListN.{length}
use Rattle.ere_automaton.specs.Scan.{Ready}
use Rattle.ere_seek.specs.One.{Means, Bounds}
use Rattle.ere_seek.proofs.one.by_two.Given as goal

abbrev pub invariant-loop-l : goal.invariant-loop-l
invariant-loop-l l =
    (Ready l.d l.k l.l.state) × (Bounds l.x l.s l.l) × ((first : Bool) → Means l.d l.x l.s first l.initial.l → Means l.d l.x l.s first l.l)

abbrev pub decreases-loop-l : goal.decreases-loop-l
decreases-loop-l l = length l.x - l.l.at
