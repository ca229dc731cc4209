use Prim.Native.Nat.{◌-◌, ◌≤◌}
use mathlib.Core.Path.{◌≡◌}
use lib.ListN.{length}
use Rattle.ere_automaton.specs.Layout.{rows_at}
use Rattle.ere_sets.specs.Growth.{Grows}
use Rattle.ere_classes.specs.Frames.{Frame}
use Rattle.ere_derive.specs.Layout.{Rows}
use Rattle.ere_derive.proofs.rows.put_rows.Given as goal

abbrev pub invariant-loop-i : goal.invariant-loop-i
invariant-loop-i l =
    (l.i ≤ l.n) × (l.n ≤ l.most) × (length l.sets ≡ length l.initial.sets) × (Grows l.initial.sets l.count l.sets l.n) × (Frame rows_at (length l.initial.d) l.initial.d l.d)
    × (Rows l.mode l.t l.bytes l.k l.sets l.n l.stride l.d l.i)

abbrev pub decreases-loop-i : goal.decreases-loop-i
decreases-loop-i l = l.most - l.i
