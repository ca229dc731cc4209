use Prim.Native.Nat.{ℕ, ◌<◌}
use lib.ListN.{get_or}
use Rattle.ere_table.specs.Table.{row}
use Rattle.ere_search.specs.Walk.{step}
use Rattle.ere_classes.specs.Bounds.{Follows}
use Rattle.ere_classes.proofs.hull.seconds.Given as goal

abbrev pub invariant-loop-c : goal.invariant-loop-c
invariant-loop-c l = (x : ℕ) → x < l.c → Follows l.t l.bytes l.k (step l.t (row l.t 1) (get_or l.bytes x 0)) l.out
