use Prim.Native.Nat.{◌-◌}
use lib.ListN.{length}
use Rattle.program_simple.proofs.Choosing.{ElseTurn}
use Rattle.program_simple.proofs.conditions.else_after.Given as goal

abbrev pub invariant-loop-ended : goal.invariant-loop-ended
invariant-loop-ended l = ElseTurn l.edition.number l.s l.initial.u l.free l.u l.ended
    l.semicolons

abbrev pub decreases-loop-ended : goal.decreases-loop-ended
decreases-loop-ended l = length l.s - l.u.start
