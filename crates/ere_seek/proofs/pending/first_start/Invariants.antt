-- `first_start` meets its contract: no start from s to where nothing was pending has a match.
use Prim.Native.Nat.{◌-◌}
use lib.ListN.{length}
use Rattle.ere_seek.proofs.Waiting.{Kept}
use Rattle.ere_seek.proofs.pending.first_start.Given as goal

abbrev pub invariant-loop-i : goal.invariant-loop-i
invariant-loop-i l = Kept l.d l.x l.s l.first l.f.state l.i l.f.seen

abbrev pub decreases-loop-i : goal.decreases-loop-i
decreases-loop-i l = length l.x - l.i
