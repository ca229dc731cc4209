-- `beginning` meets its contract: each byte before i leads to the state in which nothing may come next.
use Rattle.ere_seek.specs.Starts.{Passed}
use Rattle.ere_seek.proofs.starts.beginning.Given as goal

abbrev pub invariant-loop-i : goal.invariant-loop-i
invariant-loop-i l = Passed l.d l.x l.from l.i
