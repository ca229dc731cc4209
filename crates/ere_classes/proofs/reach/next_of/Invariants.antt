-- `next_of` meets its contract: what comes next after a byte of each class up to c is in `out`.
use Rattle.ere_classes.specs.Reach.{Nexts}
use Rattle.ere_classes.proofs.reach.next_of.Given as goal

abbrev pub invariant-loop-c : goal.invariant-loop-c
invariant-loop-c l = Nexts l.t l.bytes l.c l.s l.out
