use Rattle.ere_classes.specs.Bounds.{Led}
use Rattle.ere_classes.proofs.hull.led.Given as goal

abbrev pub invariant-loop-c : goal.invariant-loop-c
invariant-loop-c l = Led l.t l.bytes l.c l.s l.start l.out
