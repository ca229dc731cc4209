use Rattle.ere_classes.specs.Bounds.{NoneIn}
use Rattle.ere_classes.proofs.hull.highest.Given as goal

abbrev pub invariant-loop-b : goal.invariant-loop-b
invariant-loop-b l = NoneIn l.set l.d l.b 256
