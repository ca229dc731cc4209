use Rattle.ere_classes.specs.Bounds.{NoneIn}
use Rattle.ere_classes.proofs.hull.lowest.Given as goal

abbrev pub invariant-loop-b : goal.invariant-loop-b
invariant-loop-b l = NoneIn l.set l.d 0 l.b
