use Rattle.ere_derive.specs.Layout.{PutPairs}
use Rattle.ere_derive.proofs.pairs.put_pairs.Given as goal

abbrev pub invariant-loop-i : goal.invariant-loop-i
invariant-loop-i l = PutPairs l.k l.n l.stride l.i l.initial.d l.d
