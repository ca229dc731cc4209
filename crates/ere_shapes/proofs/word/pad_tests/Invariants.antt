-- `pad_tests` meets its contract: the tests from e on are the first, up to k.
use Rattle.ere_shapes.proofs.Spelling.{Pads}
use Rattle.ere_shapes.proofs.word.pad_tests.Given as goal

abbrev pub invariant-loop-k : goal.invariant-loop-k
invariant-loop-k l = Pads l.e l.k l.initial.d l.d
