-- `line_length` meets its contract: the invariant is that the sum is the length of the texts so far.
use Rattle.run_print.proofs.Joined.{Counted}
use Rattle.run_print.proofs.printing.line_length.Given as goal

abbrev pub invariant-loop-i : goal.invariant-loop-i
invariant-loop-i l = Counted l.initial.work l.work l.first l.n l.i l.sum
