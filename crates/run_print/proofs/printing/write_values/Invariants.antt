-- `write_values` meets its contract: the invariant is that the texts so far are the front of the output.
use Rattle.run_print.proofs.Written.{Written}
use Rattle.run_print.proofs.printing.write_values.Given as goal

abbrev pub invariant-loop-i : goal.invariant-loop-i
invariant-loop-i l = Written l.initial.work l.work l.initial.out l.out l.first l.n l.i l.at
