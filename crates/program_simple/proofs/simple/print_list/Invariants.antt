use mathlib.Core.Path.{◌≡◌}
use Prim.Native.Nat.{◌-◌}
use lib.ListN.{length}
use Rattle.program_simple.proofs.Printing.{ListTurn}
use Rattle.program_simple.proofs.simple.print_list.Given as goal

abbrev pub invariant-loop-edition : goal.invariant-loop-edition
invariant-loop-edition l = (length l.section ≡ length l.initial.section)
    × ListTurn l.edition.number l.s l.levels l.n l.initial.first l.initial.section l.first l.count l.d l.section

abbrev pub decreases-loop-edition : goal.decreases-loop-edition
decreases-loop-edition l = length l.s - l.first.start
