use Prim.Native.Nat.{◌-◌}
use lib.ListN.{length}
use Rattle.program_newlines.specs.Passing.{passing, Passes}
use Rattle.program_newlines.proofs.newlines.past.Given as goal

abbrev pub invariant-loop-edition : goal.invariant-loop-edition
invariant-loop-edition l = Passes l.edition.number l.s (passing l.semicolons) l.initial.u l.u

abbrev pub decreases-loop-edition : goal.decreases-loop-edition
decreases-loop-edition l = length l.s - l.u.start
