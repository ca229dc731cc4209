-- `enter_variables`: a token a turn.
use mathlib.Core.Path.{◌≡◌}
use Prim.Native.Nat.{◌-◌}
use lib.ListN.{length}
use Rattle.program_entries.proofs.Turns.{Turn}
use Rattle.program_entries.proofs.variables.enter_variables.Given as goal

abbrev pub invariant-loop-t : goal.invariant-loop-t
invariant-loop-t l =
    Turn l.edition.number l.s l.table l.t l.parens l.n × (length l.table ≡ length l.initial.table)

abbrev pub decreases-loop-t : goal.decreases-loop-t
decreases-loop-t l = length l.s - l.t.start
