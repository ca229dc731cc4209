-- `enter_specials`: a number a turn.
use mathlib.Core.Path.{◌≡◌}
use Prim.Native.Nat.{◌≤◌}
use lib.ListN.{length}
use Rattle.program_entries.specs.Variables.{special_count, numbers_in}
use Rattle.program_entries.proofs.variables.enter_specials.Given as goal

abbrev pub invariant-loop-k : goal.invariant-loop-k
invariant-loop-k l = (l.k ≤ special_count) × ((l.table ≡ numbers_in l.k l.initial.table) × (length l.table ≡ length l.initial.table))
