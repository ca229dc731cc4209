-- `find`: the number is what was passed and what is left of it.
use mathlib.Core.Path.{◌≡◌}
use Prim.Native.Nat.{◌+◌, ◌-◌, ◌≤◌}
use Rattle.program_tables.specs.Tables.{meant}
use Rattle.program_tables.proofs.Entries.{Number}
use Rattle.program_tables.proofs.tables.find.Given as goal

abbrev pub invariant-loop-k : goal.invariant-loop-k
invariant-loop-k l =
    (l.k ≤ l.n)
    × (Number l.s l.escapes l.table (meant l.s l.escapes l.e) 0 l.n ≡ l.k + Number l.s l.escapes l.table (meant l.s l.escapes l.e) l.k (l.n - l.k))
