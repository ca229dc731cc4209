-- `entry_at`: by the table.
use borrow.Author.Tests.{ne_eqb}
use native.Mathlib.Omega.{arith}
use Rattle.program_entries.specs.Named.{named}
use Rattle.program_entries.proofs.entries.entry_at.Goals as goal

pub returns-in-0 : goal.returns-in-0
unfolding named
returns-in-0 c = rw c.in-0.is c.constant_at.ensures

pub returns-in-1 : goal.returns-in-1
unfolding named
returns-in-1 c = rw c.in-1.is c.variable_at.ensures

pub returns-in_default : goal.returns-in_default
unfolding named
returns-in_default c = rw (ne_eqb c.args.what 0 (omega arith), ne_eqb c.args.what 1 (omega arith)) c.ere_at.ensures
