use native.Mathlib.Omega.{arith}
use borrow.Author.Tests.{ne_eqb}
use Rattle.ere_sets.specs.Modes.{last_by}
use Rattle.ere_sets.proofs.sets.last.Goals as goal

pub returns-in-1 : goal.returns-in-1
unfolding last_by
returns-in-1 c = rw c.in-1.is

pub returns-in_default : goal.returns-in_default
unfolding last_by
returns-in_default c = rw (ne_eqb c.args.mode 1 (omega arith))
