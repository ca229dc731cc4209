use native.Mathlib.Omega.{arith}
use borrow.Author.Tests.{ne_eqb}
use Rattle.ere_sets.specs.Modes.{change_by}
use Rattle.ere_sets.proofs.sets.change.Goals as goal

pub returns-in-0 : goal.returns-in-0
unfolding change_by
returns-in-0 c = rw c.in-0.is c.after.ensures

pub returns-in-1 : goal.returns-in-1
unfolding change_by
returns-in-1 c = rw c.in-1.is c.step.ensures

pub returns-in_default : goal.returns-in_default
unfolding change_by
returns-in_default c = rw (ne_eqb c.args.mode 0 (omega arith), ne_eqb c.args.mode 1 (omega arith)) c.pending_after.ensures
