-- `opening` meets its contract, by its tests.
use native.Mathlib.Omega.{arith}
use borrow.Author.Tests.{ne_eqb}
use Rattle.image_stages.proofs.stages.opening.Goals as goal

pub returns-in-4 : goal.returns-in-4
returns-in-4 c = rw c.in-4.is

pub returns-in-3 : goal.returns-in-3
returns-in-3 c = rw c.in-3.is

pub returns-in_default : goal.returns-in_default
returns-in_default c = rw (ne_eqb c.args.lists 4 (omega arith), ne_eqb c.args.lists 3 (omega arith))
