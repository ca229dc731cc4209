-- `kind_told` meets its contract, by the kind.
use mathlib.Core.Path.{ap}
use native.Mathlib.Omega.{arith}
use borrow.Author.Tests.{ne_eqb}
use Rattle.std.specs.Prelude.{Some}
use Rattle.image_stages.proofs.stages.kind_told.Goals as goal

pub returns-in-0 : goal.returns-in-0
returns-in-0 c = rw c.in-0.is (ap Some c.with_units.ensures)

pub returns-in-1 : goal.returns-in-1
returns-in-1 c = rw c.in-1.is (ap Some c.with_units-in-1.ensures)

pub returns-in_default : goal.returns-in_default
returns-in_default c = rw (ne_eqb c.args.v 0 (omega arith), ne_eqb c.args.v 1 (omega arith))
