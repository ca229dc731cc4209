-- `told` meets its contract: by the stage, it answers what the definition says.
use mathlib.Core.Path.{ap}
use native.Mathlib.Omega.{arith}
use borrow.Author.Tests.{ne_eqb}
use Rattle.std.specs.Prelude.{Some}
use Rattle.image_stages.proofs.stages.told.Goals as goal

pub returns-in-0 : goal.returns-in-0
returns-in-0 c = rw c.in-0.is c.edition_told.ensures

pub returns-in-1 : goal.returns-in-1
returns-in-1 c = rw c.in-1.is

pub returns-in-2 : goal.returns-in-2
returns-in-2 c = rw c.in-2.is c.kind_told.ensures

pub returns-in-3 : goal.returns-in-3
returns-in-3 c = rw c.in-3.is (ap Some c.with_units.ensures)

pub returns-in-5 : goal.returns-in-5
returns-in-5 c = rw c.in-5.is c.code_told.ensures

pub returns-in_default : goal.returns-in_default
returns-in_default c =
    let stage = c.args.s.stage in
    rw (ne_eqb stage 0 (omega arith), ne_eqb stage 1 (omega arith), ne_eqb stage 2 (omega arith))
    (rw (ne_eqb stage 3 (omega arith), ne_eqb stage 5 (omega arith)))
