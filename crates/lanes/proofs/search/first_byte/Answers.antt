-- `first_byte` meets its contract: each of the ways does.
use native.Mathlib.Omega.{arith}
use Rattle.lanes.proofs.search.first_byte.Goals as goal

pub returns-then-s-lt8 : goal.returns-then-s-lt8
returns-then-s-lt8 c = c.first_byte.ensures

pub first_by_8-requires : goal.first_by_8-requires
first_by_8-requires c = (omega arith, omega arith)

pub returns-then-s-lt16 : goal.returns-then-s-lt16
returns-then-s-lt16 c = c.first_by_8.ensures

pub returns : goal.returns
returns c = c.first_in_long.ensures
