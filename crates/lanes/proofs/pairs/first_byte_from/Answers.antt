-- `first_byte_from` meets its contract: the first of one byte, named twice.
use native.Mathlib.Omega.{arith}
use lib.ListN.{drop}
use Rattle.lanes.proofs.Runs.{leading-pair}
use Rattle.lanes.proofs.pairs.first_byte_from.Goals as goal

pub returns : goal.returns
returns c =
    let a = c.args in
    omega (arith, c.first_of_two.ensures, leading-pair a.b a.b (drop a.at a.s.now))
