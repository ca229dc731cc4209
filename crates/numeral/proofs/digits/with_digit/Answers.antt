-- `with_digit`: the cap is the lesser of the two.
use native.Mathlib.Omega.{arith}
use Rattle.numeral.specs.Capped.{capped}
use Rattle.numeral.proofs.digits.with_digit.Goals as goal

pub returns : goal.returns
unfolding capped
returns c = omega arith
