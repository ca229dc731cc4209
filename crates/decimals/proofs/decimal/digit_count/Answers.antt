-- `digit_count` meets its contract: the last eight digits, and those before them.
use native.Mathlib.Omega.{arith}
use Prim.Native.Nat.{◌/◌}
use Rattle.decimals.proofs.Decimals.{length-split, length-within}
use Rattle.decimals.proofs.decimal.digit_count.Goals as goal

pub overflow_add-result : goal.overflow_add-result
overflow_add-result c = omega (arith, length-within 7 (c.args.n / 100000000) (omega arith))

pub returns : goal.returns
returns c = omega (arith, length-split 8 c.args.n (omega arith))
