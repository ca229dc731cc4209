-- `decimal_length`: by the sign.
use mathlib.Core.Path.{ap}
use native.Mathlib.Omega.{arith}
use lib.ListN.{length}
use Rattle.edition.specs.Limits.{number_bound}
use Prim.Native.Nat.{◌-◌}
use Rattle.decimals.proofs.Decimals.{text-below, text-above, length-bound}
use Rattle.decimals.proofs.decimal.decimal_length.Goals as goal

pub overflow_add-result : goal.overflow_add-result
overflow_add-result c = omega (arith, length-bound (number_bound - c.args.w) (omega arith))

pub returns-then-w-lt-NUMBER : goal.returns-then-w-lt-NUMBER
returns-then-w-lt-NUMBER c = omega (arith, ap length (text-below c.args.w c.if-w-lt-NUMBER.true))

pub returns-else-w-lt-NUMBER : goal.returns-else-w-lt-NUMBER
returns-else-w-lt-NUMBER c = omega (arith, ap length (text-above c.args.w c.if-w-lt-NUMBER.false))
