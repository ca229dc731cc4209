-- `put_decimal` meets its contract: the digits of a tenth, and one more.
use native.Mathlib.Omega.{arith}
use Rattle.front_lines.proofs.Putting.{tenth-few, put-digit, put-digits}
use Rattle.front_lines.proofs.put.+put_decimal.Goals as goal

pub returns-then-n-lt10 : goal.returns-then-n-lt10
returns-then-n-lt10 t c = (put-digit c.args.n c.if-n-lt10.true c.put_byte.ensures, omega arith)

pub overflow_add-result-2 : goal.overflow_add-result-2
overflow_add-result-2 t c = omega (arith, c.put_decimal-end.ensures.0.count, tenth-few c.args.n (omega (arith, c.well_formed)))

pub returns : goal.returns
returns t c = (
  put-digits c.args.n c.if-n-lt10.false c.put_decimal-end.ensures.0 c.put_byte-2.ensures,
  omega (arith, c.put_decimal-end.ensures.0.count, tenth-few c.args.n (omega (arith, c.well_formed))),
)
