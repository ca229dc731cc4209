-- `few_digits` meets its contract: each answer is for the numbers between two powers of ten.
use mathlib.Core.Path.{sym, ap}
use native.Mathlib.Omega.{arith}
use lib.ListN.{length}
use Rattle.decimals.proofs.Decimals.{digits-small, length-between}
use Rattle.decimals.proofs.decimal.few_digits.Goals as goal

pub returns-then-n-lt10 : goal.returns-then-n-lt10
returns-then-n-lt10 c = sym (ap length (digits-small c.args.n (omega arith)))

pub returns-else-n-lt10 : goal.returns-else-n-lt10
returns-else-n-lt10 c = sym (length-between 1 c.args.n (omega arith) (omega arith))

pub returns-then-n-lt1000 : goal.returns-then-n-lt1000
returns-then-n-lt1000 c = sym (length-between 2 c.args.n (omega arith) (omega arith))

pub returns-else-n-lt1000 : goal.returns-else-n-lt1000
returns-else-n-lt1000 c = sym (length-between 3 c.args.n (omega arith) (omega arith))

pub returns-then-n-lt100000 : goal.returns-then-n-lt100000
returns-then-n-lt100000 c = sym (length-between 4 c.args.n (omega arith) (omega arith))

pub returns-else-n-lt100000 : goal.returns-else-n-lt100000
returns-else-n-lt100000 c = sym (length-between 5 c.args.n (omega arith) (omega arith))

pub returns-then-n-lt10000000 : goal.returns-then-n-lt10000000
returns-then-n-lt10000000 c = sym (length-between 6 c.args.n (omega arith) (omega arith))

pub returns-else-n-lt10000000 : goal.returns-else-n-lt10000000
returns-else-n-lt10000000 c = sym (length-between 7 c.args.n (omega arith) (omega arith))
