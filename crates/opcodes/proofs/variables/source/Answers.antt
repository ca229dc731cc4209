-- `source` meets its contract: two variables are counted.
use Rattle.opcodes.proofs.Counting.{counts-fields, counts-records, counts-none}
use Rattle.opcodes.proofs.variables.source.Goals as goal

pub returns-in-0 : goal.returns-in-0
returns-in-0 c = rw c.in-0.is (counts-fields c.args.edition)

pub returns-in-1 : goal.returns-in-1
returns-in-1 c = rw c.in-1.is (counts-records c.args.edition)

pub returns-in_default : goal.returns-in_default
returns-in_default c = counts-none c.args.edition c.args.v c.in_default.in_default-own.rest.0.1 c.in_default.in_default-own.rest.1
