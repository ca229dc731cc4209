-- `assignable` meets its contract: its table is that of the special variables, one by one.
use Rattle.opcodes.proofs.Assigning.{assignable-users, assignable-specials}
use Rattle.opcodes.proofs.variables.assignable.Goals as goal

pub returns-then-v : goal.returns-then-v
returns-then-v c = assignable-users _ _ c.if-v.true

pub returns : goal.returns
returns c = assignable-specials c.args.edition c.args.v c.if-v.false
