-- `is_named`: each table by its codes.
use native.Mathlib.Omega.{arith}
use Rattle.program_entries.proofs.Named.{constant-named, variable-named, ere-named, other-named}
use Rattle.program_entries.proofs.entries.is_named.Goals as goal

pub returns-in-0 : goal.returns-in-0
returns-in-0 c = rw c.in-0.is (constant-named c.args.op)

pub returns-in-1 : goal.returns-in-1
returns-in-1 c = rw c.in-1.is (variable-named c.args.op)

pub returns-in-2 : goal.returns-in-2
returns-in-2 c = rw c.in-2.is (ere-named c.args.op)

pub returns-in_default : goal.returns-in_default
returns-in_default c = other-named c.args.what c.args.op (omega arith) (omega arith) (omega arith)
