-- `row` meets its contract: each byte of the table's words is the definition's row.
use native.Mathlib.Omega.{arith}
use Rattle.opcodes.proofs.Bytes.{row-byte, row-none}
use Rattle.opcodes.proofs.codes.row.Goals as goal

pub returns-then-code-ge-CODES : goal.returns-then-code-ge-CODES
returns-then-code-ge-CODES c = row-none c.args.edition c.args.code c.if-code-ge-CODES.true

pub returns : goal.returns
returns c = row-byte c.args.edition c.args.code (omega (arith, c.if-code-ge-CODES.false))
