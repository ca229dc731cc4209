use mathlib.Core.Path.{sym, ◌∙◌}
use Rattle.program_operations.proofs.operations.argument_after.Goals as goal

pub returns-then-first : goal.returns-then-first
returns-then-first c = c.operand_after.ensures ∙ sym (rw c.if-first.true)

pub returns : goal.returns
returns c = c.line_after.ensures ∙ sym (rw c.if-first.false)
