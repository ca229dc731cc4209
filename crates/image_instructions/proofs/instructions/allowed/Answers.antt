-- `allowed` meets its contract, by its test.
use borrow.Author.Tests.{eq-eqb, ne_eqb}
use Rattle.image_instructions.proofs.instructions.allowed.Goals as goal

pub returns-then-code-ne-NEXT : goal.returns-then-code-ne-NEXT
returns-then-code-ne-NEXT c = rw (ne_eqb c.args.code 30 c.if-code-ne-NEXT.true)

pub returns-else-code-ne-NEXT : goal.returns-else-code-ne-NEXT
returns-else-code-ne-NEXT c = rw (eq-eqb c.args.code 30 c.if-code-ne-NEXT.false)
