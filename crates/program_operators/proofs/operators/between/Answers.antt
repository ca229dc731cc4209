use borrow.Author.Tests.{eq-eqb, ne_eqb}
use Rattle.program_operators.proofs.operators.between.Goals as goal

pub returns-then-kind-eq-AND_AND : goal.returns-then-kind-eq-AND_AND
returns-then-kind-eq-AND_AND c = rw (eq-eqb _ 61 c.if-kind-eq-AND_AND.true)

pub returns-then-kind-eq-OR_OR : goal.returns-then-kind-eq-OR_OR
returns-then-kind-eq-OR_OR c = rw (ne_eqb _ 61 c.if-kind-eq-AND_AND.false, eq-eqb _ 60 c.if-kind-eq-OR_OR.true)

pub returns : goal.returns
returns c = rw (ne_eqb _ 61 c.if-kind-eq-AND_AND.false, ne_eqb _ 60 c.if-kind-eq-OR_OR.false)
