use mathlib.Core.Path.{sym}
use borrow.Author.Tests.{eq-eqb, ne_eqb}
use Rattle.program_operations.proofs.parts.name_form.Goals as goal

pub returns-then-kind-eq-FIXED_VARIABLE : goal.returns-then-kind-eq-FIXED_VARIABLE
returns-then-kind-eq-FIXED_VARIABLE c = sym (rw (eq-eqb _ 9 c.if-kind-eq-FIXED_VARIABLE.true))

pub returns : goal.returns
returns c = sym (rw (ne_eqb _ 9 c.if-kind-eq-FIXED_VARIABLE.false))
