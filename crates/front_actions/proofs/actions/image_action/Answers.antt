-- `image_action`, by its tests.
use borrow.Author.Tests.{eq-eqb, ne_eqb}
use Rattle.front_actions.proofs.actions.image_action.Goals as goal

pub returns-then-count-ne1 : goal.returns-then-count-ne1
returns-then-count-ne1 c = simp (ne_eqb _ _ c.if-count-ne1.true)

pub returns-then-operand-ne0 : goal.returns-then-operand-ne0
returns-then-operand-ne0 c = simp (eq-eqb _ _ c.if-count-ne1.false, ne_eqb _ _ c.if-operand-ne0.true)

pub returns : goal.returns
returns c = simp (eq-eqb _ _ c.if-count-ne1.false, eq-eqb _ _ c.if-operand-ne0.false)
