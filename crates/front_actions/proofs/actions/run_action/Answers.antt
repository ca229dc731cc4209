-- `run_action`, by its tests.
use borrow.Author.Tests.{eq-eqb, ne_eqb}
use Rattle.front_actions.proofs.actions.run_action.Goals as goal

pub returns-then-filter-ne0 : goal.returns-then-filter-ne0
returns-then-filter-ne0 c = simp (ne_eqb _ _ c.if-image-ne0.true, ne_eqb _ _ c.if-filter-ne0.true)

pub returns-then-image-ne0 : goal.returns-then-image-ne0
returns-then-image-ne0 c = simp (ne_eqb _ _ c.if-image-ne0.true, eq-eqb _ _ c.if-filter-ne0.false)

pub returns-then-filter-ne0-2 : goal.returns-then-filter-ne0-2
returns-then-filter-ne0-2 c = simp (eq-eqb _ _ c.if-image-ne0.false, ne_eqb _ _ c.if-filter-ne0-2.true)

pub returns-then-operand-eq0 : goal.returns-then-operand-eq0
returns-then-operand-eq0 c = simp (eq-eqb _ _ c.if-image-ne0.false, eq-eqb _ _ c.if-filter-ne0-2.false, eq-eqb _ _ c.if-operand-eq0.true)

pub returns : goal.returns
returns c = simp (eq-eqb _ _ c.if-image-ne0.false, eq-eqb _ _ c.if-filter-ne0-2.false, ne_eqb _ _ c.if-operand-eq0.false)
