-- `write_action`, by its tests.
use borrow.Author.Tests.{eq-eqb, ne_eqb}
use Rattle.front_actions.proofs.actions.write_action.Goals as goal

pub returns-then-count-ne2 : goal.returns-then-count-ne2
returns-then-count-ne2 c = simp (ne_eqb _ _ c.if-filter-ne0.true, ne_eqb _ _ c.if-count-ne2.true)

pub returns-then-operand-ne0 : goal.returns-then-operand-ne0
returns-then-operand-ne0 c = simp (ne_eqb _ _ c.if-filter-ne0.true, eq-eqb _ _ c.if-count-ne2.false, ne_eqb _ _ c.if-operand-ne0.true)

pub returns-then-filter-ne0 : goal.returns-then-filter-ne0
returns-then-filter-ne0 c = simp (ne_eqb _ _ c.if-filter-ne0.true, eq-eqb _ _ c.if-count-ne2.false, eq-eqb _ _ c.if-operand-ne0.false)

pub returns-then-count-ne1 : goal.returns-then-count-ne1
returns-then-count-ne1 c = simp (eq-eqb _ _ c.if-filter-ne0.false, ne_eqb _ _ c.if-count-ne1.true)

pub returns-then-operand-eq0 : goal.returns-then-operand-eq0
returns-then-operand-eq0 c = simp (eq-eqb _ _ c.if-filter-ne0.false, eq-eqb _ _ c.if-count-ne1.false, eq-eqb _ _ c.if-operand-eq0.true)

pub returns-then-operand-words : goal.returns-then-operand-words
returns-then-operand-words c = simp (eq-eqb _ _ c.if-filter-ne0.false, eq-eqb _ _ c.if-count-ne1.false, ne_eqb _ _ c.if-operand-eq0.false, ne_eqb _ _ c.if-operand-words.true)

pub returns : goal.returns
returns c = simp (eq-eqb _ _ c.if-filter-ne0.false, eq-eqb _ _ c.if-count-ne1.false, ne_eqb _ _ c.if-operand-eq0.false, eq-eqb _ _ c.if-operand-words.false)
