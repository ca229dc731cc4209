-- `given_action`, by its tests.
use mathlib.Core.Path.{ap, ◌∙◌}
use Prim.Native.Nat.{ℕ}
use borrow.Author.Tests.{eq-eqb, ne_eqb}
use lib.ListN.{get_or}
use Rattle.front_actions.specs.Actions.{image_action, write_action, given_action}
use Rattle.front_actions.specs.declared.actions.Action.TheVariants.{Check, Content}
use Rattle.front_actions.proofs.actions.given_action.Goals as goal

pub returns-then-given-ne0 : goal.returns-then-given-ne0
unfolding given_action
returns-then-given-ne0 c = simp (ne_eqb _ _ c.if-given-ne0.true)

pub returns-then-given-ne0-2 : goal.returns-then-given-ne0-2
unfolding given_action
returns-then-given-ne0-2 c = simp (eq-eqb _ _ c.if-given-ne0.false, ne_eqb _ _ c.if-given-ne0-2.true)

pub returns-then-given-ne0-3 : goal.returns-then-given-ne0-3
unfolding given_action
returns-then-given-ne0-3 c =
    simp (eq-eqb _ _ c.if-given-ne0.false, eq-eqb _ _ c.if-given-ne0-2.false, ne_eqb _ _ c.if-given-ne0-3.true)
    (c.image_action.ensures ∙ ap (λ (n : ℕ). image_action n c.args.o.operand Check) c.given_count-count.ensures)

pub returns-then-given-ne0-4 : goal.returns-then-given-ne0-4
unfolding given_action
returns-then-given-ne0-4 c =
    simp (eq-eqb _ _ c.if-given-ne0.false, eq-eqb _ _ c.if-given-ne0-2.false, eq-eqb _ _ c.if-given-ne0-3.false, ne_eqb _ _ c.if-given-ne0-4.true)
    (c.image_action-then-given-ne0-4.ensures ∙ ap (λ (n : ℕ). image_action n c.args.o.operand Content) c.given_count-count.ensures)

pub returns-then-given-ne0-5 : goal.returns-then-given-ne0-5
unfolding given_action
returns-then-given-ne0-5 c =
    let a = c.args in
    simp (eq-eqb _ _ c.if-given-ne0.false, eq-eqb _ _ c.if-given-ne0-2.false, eq-eqb _ _ c.if-given-ne0-3.false, eq-eqb _ _ c.if-given-ne0-4.false, ne_eqb _ _ c.if-given-ne0-5.true)
    (c.write_action.ensures
    ∙ ap (λ (n : ℕ). write_action n a.o.operand a.words (get_or a.o.given 5 0)) c.given_count-count.ensures)

pub returns : goal.returns
unfolding given_action
returns c =
    simp (eq-eqb _ _ c.if-given-ne0.false, eq-eqb _ _ c.if-given-ne0-2.false, eq-eqb _ _ c.if-given-ne0-3.false, eq-eqb _ _ c.if-given-ne0-4.false, eq-eqb _ _ c.if-given-ne0-5.false) c.run_action.ensures
