-- `leads` meets its contract, by its tests.
use Rattle.lists.proofs.Tests.{was-false, was-true}
use Rattle.image_instructions.specs.Judge.{has_depth}
use mathlib.Core.Bool.{true, false, and-true}
use Rattle.image_instructions.proofs.Clauses.{leads-as}
use borrow.Author.Tests.{eq-eqb, ne_eqb}
use mathlib.Core.Path.{refl, sym, ◌∙◌}
use Rattle.image_instructions.proofs.instructions.check_successors.Goals as goal
use mathlib.Core.Path.{ap}
use mathlib.Core.Bool.{not}

pub returns-then-terminates : goal.returns-then-terminates
returns-then-terminates c = rw (sym c.terminates.ensures ∙ c.if-terminates.true)

pub returns-then-code-eq-JUMP : goal.returns-then-code-eq-JUMP
returns-then-code-eq-JUMP c = rw (sym c.terminates.ensures ∙ c.if-terminates.false, eq-eqb c.args.code 27 c.if-code-eq-JUMP.true, and-true) c.has_depth.ensures

pub returns-then-not-has_depth : goal.returns-then-not-has_depth
returns-then-not-has_depth c =
    let a = c.args in
    leads-as a.context a.count (has_depth a.index.now a.count) a.n a.code a.v a.after false _ (sym c.terminates.ensures ∙ c.if-terminates.false) (ne_eqb a.code 27 c.if-code-eq-JUMP.false) (was-false (ap not c.if-not-has_depth.true) c.has_depth-2.ensures) refl

pub returns-then-code-eq-JUMP_IF_FALSE : goal.returns-then-code-eq-JUMP_IF_FALSE
returns-then-code-eq-JUMP_IF_FALSE c =
    let a = c.args in
    leads-as a.context a.count (has_depth a.index.now a.count) a.n a.code a.v a.after true c.has_depth-then-code-eq-JUMP_IF_FALSE.result (sym c.terminates.ensures ∙ c.if-terminates.false) (ne_eqb a.code 27 c.if-code-eq-JUMP.false) (was-true (ap not c.if-not-has_depth.false) c.has_depth-2.ensures) (rw (eq-eqb a.code 28 c.if-code-eq-JUMP_IF_FALSE.true, and-true) c.has_depth-then-code-eq-JUMP_IF_FALSE.ensures)

pub returns : goal.returns
returns c =
    let a = c.args in
    leads-as a.context a.count (has_depth a.index.now a.count) a.n a.code a.v a.after true true (sym c.terminates.ensures ∙ c.if-terminates.false) (ne_eqb a.code 27 c.if-code-eq-JUMP.false) (was-true (ap not c.if-not-has_depth.false) c.has_depth-2.ensures) (rw (ne_eqb a.code 28 c.if-code-eq-JUMP_IF_FALSE.false))
