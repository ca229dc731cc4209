-- `placed` meets its contract, by its tests.
use Rattle.lists.proofs.Tests.{was-false, was-true}
use Rattle.image_instructions.proofs.Clauses.{placed-as}
use mathlib.Core.Path.{refl}
use Rattle.image_instructions.proofs.instructions.check_position.Goals as goal
use mathlib.Core.Path.{ap}
use mathlib.Core.Bool.{not}

pub returns-then-code-n : goal.returns-then-code-n
returns-then-code-n c = placed-as c.args.context c.args.count c.args.n c.args.code c.args.depth c.if-code-n.true refl refl refl

pub returns-then-not-zero_if : goal.returns-then-not-zero_if
returns-then-not-zero_if c = placed-as c.args.context c.args.count c.args.n c.args.code c.args.depth c.if-code-n.false (was-false (ap not c.if-not-zero_if.true) c.zero_if.ensures) refl refl

pub returns-then-not-zero_if-2 : goal.returns-then-not-zero_if-2
returns-then-not-zero_if-2 c =
    let a = c.args in
    placed-as a.context a.count a.n a.code a.depth c.if-code-n.false (was-true (ap not c.if-not-zero_if.false) c.zero_if.ensures) c.terminates.ensures (was-false (ap not c.if-not-zero_if-2.true) c.zero_if-2.ensures)

pub returns : goal.returns
returns c =
    let a = c.args in
    placed-as a.context a.count a.n a.code a.depth c.if-code-n.false (was-true (ap not c.if-not-zero_if.false) c.zero_if.ensures) c.terminates.ensures (was-true (ap not c.if-not-zero_if-2.false) c.zero_if-2.ensures)
