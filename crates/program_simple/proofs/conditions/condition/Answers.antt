use native.Mathlib.Omega.{arith}
use Rattle.program_simple.proofs.Answers.{expression-known}
use Rattle.program_simple.proofs.Choosing.{condition-unopened, condition-ready, condition-closed}
use Rattle.program_simple.proofs.conditions.condition.Goals as goal

pub returns-then-u-ne-OPEN_PAREN : goal.returns-then-u-ne-OPEN_PAREN
returns-then-u-ne-OPEN_PAREN c =
    let a = c.args in
    condition-unopened a.edition.number a.s.now a.u a.n a.section.now a.levels c.requires.0 _ _
    c.if-u-ne-OPEN_PAREN.true
    c.refuse.ensures

pub inside-r-requires : goal.inside-r-requires
inside-r-requires c =
    let a = c.args in
    let h = condition-ready a.edition.number a.s.now a.u a.n a.section.now a.levels
    c.requires.0 c.if-u-ne-OPEN_PAREN.false _
    c.operand_after-first.ensures in
    (h, omega (arith, c.requires.1), omega arith)

pub closed-requires : goal.closed-requires
closed-requires c =
    let a = c.args in
    expression-known a.edition.number a.s.now _ a.n a.section.now 0 _ _ _ c.inside-r.ensures

pub returns : goal.returns
returns c =
    let a = c.args in
    condition-closed a.edition.number a.s.now a.u a.n a.section.now a.levels c.requires.0
    c.if-u-ne-OPEN_PAREN.false _
    c.operand_after-first.ensures _ _ _ c.inside-r.ensures c.closed.ensures
