use Rattle.program_items.proofs.Patterns.{action-refused, action-read}
use Rattle.program_items.proofs.programs.action.Goals as goal

pub returns-then-t-ne-OPEN_BRACE : goal.returns-then-t-ne-OPEN_BRACE
returns-then-t-ne-OPEN_BRACE c =
    let a = c.args in
    action-refused a.edition.number a.s.now a.in_main a.t a.n a.section.now c.requires.known _
    _ c.if-t-ne-OPEN_BRACE.true c.refuse.ensures

pub returns : goal.returns
returns c =
    let a = c.args in
    action-read a.edition.number a.s.now a.in_main a.t a.n a.section.now c.requires.known _ _
    c.if-t-ne-OPEN_BRACE.false c.block.ensures
