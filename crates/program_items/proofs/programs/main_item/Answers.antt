use Rattle.program_items.proofs.Patterns.{main-action, main-guarded}
use Rattle.program_items.proofs.programs.main_item.Goals as goal

pub returns-then-t-eq-OPEN_BRACE : goal.returns-then-t-eq-OPEN_BRACE
returns-then-t-eq-OPEN_BRACE c =
    let a = c.args in
    main-action a.edition.number a.s.now a.t c.requires.0.known c.requires.1 c.requires.2 a.n
    a.section.now _ _ c.requires.0 c.if-t-eq-OPEN_BRACE.true
    c.action.ensures

pub returns : goal.returns
returns c =
    let a = c.args in
    main-guarded a.edition.number a.s.now a.t c.requires.0.known c.requires.1 c.requires.2 a.n
    a.section.now _ _ c.if-t-eq-OPEN_BRACE.false
    c.guarded.ensures
