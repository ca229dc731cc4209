-- `operator`: two bytes, or else one.
use Rattle.program_lexer.proofs.Coding.{operator-longer, operator-shorter}
use Rattle.program_lexer.proofs.tokens.operator.Goals as goal

pub returns-then-two-ne-BAD : goal.returns-then-two-ne-BAD
returns-then-two-ne-BAD c =
    let a = c.args in
    let two = c.operator_kind-two in
    rw (c.min.ensures) (operator-longer a.edition.number a.s.now a.a two.result (rw (← c.min.ensures) two.ensures) c.if-two-ne-BAD.true)

pub returns : goal.returns
returns c =
    let a = c.args in
    let two = c.operator_kind-two in
    operator-shorter a.edition.number a.s.now a.a two.result (rw (← c.min.ensures) two.ensures) c.if-two-ne-BAD.false
    c.operator_kind.result c.operator_kind.ensures
