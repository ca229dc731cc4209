-- `as_operand`: a slash, or any other token.
use mathlib.Core.Path.{◌∙◌}
use Rattle.program_lexer.proofs.Coding.{operand_same, operand-ere}
use Rattle.program_lexer.proofs.tokens.as_operand.Goals as goal

pub returns-then-t : goal.returns-then-t
returns-then-t c =
    let a = c.args in
    let p = c.requires in
    operand_same a.edition.number a.s.now a.t p.0 c.if-t.true

pub returns : goal.returns
returns c =
    let a = c.args in
    let if1 = c.if-t in
    c.ere_at.ensures ∙ operand-ere a.edition.number a.s.now a.t if1.false
