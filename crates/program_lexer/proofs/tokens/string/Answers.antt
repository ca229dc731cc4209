-- `string`: by the place after its last quote.
use mathlib.Core.Path.{sym, ◌∙◌}
use Rattle.program_lexer.proofs.Coding.{string-bad, string-good}
use Rattle.program_lexer.proofs.tokens.string.Goals as goal

pub returns-in_default : goal.returns-in_default
returns-in_default c =
    let a = c.args in
    let p = c.requires in
    let string-close = c.string_close in
    string-bad a.s.now a.a (p) (sym string-close.ensures ∙ c.in_default.is)

pub returns : goal.returns
returns c =
    let a = c.args in
    let p = c.requires in
    let string-close = c.string_close in
    string-good a.s.now a.a (p) c.in-Some.stop (sym c.in-Some.ensures)
