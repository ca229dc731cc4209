-- `token_at`: the token after blanks and comments.
use Rattle.program_lexer.proofs.Coding.{at-coded}
use Rattle.program_lexer.proofs.tokens.token_at.Goals as goal

pub returns : goal.returns
returns c =
    let a = c.args in
    let skip = c.skip in
    let token-of = c.token_of in
    at-coded a.edition.number a.s.now a.p skip.result token-of.result skip.ensures token-of.ensures
