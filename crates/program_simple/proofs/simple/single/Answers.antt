use Rattle.program_tokens.specs.Tokens.{token_after}
use Rattle.program_lexer.specs.Coded.{decoded}
use Rattle.program_simple.proofs.Answers.{answers}
use Rattle.program_simple.proofs.simple.single.Goals as goal

pub returns : goal.returns
returns c =
    let a = c.args in (
      answers _ _ (token_after a.edition.number a.s.now (decoded a.t)) _ _ 0 c.ok.ensures
          c.token_after.ensures
          c.emit-count.ensures.0,
      c.emit-count.ensures.1,
    )
