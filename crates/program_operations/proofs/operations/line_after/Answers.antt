use mathlib.Core.Path.{ap, ◌∙◌}
use Rattle.program_tokens.specs.Tokens.{Token, token_after}
use Rattle.program_reader.specs.Read.{past_newlines}
use Rattle.program_lexer.specs.Coded.{coded, decoded}
use Rattle.program_parser.proofs.Codes.{decoded-back}
use Rattle.program_operations.proofs.Readings.{token-ready}
use Rattle.program_operations.proofs.operations.line_after.Goals as goal

pub past_newlines-requires : goal.past_newlines-requires
past_newlines-requires c = token-ready _ _ _ _ c.requires.0 c.token_after.ensures

pub returns : goal.returns
returns c =
    c.past_newlines.ensures
    ∙ ap (λ (y : Token). coded (past_newlines c.args.edition.number
    c.args.s.now y))
    (decoded-back c.token_after.result (token_after c.args.edition.number
    c.args.s.now (decoded c.args.t))
    c.token_after.ensures)
