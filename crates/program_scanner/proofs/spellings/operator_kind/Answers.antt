-- `operator_kind`: the code's table is the definition's.
use mathlib.Core.Path.{◌∙◌}
use Rattle.program_tokens.specs.Kinds.{rank, bad}
use Rattle.program_tokens.specs.Words.{operators}
use Rattle.program_scanner.specs.Spellings.{rows_of}
use Rattle.program_scanner.proofs.Spelling.{rank-in}
use Rattle.program_scanner.proofs.spellings.operator_kind.Goals as goal

pub returns : goal.returns
unfolding rows_of rank
returns c =
    let a = c.args in
    c.kind_in.ensures ∙ rank-in a.edition.number bad a.spelling.now operators
