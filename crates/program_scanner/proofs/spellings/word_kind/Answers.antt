-- `word_kind`: the code's table is the definition's, and no word of it is longer than 8 bytes.
use mathlib.Core.Path.{sym, ◌∙◌}
use Rattle.program_tokens.specs.Kinds.{rank, user_name}
use Rattle.program_tokens.specs.Words.{words}
use Rattle.program_scanner.specs.Spellings.{rows_of}
use Rattle.program_scanner.proofs.Spelling.{rank-in, word-long}
use Rattle.program_scanner.proofs.spellings.word_kind.Goals as goal

pub returns-then-spelling-gt8 : goal.returns-then-spelling-gt8
returns-then-spelling-gt8 c =
    let a = c.args in
    sym (word-long a.edition.number a.spelling.now c.if-spelling-gt8.true)

pub returns : goal.returns
unfolding rows_of rank
returns c =
    let a = c.args in
    c.kind_in.ensures ∙ rank-in a.edition.number user_name a.spelling.now words
