-- `word_of` meets its contract, kind by kind.
use mathlib.Core.Path.{sym, ◌∙◌}
use borrow.Author.Rules.{rules}
use Rattle.run_step.proofs.Separated.{byte-kind}
use Rattle.run_step.proofs.machine.word_of.Goals as goal

pub returns-in-Byte : goal.returns-in-Byte
returns-in-Byte c =
    byte-kind c.in-Byte.b (search rules) ∙ sym c.in-Byte.is
