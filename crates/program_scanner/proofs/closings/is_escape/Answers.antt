-- `is_escape`: whether a byte is spelled.
use mathlib.Core.Path.{ap, ◌∙◌}
use Rattle.lists.specs.Elements.{is_some}
use Rattle.program_scanner.proofs.Closing.{some-told}
use Rattle.program_scanner.proofs.closings.is_escape.Goals as goal

pub returns : goal.returns
returns c = c.is_some.ensures ∙ some-told c.string_escape_of.result ∙ ap is_some c.string_escape_of.ensures
