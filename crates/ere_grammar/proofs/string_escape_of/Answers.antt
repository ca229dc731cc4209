-- `string_escape_of` meets its contract: where no arm is taken, no escape fits.
use mathlib.Core.Path.{sym}
use Rattle.ere_grammar.specs.Bytes.{string_escapes}
use Rattle.ere_grammar.proofs.Marks.{missed}
use Rattle.ere_grammar.proofs.string_escape_of.Goals as goal

pub returns-in_default : goal.returns-in_default
returns-in_default c = sym (missed Unit string_escapes c.args.b c.in_default.in_default-own.rest).1
