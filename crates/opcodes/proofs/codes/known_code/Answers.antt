-- `known_code` meets its contract: an edition has the codes below its count.
use mathlib.Core.Path.{sym}
use Rattle.image_format.specs.Codes.{code_count}
use Rattle.opcodes.proofs.Below.{known-below}
use Rattle.opcodes.proofs.codes.known_code.Goals as goal

pub returns : goal.returns
unfolding code_count
returns c = sym (known-below c.args.edition c.args.code)
