-- `specials` meets its contract: it is the count.
use mathlib.Core.Path.{refl}
use Rattle.semantics.specs.Variables.{special_count}
use Rattle.opcodes.proofs.variables.specials.Goals as goal

pub returns : goal.returns
unfolding special_count
returns c = refl
