-- `variables` meets its contract: the special variables are few.
use native.Mathlib.Omega.{arith}
use Rattle.semantics.proofs.Specials.{specials-all, specials-few}
use Rattle.image_instructions.proofs.instructions.variables.Goals as goal

pub overflow_add-result : goal.overflow_add-result
overflow_add-result c = omega (arith, c.requires, c.specials.ensures, specials-all c.args.context.edition, specials-few)
