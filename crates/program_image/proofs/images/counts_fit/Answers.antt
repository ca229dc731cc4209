-- `counts_fit`: the tests, by the number of special variables.
use mathlib.Core.Path.{refl}
use native.Mathlib.Omega.{arith}
use Rattle.semantics.specs.Variables.{special_count}
use Rattle.program_image.proofs.images.counts_fit.Goals as goal

pub overflow_add-most : goal.overflow_add-most
unfolding special_count
overflow_add-most c = omega (arith, c.specials.ensures)

pub returns : goal.returns
returns c = rw c.specials.ensures refl
