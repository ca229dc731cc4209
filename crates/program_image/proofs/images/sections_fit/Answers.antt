-- `sections_fit`: the answers for the three.
use mathlib.Core.Path.{refl}
use Rattle.program_image.proofs.images.sections_fit.Goals as goal

pub returns : goal.returns
returns c = rw (c.depths_fit.ensures, c.depths_fit-2.ensures, c.depths_fit-3.ensures) refl
