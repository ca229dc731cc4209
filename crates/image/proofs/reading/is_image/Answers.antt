-- `is_image` meets its contract, by a pass.
use mathlib.Core.Path.{◌∙◌}
use Rattle.image_format.specs.Writing.{content_of}
use Rattle.image.proofs.Copies.{pass-tells}
use Rattle.image.proofs.reading.is_image.Goals as goal

pub returns : goal.returns
returns c = c.is_some.ensures ∙ pass-tells content_of _ _ _ _ c.pass.ensures
