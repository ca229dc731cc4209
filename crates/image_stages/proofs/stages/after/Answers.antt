-- `after` meets its contract: what `told` answers, and then the next unit, item or list.
use mathlib.Core.Path.{sym, ap, ◌∙◌}
use Rattle.image_stages.specs.Stages.{moved}
use Rattle.std.specs.Prelude.{Some}
use Rattle.image_stages.proofs.stages.after.Goals as goal

pub returns-in_err-told : goal.returns-in_err-told
returns-in_err-told c = c.from_residual.ensures ∙ ap moved (sym c.in_err-told.was ∙ c.told.ensures)

pub returns : goal.returns
returns c = ap Some c.advance.ensures ∙ ap moved (sym c.in_ok-told.was ∙ c.told.ensures)
