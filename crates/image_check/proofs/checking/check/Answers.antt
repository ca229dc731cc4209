-- `check` meets its contract: what passes was read as an image, and of the rest what is none is told apart.
use Rattle.image_check.proofs.Deciding.{long-refused, outcome-accepted, outcome-rejected, outcome-malformed}
use Rattle.image_check.specs.Sections.{ImageJudged}
use mathlib.Core.Path.{sym, subst, ◌∙◌}
use mathlib.Core.Logic.{⊎_elim}
use Rattle.image_check.proofs.checking.check.Goals as goal

pub returns-then-passes : goal.returns-then-passes
returns-then-passes c =
    let a = c.args in
    outcome-accepted a.image.now (subst (ImageJudged a.image.now) c.if-passes.true c.passes.ensures)

pub returns-then-is_image : goal.returns-then-is_image
returns-then-is_image c =
    let a = c.args in
    outcome-rejected a.image.now (sym c.if-is_image.true ∙ c.is_image.ensures) (⊎_elim (λ w. subst (ImageJudged a.image.now) w.if-passes.false w.passes.ensures) (λ w. long-refused a.image.now w.if-image-lt-IMAGE_BYTES.false) c.else-image-lt-IMAGE_BYTES.branch-raw)

pub returns : goal.returns
returns c = outcome-malformed c.args.image.now (sym c.if-is_image.false ∙ c.is_image.ensures)
