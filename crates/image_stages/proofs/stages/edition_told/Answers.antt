-- `edition_told` meets its contract, by its test.
use mathlib.Core.Path.{sym, ap, ◌∙◌}
use mathlib.Core.Bool.{not}
use borrow.Author.Tests.{not-true, not-false}
use Rattle.image_stages.proofs.stages.edition_told.Goals as goal

pub returns-then-not-known_edition : goal.returns-then-not-known_edition
returns-then-not-known_edition c = rw (sym c.known_edition.ensures ∙ not-true _ (ap not c.if-not-known_edition.true))

pub returns : goal.returns
returns c = rw (sym c.known_edition.ensures ∙ not-false _ (ap not c.if-not-known_edition.false))
