-- `header_of` meets its contract: the two numbers, one after the other.
use mathlib.Core.Path.{sym, ap, ◌∙◌}
use mathlib.Core.Bool.{not}
use borrow.Author.Tests.{not-true, not-false}
use Rattle.image_items.proofs.Following.{edition-missing, edition-unknown, users-missing, header-there}
use Rattle.image_items.proofs.header.header_of.Goals as goal

pub returns-in_default : goal.returns-in_default
returns-in_default c = edition-missing c.args.image.now c.in_default.ensures

pub returns-then-not-known_edition : goal.returns-then-not-known_edition
returns-then-not-known_edition c =
    edition-unknown c.args.image.now _ _ c.in-Some.ensures
    (sym c.known_edition.ensures ∙ not-true _ (ap not c.if-not-known_edition.true))

pub returns-in_default-take_number : goal.returns-in_default-take_number
returns-in_default-take_number c =
    users-missing c.args.image.now _ _ c.in-Some.ensures c.in_default-take_number.ensures

pub returns : goal.returns
returns c =
    header-there c.args.image.now _ _ c.in-Some.ensures
    (sym c.known_edition.ensures ∙ not-false _ (ap not c.if-not-known_edition.false)) _ _ c.in-Some-take_number.ensures
