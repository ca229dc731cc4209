-- `instruction_at` meets its contract: a code that there is, a depth, and what the code names.
use mathlib.Core.Path.{sym, ap, ◌∙◌}
use mathlib.Core.Bool.{not}
use borrow.Author.Tests.{not-true, not-false}
use Rattle.image_items.proofs.Fetching.{code-missing, code-unknown, depth-missing, depth-there}
use Rattle.image_items.proofs.items.instruction_at.Goals as goal

pub returns-in_default : goal.returns-in_default
returns-in_default c = code-missing c.args.edition c.args.image.now c.args.at c.in_default.ensures

pub returns-then-not-known_code : goal.returns-then-not-known_code
returns-then-not-known_code c =
    let a = c.args in
    code-unknown a.edition a.image.now a.at _ _ c.in-Some.ensures
    (sym c.known_code.ensures ∙ not-true _ (ap not c.if-not-known_code.true))

pub returns-in_default-take_number : goal.returns-in_default-take_number
returns-in_default-take_number c =
    let a = c.args in
    depth-missing a.edition a.image.now a.at _ _ c.in-Some.ensures
    (sym c.known_code.ensures ∙ not-false _ (ap not c.if-not-known_code.false)) c.in_default-take_number.ensures

pub returns : goal.returns
returns c =
    let a = c.args in
    depth-there a.edition a.image.now a.at _ _ c.in-Some.ensures
    (sym c.known_code.ensures ∙ not-false _ (ap not c.if-not-known_code.false)) _ _ c.in-Some-take_number.ensures _
    c.operands_at.ensures
