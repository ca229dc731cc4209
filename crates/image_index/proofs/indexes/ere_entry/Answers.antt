-- `ere_entry` meets its contract, by what `compile` answers.
use mathlib.Core.Path.{sym, ap, ◌∙◌}
use mathlib.Core.Bool.{not}
use borrow.Author.Tests.{not-true, not-false}
use Rattle.lists.proofs.Options.{none-some}
use Rattle.buffer.specs.Parts.{part}
use Rattle.image_index.specs.declared.indexes.Kind.TheVariants.{Eres}
use Rattle.image_index.proofs.Entering.{entry-unfit}
use Rattle.image_index.proofs.indexes.ere_entry.Goals as goal

pub returns-then-not-compile : goal.returns-then-not-compile
unfolding part
returns-then-not-compile c =
    let a = c.args in
    let n = c.compile.ensures.refused (not-true _ (ap not c.if-not-compile.true)) in
    entry-unfit a.edition Eres a.image.now a.at _ _ c.in_ok-e.ensures.found (λ f. none-some (sym n ∙ f.1))

pub returns : goal.returns
unfolding part
returns c =
    let y = c.in_ok-e.ensures.found in
    let e = c.compile.ensures.read (not-false _ (ap not c.if-not-compile.false)) in
    (_, y, (e.0, e.1), (_, y))
