-- `by_pattern` meets its contract, by what `compile` answers.
use Rattle.separators.proofs.Separating.{of-ere, of-no-ere}
use Rattle.splitting.specs.Separator.{ere}
use mathlib.Core.Path.{refl}
use borrow.Author.Rules.{rules}
use Rattle.separators.proofs.kinds.by_pattern.Goals as goal

pub returns-then-compile : goal.returns-then-compile
returns-then-compile c =
    let a = c.args in
    let k = c.compile.ensures.read c.if-compile.true in
    ((ere k.0, of-ere a.edition.number a.separator.now c.requires.0 k.0 k.1, (k.0, refl, k.2)), search rules)

pub returns : goal.returns
returns c =
    let a = c.args in
    (of-no-ere a.edition.number a.separator.now c.requires.0 (c.compile.ensures.refused c.if-compile.false), tt)
