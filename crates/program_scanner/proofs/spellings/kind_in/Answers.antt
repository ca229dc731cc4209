-- `kind_in`: what is left of the table says what the whole does.
use mathlib.Core.Path.{refl, sym, ◌∙◌}
use Rattle.program_scanner.proofs.Spelling.{row-found, row-passed, rows-end}
use Rattle.program_scanner.proofs.spellings.kind_in.Goals as goal

pub loop-word-init : goal.loop-word-init
loop-word-init c = refl

pub returns-then-since-edition : goal.returns-then-since-edition
returns-then-since-edition c =
    let a = c.args in
    let l = c.loop-word in
    sym (l.invariant ∙ row-found a.edition.number a.other a.spelling.now a.table.now l.word-index _ c.loop-word-test.true c.eq.result c.eq.ensures c.if-since-edition.true)

pub loop-word-preserved : goal.loop-word-preserved
loop-word-preserved c =
    let a = c.args in
    let l = c.loop-word in
    l.invariant ∙ row-passed a.edition.number a.other a.spelling.now a.table.now l.word-index _ c.loop-word-test.true c.eq.result c.eq.ensures c.if-since-edition.false

pub returns : goal.returns
returns c =
    let a = c.args in
    let l = c.loop-word in
    sym (l.invariant ∙ rows-end a.edition.number a.other a.spelling.now a.table.now l.word-index c.loop-word-test.false)
