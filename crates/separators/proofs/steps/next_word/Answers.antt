-- `next_word` meets its contract: a field starts where the blanks end, and ends where the next ones start.
use Rattle.separators.proofs.Stepping.{word_none, word-is, next-goes}
use Rattle.splitting.specs.Separator.{blanks, blank}
use Rattle.separators.proofs.steps.next_word.Goals as goal

pub returns-then-text-start : goal.returns-then-text-start
returns-then-text-start c = (tt, word_none c.args.text.now c.args.at (blanks c.args.edition.number) c.run_end-start.result c.run_end-start.ensures c.if-text-start.true)

pub returns : goal.returns
returns c =
    let a = c.args in
    let r = c.run_end-start in
    let e = word-is a.text.now a.at (blanks a.edition.number) r.result c.run_end-end.result r.ensures c.if-text-start.false c.run_end-end.ensures in
    (next-goes a.text.now a.at (blank (blanks a.edition.number)) _ e, e)
