-- `translate_by`: the refusals of a text as a whole come first.
use Rattle.program_writer.proofs.Storing.{too_long, nul-there, no_nul}
use native.Mathlib.Omega.{arith}
use Rattle.translator.proofs.translating.translate_by.Goals as goal

pub returns-then-text-gt-FILTER_TEXT : goal.returns-then-text-gt-FILTER_TEXT
returns-then-text-gt-FILTER_TEXT c =
    let a = c.args in
    too_long a.edition.number a.text.now a.image.now (omega (arith, c.if-text-gt-FILTER_TEXT.true))

pub returns-then-nul-text : goal.returns-then-nul-text
returns-then-nul-text c =
    let a = c.args in
    let n = c.first_byte-nul in
    nul-there a.edition.number a.text.now a.image.now (omega (arith, c.if-text-gt-FILTER_TEXT.false)) n.result n.ensures (omega (arith, c.if-nul-text.true))

pub returns : goal.returns
returns c =
    let a = c.args in
    let n = c.first_byte-nul in
    no_nul a.edition.number a.text.now a.image.now (omega (arith, c.if-text-gt-FILTER_TEXT.false)) n.result n.ensures (omega (arith, c.if-nul-text.false))
    c.translate_text.ensures
