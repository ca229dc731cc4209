-- `translate_text`: a refusal, a section that is too long, or the words of a program.
use mathlib.Core.Path.{refl}
use Rattle.translator.proofs.Answers.{text-refused, text-long, lengths-within, text-read, section-of}
use Rattle.translator.proofs.translating.translate_text.Goals as goal

pub returns-then-p-ne0 : goal.returns-then-p-ne0
returns-then-p-ne0 c =
    let a = c.args in
    let r = c.read_program-p in
    text-refused a.edition.number a.s.now a.image.now _ _ r.result r.ensures c.if-p-ne0.true

pub returns-then-p : goal.returns-then-p
returns-then-p c =
    let a = c.args in
    let r = c.read_program-p in
    text-long a.edition.number a.s.now a.image.now _ _ r.result r.ensures c.if-p-ne0.false c.if-p.true

pub translate_words-requires : goal.translate_words-requires
translate_words-requires c =
    let a = c.args in
    let p = c.requires in
    let r = c.read_program-p in
    let q = r.result in
    let few = lengths-within q.begin q.main q.end c.if-p.false in (
      p.0,
      p.1,
      p.2,
      section-of _ q.begin r.auto.begin few.0,
      section-of _ q.main r.auto.main few.1,
      section-of _ q.end r.auto.end few.2,
      text-read a.edition.number a.s.now _ _ _ _ _ _ q refl refl refl few r.ensures c.if-p-ne0.false,
    )
