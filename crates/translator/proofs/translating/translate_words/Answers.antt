-- `translate_words`: tables of its own, the words by number, and the image.
use mathlib.Core.Path.{refl, ◌∙◌}
use Rattle.translator.proofs.Whole.{tabulated-ready, tabulated-answer, still-sectioned}
use Rattle.translator.proofs.translating.translate_words.Goals as goal

pub number_words-counts-requires : goal.number_words-counts-requires
number_words-counts-requires c =
    let p = c.requires in
    (p.0, p.1, p.3.room, p.4.room, p.5.room, refl, refl, refl)

pub write_fitting-requires : goal.write_fitting-requires
write_fitting-requires c =
    let a = c.args in
    let p = c.requires in
    let n = c.number_words-counts in (
      p.0,
      p.2,
      tabulated-ready a.edition.number a.s.now _ _ _ p.6 _ _ _ _ _ n.result.variables
          n.result.constants n.result.eres n.ensures,
      still-sectioned a.begin.now _ a.sections.begin p.3 n.auto.begin,
      still-sectioned a.main.now _ a.sections.main p.4 n.auto.main,
      still-sectioned a.end.now _ a.sections.end p.5 n.auto.end,
    )

pub returns : goal.returns
returns c =
    let a = c.args in
    let p = c.requires in
    let n = c.number_words-counts in
    let w = c.write_fitting in
    w.ensures
    ∙ tabulated-answer a.edition.number a.s.now _ _ _ p.6 _ _ _ _ _ n.result.variables
    n.result.constants n.result.eres n.ensures a.image.now _ _ _ a.sections.begin
    a.sections.main a.sections.end refl refl refl
