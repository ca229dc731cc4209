-- `sections` meets its contract: each section starts where the one before it ends, and the last ends where the image
-- does.
use mathlib.Core.Path.{refl}
use borrow.Author.Rules.{rules}
use Rattle.image_check.proofs.Deciding.{first-refused, second-refused, third-refused, third-judged}
use Rattle.image_check.proofs.checking.sections.Goals as goal

pub returns-in_default : goal.returns-in_default
returns-in_default c =
    let a = c.args in
    let x = a.context in
    first-refused x.edition x.users x.constants x.eres a.image.now a.at c.in_default.ensures

pub section-requires-2 : goal.section-requires-2
section-requires-2 c = (c.in-Some.ensures.inside, c.requires.1, search rules, c.requires.2)

pub returns-in_default-section : goal.returns-in_default-section
returns-in_default-section c =
    let a = c.args in
    let x = a.context in
    second-refused x.edition x.users x.constants x.eres a.image.now a.at _ c.in-Some.ensures c.in_default-section.ensures

pub section-requires-3 : goal.section-requires-3
section-requires-3 c = (c.in-Some-section.ensures.inside, c.requires.1, search rules, c.requires.2)

pub returns-in_default-section-2 : goal.returns-in_default-section-2
returns-in_default-section-2 c =
    let a = c.args in
    let x = a.context in
    third-refused x.edition x.users x.constants x.eres a.image.now a.at _ c.in-Some.ensures _ c.in-Some-section.ensures
    c.in_default-section-2.ensures

pub returns : goal.returns
returns c =
    let a = c.args in
    let x = a.context in
    third-judged x.edition x.users x.constants x.eres a.image.now a.at _ c.in-Some.ensures _ c.in-Some-section.ensures _
    c.in-Some-section-2.ensures _ refl
