-- `sections` meets its contract: each section starts where the one before it ends.
use Rattle.image_loader.proofs.Walking.{no-begin, no-main, no-end, sections-loaded}
use Rattle.image_loader.proofs.loading.sections.Goals as goal

pub returns-in_default : goal.returns-in_default
returns-in_default c =
    let a = c.args in
    no-begin a.edition a.image.now a.at c.list_at.new.index c.in_default.ensures _ _ _ _

pub list_at-requires-2 : goal.list_at-requires-2
list_at-requires-2 c = (c.in-Some.ensures.1.inside, c.requires.1)

pub returns-in_default-list_at : goal.returns-in_default-list_at
returns-in_default-list_at c =
    let a = c.args in
    no-main a.edition a.image.now a.at _ _ c.in-Some.ensures c.list_at-2.new.index c.in_default-list_at.ensures _ _ _ _

pub list_at-requires-3 : goal.list_at-requires-3
list_at-requires-3 c = (c.in-Some-list_at.ensures.1.inside, c.requires.1)

pub returns-in_default-list_at-2 : goal.returns-in_default-list_at-2
returns-in_default-list_at-2 c =
    let a = c.args in
    no-end a.edition a.image.now a.at _ _ c.in-Some.ensures _ _ c.in-Some-list_at.ensures c.list_at-3.new.index c.in_default-list_at-2.ensures _ _ _ _

pub returns : goal.returns
returns c =
    let a = c.args in
    sections-loaded a.edition a.image.now a.at _ _ c.in-Some.ensures _ _ c.in-Some-list_at.ensures _ _ c.in-Some-list_at-2.ensures
