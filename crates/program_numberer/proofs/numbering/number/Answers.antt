-- `number`: one section after the other.
use borrow.Author.Rules.{rules}
use Rattle.program_numberer.proofs.Turns.{numbered-some, program-numbers}
use Rattle.program_numberer.proofs.numbering.number.Goals as goal

pub number_section-m-requires : goal.number_section-m-requires
number_section-m-requires c =
    let a = c.args in
    let p = c.requires in
    let b = c.number_section-b in (
      p.0,
      p.2,
      search rules,
      numbered-some a.edition.number a.s.now a.what _ _ _ _ _ _ _ b.ensures p.5,
      p.6,
    )

pub number_section-requires : goal.number_section-requires
number_section-requires c =
    let a = c.args in
    let p = c.requires in
    let b = c.number_section-b in
    let m = c.number_section-m in
    let some = numbered-some a.edition.number a.s.now a.what _ _ _ _ _ _ _ b.ensures p.5 in (
      p.0,
      p.3,
      search rules,
      numbered-some a.edition.number a.s.now a.what _ _ _ _ _ _ _ m.ensures some,
      p.6,
    )

pub returns : goal.returns
returns c =
    let a = c.args in
    let b = c.number_section-b in
    let m = c.number_section-m in
    let e = c.number_section in
    program-numbers a.edition.number a.s.now a.what a.begin.now a.main.now a.end.now
    a.sections.begin a.sections.main a.sections.end _ _ _ a.table.now _ _ _ a.n b.result
    m.result e.result b.ensures m.ensures e.ensures (search rules) (search rules)
