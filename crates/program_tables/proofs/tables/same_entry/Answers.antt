-- `same_entry`: numbers by value, texts by their bytes.
use mathlib.Core.Path.{sym, ◌∙◌}
use Rattle.program_tables.proofs.Entries.{number_same, text-number, text_same}
use Rattle.program_tables.proofs.tables.same_entry.Goals as goal

pub returns-then-a-eq0 : goal.returns-then-a-eq0
returns-then-a-eq0 c =
    let a = c.args in
    sym (number_same a.s.now a.escapes a.a a.b c.if-a-eq0.true)

pub returns-then-b-eq0 : goal.returns-then-b-eq0
returns-then-b-eq0 c =
    let a = c.args in
    sym (text-number a.s.now a.escapes a.a a.b c.if-a-eq0.false c.if-b-eq0.true)

pub returns : goal.returns
returns c =
    let a = c.args in
    c.same_value.ensures
    ∙ sym (text_same a.s.now a.escapes a.a a.b c.if-a-eq0.false
    c.if-b-eq0.false)
