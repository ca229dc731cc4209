-- `get_variable` meets its contract: by where the value is.
use Rattle.run_operations.proofs.Assigning.{gets-fields, gets-records, gets-stored}
use borrow.Author.Rules.{rules}
use Rattle.run_operations.proofs.variables.get_variable.Goals as goal

pub returns-then-source-eq-FIELD_COUNT : goal.returns-then-source-eq-FIELD_COUNT
returns-then-source-eq-FIELD_COUNT c =
    let a = c.args in
    gets-fields a.edition.number a.t.now a.kind a.records a.v a.a c.source-source.result a.work.now
    _ a.line
    c.source-source.ensures c.get_count.result c.if-source-eq-FIELD_COUNT.true c.get_count.ensures

pub returns-then-source-eq-RECORD_COUNT : goal.returns-then-source-eq-RECORD_COUNT
returns-then-source-eq-RECORD_COUNT c =
    let a = c.args in
    gets-records a.edition.number a.t.now a.kind a.records a.v a.a c.source-source.result
    a.work.now _ a.line
    c.source-source.ensures c.requires.5 c.requires.1 c.if-source-eq-RECORD_COUNT.true c.set_number.ensures

pub returns : goal.returns
returns c =
    let a = c.args in
    gets-stored a.edition.number a.t.now a.kind a.records a.v a.a c.source-source.result a.work.now
    _ a.line
    c.source-source.ensures c.requires.5 c.requires.1 c.if-source-eq-FIELD_COUNT.false c.if-source-eq-RECORD_COUNT.false c.requires.4 c.copy_slot.ensures
