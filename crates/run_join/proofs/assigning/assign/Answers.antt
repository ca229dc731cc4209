-- `assign` meets its contract.
use native.Mathlib.Omega.{arith}
use Rattle.run_join.proofs.Stored.{assigns-record, assigns-field}
use borrow.Author.Rules.{rules}
use Rattle.run_join.proofs.assigning.assign.Reads as reads
use Rattle.run_join.proofs.assigning.assign.Lts as lts
use Rattle.run_join.proofs.assigning.set_field.Reads as set-field-reads
use Rattle.run_records.proofs.set_record.Reads as set-record-reads
use Rattle.run_join.proofs.assigning.assign.Goals as goal

pub returns-then-k-eq0 : goal.returns-then-k-eq0
returns-then-k-eq0 c =
    let a = c.args in
    assigns-record a.edition.number a.t.now a.kind a.work.now _ a.line c.set_record.result.line a.v c.set_record.result.outcome a.k c.if-k-eq0.true c.set_record.ensures

pub returns : goal.returns
returns c =
    let a = c.args in
    assigns-field a.edition.number a.t.now a.kind a.work.now _ a.line c.set_field.result.line a.v c.set_field.result.outcome a.k c.if-k-eq0.false c.set_field.ensures
