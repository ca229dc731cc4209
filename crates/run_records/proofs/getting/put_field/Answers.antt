-- `put_field` meets its contract: the record, a field above the known ones, or the value of an entry.
use native.Mathlib.Omega.{arith}
use Rattle.run_room.proofs.Slotwise.{slotted-is}
use Rattle.run_lines.proofs.Stored.{known-record, known-above, known-entry}
use borrow.Author.Rules.{rules}
use Rattle.run_records.proofs.getting.put_field.Reads as reads
use Rattle.run_records.proofs.getting.put_field.Lts as lts
use Rattle.run_room.proofs.read_entry.Reads as read-entry-reads
use Rattle.run_room.proofs.record_start.Reads as record-start-reads
use Rattle.run_room.proofs.set_unset.Reads as set-unset-reads
use Rattle.run_room.proofs.set_value.Reads as set-value-reads
use Rattle.run_records.proofs.getting.put_field.Goals as goal

pub returns-then-k-eq0 : goal.returns-then-k-eq0
returns-then-k-eq0 c =
    let a = c.args in
    slotted-is a.work.now _ a.slot _ _ (known-record a.work.now a.line 0 c.record_start-start.result a.k c.record_start-start.ensures c.if-k-eq0.true) c.set_value.ensures

pub returns-then-line-k : goal.returns-then-line-k
returns-then-line-k c =
    let a = c.args in
    slotted-is a.work.now _ a.slot _ _ (known-above a.work.now a.line a.k c.if-line-k.true) c.set_unset.ensures

pub returns : goal.returns
returns c =
    let a = c.args in
    slotted-is a.work.now _ a.slot _ _
    (known-entry a.work.now a.line c.record_start-start.result a.k c.read_entry-e.result c.record_start-start.ensures c.if-k-eq0.false (omega (arith, c.if-line-k.false)) c.read_entry-e.ensures)
    c.set_value-2.ensures
