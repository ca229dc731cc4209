-- `store_field` meets its contract: the number of the field, the assignment, and the value left.
use native.Mathlib.Omega.{arith}
use Rattle.values.specs.Operations.{field_number}
use Rattle.run_room.specs.Room.{slot_at}
use Rattle.run_separator.proofs.Got.{field-most}
use Rattle.run_join.proofs.Stored.{stores-stop, stores-refused, stores-value}
use borrow.Author.Rules.{rules}
use Rattle.run_join.proofs.assigning.store_field.Reads as reads
use Rattle.run_join.proofs.assigning.store_field.Lts as lts
use Rattle.run_join.proofs.assigning.assign.Reads as assign_reads
use Rattle.run_numbers.proofs.field_number.Reads as field-number-reads
use Rattle.run_room.proofs.copy_slot.Reads as copy-slot-reads
use Rattle.run_join.proofs.assigning.store_field.Goals as goal

pub returns-then-f-ne0 : goal.returns-then-f-ne0
returns-then-f-ne0 c = let a = c.args in let p = c.requires in stores-stop a.edition.number a.t.now a.kind a.work.now a.line a.a p.1 p.3 c.field_number-f.result c.field_number-f.ensures c.if-f-ne0.true

pub assign-r-requires : goal.assign-r-requires
assign-r-requires c =
    let a = c.args in
    let p = c.requires in
    (p.0, p.1, p.2, field-most (field_number (slot_at a.work.now a.a)) c.field_number-f.result c.field_number-f.ensures c.if-f-ne0.false, p.3)

pub returns-then-r-ne0 : goal.returns-then-r-ne0
returns-then-r-ne0 c =
    let a = c.args in let p = c.requires in stores-refused a.edition.number a.t.now a.kind a.work.now a.line a.a p.1 p.3 c.field_number-f.result c.field_number-f.ensures c.if-f-ne0.false _ c.assign-r.result.line c.assign-r.result.outcome c.assign-r.ensures c.if-r-ne0.true

pub returns : goal.returns
returns c =
    let a = c.args in let p = c.requires in stores-value a.edition.number a.t.now a.kind a.work.now a.line a.a p.1 p.3 c.field_number-f.result c.field_number-f.ensures c.if-f-ne0.false c.assign-r.new.work c.assign-r.result.line c.assign-r.result.outcome c.assign-r.ensures c.if-r-ne0.false _ c.copy_slot.ensures
