-- `load_field` meets its contract.
use native.Mathlib.Omega.{arith}
use Rattle.values.specs.Operations.{field_number}
use Rattle.run_room.specs.Room.{slot_at}
use Rattle.run_separator.proofs.Got.{field-most, load-stop, load_field}
use borrow.Author.Rules.{rules}
use Rattle.run_records.proofs.getting.load_field.Reads as reads
use Rattle.run_records.proofs.getting.load_field.Lts as lts
use Rattle.run_records.proofs.getting.get_field.Reads as get-field-reads
use Rattle.run_numbers.proofs.field_number.Reads as field-number-reads
use Rattle.run_records.proofs.getting.load_field.Goals as goal

pub returns-then-f-ne0 : goal.returns-then-f-ne0
returns-then-f-ne0 c = let a = c.args in load-stop a.edition.number a.t.now a.kind a.work.now a.line a.a c.field_number-f.result c.field_number-f.ensures c.requires.1 c.if-f-ne0.true

pub get_field-r-requires : goal.get_field-r-requires
get_field-r-requires c =
    let a = c.args in
    let p = c.requires in
    (p.0, p.1, p.2, field-most (field_number (slot_at a.work.now a.a)) c.field_number-f.result c.field_number-f.ensures c.if-f-ne0.false, p.3)

pub returns : goal.returns
returns c =
    let a = c.args in
    load_field a.edition.number a.t.now a.kind a.work.now a.line a.a c.field_number-f.result c.field_number-f.ensures _ c.get_field-r.result c.if-f-ne0.false c.get_field-r.ensures
