-- `get_field` meets its contract.
use Rattle.run_separator.proofs.Got.{got}
use borrow.Author.Rules.{rules}
use Rattle.run_records.proofs.getting.get_field.Reads as reads
use Rattle.run_records.proofs.getting.get_field.Lts as lts
use Rattle.run_records.proofs.getting.put_field.Reads as put-field-reads
use Rattle.run_lines.proofs.split_to.Reads as split-to-reads
use Rattle.run_records.proofs.getting.get_field.Goals as goal

pub returns : goal.returns
returns c =
    let a = c.args in
    let p = c.requires in
    let o = c.split_to-r.ensures in
    got a.edition.number a.t.now a.kind a.work.now _ _ a.line c.split_to-r.result a.slot p.0 p.1 p.4 a.k o.0 o.2 c.put_field.ensures
