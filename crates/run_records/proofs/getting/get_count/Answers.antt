-- `get_count` meets its contract.
use mathlib.Core.Path.{refl}
use Rattle.run_separator.proofs.Got.{counted-all}
use borrow.Author.Rules.{rules}
use Rattle.run_records.proofs.getting.get_count.Reads as reads
use Rattle.run_records.proofs.getting.get_count.Lts as lts
use Rattle.run_lines.proofs.split_all.Reads as split-all-reads
use Rattle.run_room.proofs.set_number.Reads as set-number-reads
use Rattle.run_records.proofs.getting.get_count.Goals as goal

pub returns : goal.returns
returns c =
    let a = c.args in
    let p = c.requires in
    counted-all a.edition.number a.t.now a.kind a.work.now _ _ a.line c.split_all-r.result a.slot p.0 p.1 p.3 c.split_all-r.ensures _ refl c.set_number.ensures
