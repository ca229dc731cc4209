-- `split_all` meets its contract: after `split_to` nothing is left, or no field.
use borrow.Author.Rules.{rules}
use Rattle.run_lines.proofs.Stored.{all_of}
use Rattle.run_lines.proofs.lines.split_all.Reads as reads
use Rattle.run_lines.proofs.lines.split_all.Lts as lts
use Rattle.run_lines.proofs.lines.split_to.Reads as split-to-reads
use Rattle.run_room.proofs.lines.Line.split.Reads as split-reads
use Rattle.run_lines.proofs.lines.split_all.Goals as goal

pub returns : goal.returns
returns c =
    let a = c.args in
    let p = c.requires in
    let o = c.split_to-r.ensures in
    all_of a.edition.number a.t.now a.kind a.work.now _ a.line c.split_to-r.result p.0 p.1 p.3 o.2 o.0 o.1 c.split.result c.split.ensures
