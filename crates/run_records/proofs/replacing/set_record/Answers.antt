-- `set_record` meets its contract: 18, then what `begin_part` does with the text that is shown.
use mathlib.Core.Path.{refl}
use native.Mathlib.Omega.{arith}
use Rattle.run_records.proofs.Replaced.{set-refused, set-begun}
use borrow.Author.Rules.{rules}
use Rattle.run_records.proofs.replacing.set_record.Reads as reads
use Rattle.run_records.proofs.replacing.set_record.Lts as lts
use Rattle.run_input.proofs.begin_part.Reads as begin-part-reads
use Rattle.run_input.proofs.refusal_of.Reads as refusal-of-reads
use Rattle.run_room.proofs.show.Reads as show-reads
use Rattle.run_records.proofs.replacing.set_record.Goals as goal

pub returns-then-o-ne0 : goal.returns-then-o-ne0
returns-then-o-ne0 c = let a = c.args in set-refused a.edition.number a.t.now a.kind a.work.now a.line a.v c.refusal_of-o.result c.requires.1 c.refusal_of-o.ensures c.if-o-ne0.true

pub returns : goal.returns
returns c =
    let a = c.args in
    let p = c.requires in
    set-begun a.edition.number a.t.now a.kind a.work.now a.line a.v c.refusal_of-o.result p.1 c.refusal_of-o.ensures
    c.show-n.new.work _ c.begin_part.result.line c.show-n.result c.begin_part.result.outcome c.if-o-ne0.false p.0 p.3 c.show-n.ensures c.begin_part.ensures
