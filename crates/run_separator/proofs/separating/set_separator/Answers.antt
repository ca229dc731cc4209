-- `set_separator` meets its contract.
use native.Mathlib.Omega.{arith}
use Rattle.run_lines.specs.Records.{fs_slot}
use Rattle.run_separator.proofs.Got.{set_all}
use borrow.Author.Rules.{rules}
use Rattle.run_separator.proofs.separating.set_separator.Reads as reads
use Rattle.run_separator.proofs.separating.set_separator.Lts as lts
use Rattle.run_lines.proofs.split_all.Reads as split-all-reads
use Rattle.run_room.proofs.copy_slot.Reads as copy-slot-reads
use Rattle.run_separator.proofs.separating.set_separator.Goals as goal

pub returns : goal.returns
returns c =
    let a = c.args in
    let p = c.requires in
    set_all a.edition.number a.t.now a.kind a.work.now _ _ a.line c.split_all-r.result fs_slot p.0 p.1 (omega arith) c.split_all-r.ensures a.from p.3 c.copy_slot.ensures
