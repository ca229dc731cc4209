-- `length_of` meets its contract.
use Rattle.run_room.specs.Room.{slot_at}
use Rattle.run_values.proofs.Wording.{shown-size, length-is}
use Rattle.run_values.proofs.Steps.{same-shown, left-slot}
use Rattle.run_texts.proofs.texts.length_of.Goals as goal

pub returns : goal.returns
returns c =
    let pre = c.requires in
    let a = c.args in
    let v = slot_at a.work.now a.a in
    let n = c.show-n in
    left-slot a.a _ _
    (length-is v n.result (shown-size a.work.now _ a.a n.result pre.0 pre.1 n.ensures)) pre.1
    (same-shown a.work.now _ a.a n.result pre.1 n.ensures) c.set_number.ensures
