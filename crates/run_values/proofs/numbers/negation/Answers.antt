-- `negation` meets its contract.
use Rattle.run_room.specs.Room.{slot_at}
use Rattle.run_values.proofs.Judging.{not-stops, not_gives}
use Rattle.run_values.proofs.Steps.{same-room, left-stops, left-slot}
use Rattle.run_values.proofs.numbers.negation.Goals as goal

pub returns-then-t-ne0 : goal.returns-then-t-ne0
returns-then-t-ne0 c =
    let if1 = c.if-t-ne0 in
    let a = c.args in
    let v = slot_at a.work.now a.a in
    let t = c.is_true-t in
    left-stops a.a _ _ (not-stops v t.result t.ensures if1.true) if1.true (same-room a.work.now)

pub returns : goal.returns
returns c =
    let if1 = c.if-t-ne0 in
    let pre = c.requires in
    let a = c.args in
    let v = slot_at a.work.now a.a in
    let t = c.is_true-t in
    left-slot a.a _ _ (not_gives v t.result t.ensures if1.false) pre.1 (same-room a.work.now)
    c.set_truth.ensures
