-- `to_number` meets its contract.
use Rattle.values.specs.Value.{number_of}
use Rattle.values.proofs.Numbers.{to-number-is, to-number-stops}
use Rattle.run_room.specs.Room.{slot_at}
use Rattle.run_values.proofs.Computing.{taken-stops, taken-gives}
use Rattle.run_values.proofs.Steps.{same-room, left-stops, left-slot}
use Rattle.run_values.proofs.arithmetic.to_number.Goals as goal

pub returns-then-x-ne0 : goal.returns-then-x-ne0
returns-then-x-ne0 c =
    let if1 = c.if-x-ne0 in
    let a = c.args in
    let v = slot_at a.work.now a.a in
    let x = c.take_number-x in
    left-stops a.a _ _ (to-number-stops v (taken-stops (number_of v) x.result x.ensures if1.true))
    if1.true (same-room a.work.now)

pub set_number-requires : goal.set_number-requires
set_number-requires c =
    let pre = c.requires in
    let a = c.args in
    let v = slot_at a.work.now a.a in
    let x = c.take_number-x in
    (pre.0, pre.1, (taken-gives (number_of v) x.result x.ensures c.if-x-ne0.false).1)

pub returns : goal.returns
returns c =
    let if1 = c.if-x-ne0 in
    let pre = c.requires in
    let a = c.args in
    let v = slot_at a.work.now a.a in
    let x = c.take_number-x in
    left-slot a.a _ _ (to-number-is v (taken-gives (number_of v) x.result x.ensures if1.false).0) pre.1
    (same-room a.work.now) c.set_number.ensures
