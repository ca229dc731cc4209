-- `negate` meets its contract.
use Rattle.values.specs.Value.{number_of}
use Rattle.values.proofs.Numbers.{negate-stops}
use Rattle.run_room.specs.Room.{slot_at}
use Rattle.run_values.proofs.Computing.{taken-stops, taken-gives, negate-is}
use Rattle.run_values.proofs.Steps.{same-room, left_is, left-stops}
use Rattle.run_values.proofs.arithmetic.negate.Goals as goal

pub returns-then-x-ne0 : goal.returns-then-x-ne0
returns-then-x-ne0 c =
    let if1 = c.if-x-ne0 in
    let a = c.args in
    let v = slot_at a.work.now a.a in
    let x = c.take_number-x in
    left-stops a.a _ _ (negate-stops v (taken-stops (number_of v) x.result x.ensures if1.true)) if1.true
    (same-room a.work.now)

pub negate-requires : goal.negate-requires
negate-requires c =
    let a = c.args in
    let v = slot_at a.work.now a.a in
    let x = c.take_number-x in
    (taken-gives (number_of v) x.result x.ensures c.if-x-ne0.false).1

pub returns : goal.returns
returns c =
    let if1 = c.if-x-ne0 in
    let negate = c.negate in
    let a = c.args in
    let v = slot_at a.work.now a.a in
    let x = c.take_number-x in
    left_is a.a _ _ _ (negate-is v x.result x.ensures if1.false negate.result negate.ensures)
    c.put_computed.ensures
