-- `calculate` meets its contract: the left number, the right one, what is computed of them.
use Prim.Native.Nat.{◌+◌}
use Rattle.values.specs.Value.{number_of}
use Rattle.values.proofs.Numbers.{arithmetic-stops-left, arithmetic-stops-right}
use Rattle.run_room.specs.Room.{slot_at}
use Rattle.run_values.specs.Codes.{arithmetic_by}
use Rattle.run_values.proofs.Computing.{taken-stops, taken-gives, arithmetic-is}
use Rattle.run_values.proofs.Steps.{same-room, left_is, left-stops}
use Rattle.run_values.proofs.arithmetic.calculate.Goals as goal

pub returns-then-left-ne0 : goal.returns-then-left-ne0
returns-then-left-ne0 c =
    let if1 = c.if-left-ne0 in
    let a = c.args in
    let v = slot_at a.work.now a.a in
    let w = slot_at a.work.now (a.a + 1) in
    let x = c.take_number-left in
    left-stops a.a _ _
    (arithmetic-stops-left (arithmetic_by a.code) v w
    (taken-stops (number_of v) x.result x.ensures if1.true))
    if1.true (same-room a.work.now)

pub returns-then-right-ne0 : goal.returns-then-right-ne0
returns-then-right-ne0 c =
    let if1 = c.if-left-ne0 in
    let if2 = c.if-right-ne0 in
    let a = c.args in
    let v = slot_at a.work.now a.a in
    let w = slot_at a.work.now (a.a + 1) in
    let x = c.take_number-left in
    let y = c.take_number-right in
    left-stops a.a _ _
    (arithmetic-stops-right (arithmetic_by a.code) v w
    (taken-gives (number_of v) x.result x.ensures if1.false).0
    (taken-stops (number_of w) y.result y.ensures if2.true))
    if2.true (same-room a.work.now)

pub computed-requires : goal.computed-requires
computed-requires c =
    let if1 = c.if-left-ne0 in
    let a = c.args in
    let v = slot_at a.work.now a.a in
    let w = slot_at a.work.now (a.a + 1) in
    let x = c.take_number-left in
    let y = c.take_number-right in (
      (taken-gives (number_of v) x.result x.ensures if1.false).1,
      (taken-gives (number_of w) y.result y.ensures c.if-right-ne0.false).1,
    )

pub returns : goal.returns
returns c =
    let if1 = c.if-left-ne0 in
    let if2 = c.if-right-ne0 in
    let a = c.args in
    let v = slot_at a.work.now a.a in
    let w = slot_at a.work.now (a.a + 1) in
    let x = c.take_number-left in
    let y = c.take_number-right in
    let k = c.computed in
    left_is a.a _ _ _
    (arithmetic-is v x.result x.ensures if1.false k.result (arithmetic_by a.code) w y.result
    y.ensures if2.false k.ensures)
    c.put_computed.ensures
