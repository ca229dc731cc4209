-- `show` meets its contract: a number's digits are outside of what its slot stands for.
use native.Mathlib.Omega.{arith}
use Rattle.run_room.proofs.Decimal.{decimal-most}
use Rattle.run_room.proofs.Slotwise.{shown-text, shown-number}
use Rattle.run_room.proofs.texts.show.Goals as goal

pub write_decimal-requires : goal.write_decimal-requires
write_decimal-requires c =
    let n = c.slot_number-w in
    (n.ensures.within, omega (arith, decimal-most n.result n.ensures.within))

pub returns-then-slot_kind-eq-NUMBER : goal.returns-then-slot_kind-eq-NUMBER
returns-then-slot_kind-eq-NUMBER c =
    let a = c.args in
    let n = c.slot_number-w in
    let d = c.write_decimal.ensures in
    shown-number a.work.now a.i c.slot_kind.result n.result _ (omega arith) c.slot_kind.ensures c.if-slot_kind-eq-NUMBER.true n.ensures d.0
    (omega (arith, decimal-most n.result n.ensures.within)) d.1

pub returns : goal.returns
returns c =
    let a = c.args in
    shown-text a.work.now a.i c.slot_kind.result c.text_size.result c.slot_kind.ensures c.if-slot_kind-eq-NUMBER.false c.text_size.ensures
