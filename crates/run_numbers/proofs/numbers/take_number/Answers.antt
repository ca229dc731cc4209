-- `take_number` meets its contract, by the value's kind.
use mathlib.Core.Path.{refl}
use Rattle.run_room.specs.Room.{slot_at}
use Rattle.run_numbers.proofs.Numbered.{taken-number, taken-unset, taken-text, kind-text}
use Rattle.run_numbers.proofs.numbers.take_number.Goals as goal

pub returns-then-k-eq-NUMBER : goal.returns-then-k-eq-NUMBER
returns-then-k-eq-NUMBER c = let a = c.args in taken-number (slot_at a.work.now a.i) c.slot_kind-k.result _ c.slot_kind-k.ensures c.if-k-eq-NUMBER.true c.slot_number.ensures.within c.slot_number.ensures.value refl

pub returns-then-k-eq-UNSET : goal.returns-then-k-eq-UNSET
returns-then-k-eq-UNSET c = let a = c.args in taken-unset (slot_at a.work.now a.i) c.slot_kind-k.result _ c.slot_kind-k.ensures c.if-k-eq-UNSET.true refl refl

pub returns : goal.returns
returns c =
    let a = c.args in
    let v = slot_at a.work.now a.i in
    taken-text v c.slot_kind-k.result _ _ c.slot_kind-k.ensures c.if-k-eq-NUMBER.false c.if-k-eq-UNSET.false
    (c.slot_text.ensures (kind-text v c.slot_kind-k.result c.slot_kind-k.ensures c.if-k-eq-NUMBER.false c.if-k-eq-UNSET.false)) c.text_number.ensures
