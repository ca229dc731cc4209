-- `field_number` meets its contract: 11 or 12, then 16.
use mathlib.Core.Path.{refl}
use Rattle.run_room.specs.Room.{slot_at}
use Rattle.run_numbers.proofs.Numbered.{field-stops, field-low, field-over, field-some}
use Rattle.run_numbers.proofs.numbers.field_number.Goals as goal

pub returns-then-n-ne0 : goal.returns-then-n-ne0
returns-then-n-ne0 c = let a = c.args in field-stops _ c.take_number-n.result (slot_at a.work.now a.i) c.take_number-n.ensures c.if-n-ne0.true refl

pub returns-then-n-lt-ZERO : goal.returns-then-n-lt-ZERO
returns-then-n-lt-ZERO c =
    let a = c.args in field-low _ c.take_number-n.result (slot_at a.work.now a.i) c.take_number-n.ensures c.if-n-ne0.false c.if-n-lt-ZERO.true refl

pub returns-then-k : goal.returns-then-k
returns-then-k c =
    let a = c.args in field-over _ c.take_number-n.result (slot_at a.work.now a.i) c.take_number-n.ensures c.if-n-ne0.false c.if-n-lt-ZERO.false c.if-k.true refl

pub returns : goal.returns
returns c =
    let a = c.args in field-some _ c.take_number-n.result (slot_at a.work.now a.i) c.take_number-n.ensures c.if-n-ne0.false c.if-n-lt-ZERO.false c.if-k.false refl refl
