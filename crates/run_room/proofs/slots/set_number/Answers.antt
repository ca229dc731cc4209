-- `set_number` meets its contract: a number is its head alone.
use native.Mathlib.Omega.{arith}
use Rattle.run_room.proofs.Slotwise.{slotted-head, slotted-number}
use Rattle.run_room.proofs.slots.set_number.Goals as goal

pub returns : goal.returns
returns c =
    let a = c.args in
    slotted-number a.work.now _ a.i a.w _ c.requires.2
    (slotted-head a.work.now a.i 1 0 a.w (omega arith) (omega arith) (omega arith) (omega arith) c.put_head.ensures)
