-- `set_unset` meets its contract: a kind alone.
use mathlib.Core.List.{[]}
use native.Mathlib.Omega.{arith}
use Rattle.run_room.proofs.Slotwise.{slotted-front, slotted-unset}
use Rattle.run_room.proofs.slots.set_unset.Goals as goal

pub returns : goal.returns
returns c =
    let a = c.args in
    slotted-unset a.work.now _ a.i _ _
    (slotted-front a.work.now a.i 0 0 [] (omega arith) (omega arith) (omega arith) (omega arith) c.put_kind.ensures)
