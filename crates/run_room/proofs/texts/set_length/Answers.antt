-- `set_length` meets its contract: the head says how long the text is that is there.
use mathlib.Core.Path.{refl}
use mathlib.Core.List.{[]}
use native.Mathlib.Omega.{arith}
use Rattle.run_room.proofs.Slotwise.{slotted-front, slotted-words}
use Rattle.run_room.proofs.texts.set_length.Goals as goal

pub returns : goal.returns
returns c =
    let a = c.args in
    slotted-words a.work.now _ a.i _ _ _ refl
    (slotted-front a.work.now a.i 2 a.n [] (omega arith) (omega arith) (omega arith) (omega arith) c.put_kind.ensures)
