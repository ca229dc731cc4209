-- `slot_number` meets its contract: the head's second word, clipped.
use native.Mathlib.Omega.{arith}
use Rattle.run_room.specs.Room.{word_at}
use Rattle.run_room.proofs.Slotwise.{numbered}
use Rattle.run_room.proofs.slots.slot_number.Goals as goal

pub returns-then-w : goal.returns-then-w
unfolding word_at
returns-then-w c =
    let a = c.args in
    numbered a.work.now a.i c.get_word-w.result _ c.get_word-w.ensures (omega arith)

pub returns-else-w : goal.returns-else-w
unfolding word_at
returns-else-w c =
    let a = c.args in
    numbered a.work.now a.i c.get_word-w.result _ c.get_word-w.ensures (omega arith)
