-- `slot_kind` meets its contract: the kind is the head's first byte.
use Rattle.run_room.specs.Room.{word_at}
use Rattle.run_room.proofs.Slotwise.{kind-is}
use Rattle.run_room.proofs.slots.slot_kind.Goals as goal

pub returns : goal.returns
unfolding word_at
returns c =
    let a = c.args in
    kind-is a.work.now a.i c.get_word.result c.get_word.ensures
