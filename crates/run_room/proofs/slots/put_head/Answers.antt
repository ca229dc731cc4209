-- `put_head` meets its contract: two words are written.
use Rattle.run_room.proofs.Slotwise.{head-put}
use Rattle.run_room.proofs.slots.put_head.Goals as goal

pub returns : goal.returns
returns c =
    let a = c.args in
    head-put a.work.now a.at a.kind a.n a.w c.requires.0 c.put_kind.ensures c.put_word.ensures
