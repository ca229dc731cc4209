-- `put_kind` meets its contract: one word is written.
use Rattle.run_room.proofs.slots.put_kind.Goals as goal

pub returns : goal.returns
returns c = c.put_word.ensures
