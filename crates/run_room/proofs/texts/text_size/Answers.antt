-- `text_size` meets its contract: a text's length is in the head, clipped.
use Rattle.run_room.specs.Room.{word_at}
use Rattle.run_room.proofs.Slotwise.{texted, texted-none}
use Rattle.run_room.proofs.texts.text_size.Goals as goal

pub returns-then-h-lt2 : goal.returns-then-h-lt2
unfolding word_at
returns-then-h-lt2 c =
    let a = c.args in
    texted-none a.work.now a.i c.get_word-h.result c.get_word-h.ensures c.if-h-lt2.true

pub returns : goal.returns
unfolding word_at
returns c =
    let a = c.args in
    texted a.work.now a.i c.get_word-h.result c.get_word-h.ensures c.size_in.result c.size_in.ensures c.if-h-lt2.false
