-- `put_entry` meets its contract: two words are written.
use native.Mathlib.Omega.{arith}
use Rattle.run_room.proofs.Entrywise.{entered}
use Rattle.run_room.proofs.entries.put_entry.Goals as goal

pub put_word-requires-2 : goal.put_word-requires-2
put_word-requires-2 c = omega arith

pub returns : goal.returns
returns c =
    let a = c.args in
    entered a.work.now a.k a.e c.requires.2 c.requires.3 (omega arith) (omega arith) (omega arith) c.put_word.ensures c.put_word-2.ensures
