-- `read_entry` meets its contract: `part` clips a span as the code does.
use native.Mathlib.Omega.{arith}
use Rattle.run_room.specs.Room.{word_at}
use Rattle.run_room.proofs.Entrywise.{entry_read}
use Rattle.run_room.proofs.entries.read_entry.Goals as goal

pub returns : goal.returns
unfolding word_at
returns c =
    let a = c.args in
    record {
      inside = omega (arith, c.min-start.ensures, c.min-size.ensures);
      value = entry_read a.work.now a.line a.k c.get_word-h.result c.get_word-w.result c.min-start.result c.min-size.result c.requires.0 c.requires.1
          c.get_word-h.ensures c.get_word-w.ensures c.min-start.ensures c.min-size.ensures;
    }
