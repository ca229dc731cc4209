-- `put_word` meets its contract, by its test.
use borrow.Author.Tests.{lt-ltb, le-ltb}
use lib.ListN.{length}
use Rattle.image.proofs.reading.put_word.Goals as goal

pub returns-then-k-room : goal.returns-then-k-room
returns-then-k-room c = rw (lt-ltb c.args.k (length c.args.room.now) c.if-k-room.true)

pub returns-else-k-room : goal.returns-else-k-room
returns-else-k-room c = rw (le-ltb c.args.k (length c.args.room.now) c.if-k-room.false)
