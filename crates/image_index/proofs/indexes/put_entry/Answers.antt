-- `put_entry` meets its contract, by its test.
use borrow.Author.Tests.{lt-ltb, le-ltb}
use lib.ListN.{length}
use Rattle.image_index.proofs.indexes.put_entry.Goals as goal

pub returns-then-k-index : goal.returns-then-k-index
returns-then-k-index c = rw (lt-ltb c.args.k (length c.args.index.now) c.if-k-index.true)

pub returns-else-k-index : goal.returns-else-k-index
returns-else-k-index c = rw (le-ltb c.args.k (length c.args.index.now) c.if-k-index.false)
