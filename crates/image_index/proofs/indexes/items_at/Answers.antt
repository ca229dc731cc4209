-- `items_at` meets its contract: k items are passed, each fits, and those that the index has room for have their
-- entries there.
use native.Mathlib.Omega.{arith}
use borrow.Author.Rules.{rules}
use Rattle.image_index.proofs.Indexing.{passed_none, passed-all, passed-more, passed-refused}
use Rattle.image_index.proofs.indexes.items_at.Goals as goal

pub loop-k-init : goal.loop-k-init
loop-k-init c = (search rules, passed_none _ _ _ _ _ c.requires.0)

pub entry_at-requires : goal.entry_at-requires
entry_at-requires c = (c.loop-k.invariant.1.inside, c.requires.1)

pub returns-in_err-e : goal.returns-in_err-e
returns-in_err-e c =
    rw c.from_residual.ensures (passed-refused _ _ _ _ _ _ _ c.loop-k.invariant.1 c.in_err-e.ensures _ c.loop-k-test.true c.loop-k.index)

pub loop-k-preserved : goal.loop-k-preserved
loop-k-preserved c = (search rules, passed-more _ _ _ _ _ _ _ c.loop-k.invariant.1 _ c.in_ok-e.ensures _ c.put_entry.ensures)

pub returns : goal.returns
returns c = passed-all _ _ _ _ _ _ _ c.loop-k.invariant.1 _ (omega (arith, c.loop-k.auto.k-end, c.loop-k-test.false))
