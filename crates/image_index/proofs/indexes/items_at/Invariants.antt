-- `items_at` meets its contract: k items are passed, each fits, and those that the index has room for have their
-- entries there.
use mathlib.Core.Path.{◌≡◌}
use lib.ListN.{length}
use Rattle.image_index.proofs.Indexing.{Passed}
use Rattle.image_index.proofs.indexes.items_at.Given as goal

abbrev pub invariant-loop-k : goal.invariant-loop-k
invariant-loop-k l = (length l.index ≡ length l.initial.index) × (Passed l.edition l.kind l.image l.first l.k l.at l.index)
