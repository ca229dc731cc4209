-- `compare` meets its contract: the library's comparison of slices is the order.
use mathlib.Core.Path.{◌∙◌}
use Rattle.buffer.proofs.Ordering.{slices-ordering}
use Rattle.buffer.proofs.search.compare.Goals as goal

pub returns : goal.returns
returns c = c.cmp.ensures ∙ slices-ordering c.args.a.now c.args.b.now
