-- `equal` meets its contract: the library's test of slices is the test.
use mathlib.Core.Path.{◌∙◌}
use Rattle.buffer.proofs.Ordering.{slices-equal}
use Rattle.buffer.proofs.search.equal.Goals as goal

pub returns : goal.returns
returns c = c.eq.ensures ∙ slices-equal c.args.a.now c.args.b.now
