-- `skips` meets its contract: it says so only of an empty set.
use mathlib.Core.Path.{sym, ◌∙◌}
use native.Mathlib.Omega.{arith}
use Rattle.ere_classes.proofs.hull.skips.Goals as goal

pub returns-then-is_empty : goal.returns-then-is_empty
returns-then-is_empty c h = sym c.set_at.ensures ∙ c.is_empty.ensures c.if-is_empty.true

pub returns-then-pairs-le16384 : goal.returns-then-pairs-le16384
returns-then-pairs-le16384 c h = absurd (omega arith)

pub returns-else-pairs-le16384 : goal.returns-else-pairs-le16384
returns-else-pairs-le16384 c h = absurd (omega arith)
