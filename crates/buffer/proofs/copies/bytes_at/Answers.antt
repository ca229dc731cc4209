-- `bytes_at` meets its contract: the part that was lent was copied.
use mathlib.Core.Path.{refl, ◌∙◌}
use Rattle.buffer.proofs.Lent.{part-lent}
use Rattle.buffer.proofs.copies.bytes_at.Goals as goal

pub returns : goal.returns
returns g c = c.copy_from_slice.ensures.after ∙ part-lent c.args.s.now c.args.at _ g.row.N refl
