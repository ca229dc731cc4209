-- `copy` meets its contract: the part that the library copied to came back.
use mathlib.Core.Path.{ap, ◌∙◌}
use native.Mathlib.Omega.{arith}
use Rattle.buffer.specs.Parts.{put}
use Rattle.buffer.proofs.Lent.{part-came}
use Rattle.buffer.proofs.copies.copy.Goals as goal

pub returns : goal.returns
returns c =
    let a = c.args in
    let f = c.copy_from_slice.ensures in
    part-came a.dst.now a.at _ _ (omega arith) f.len ∙ ap (put a.dst.now a.at) f.after
