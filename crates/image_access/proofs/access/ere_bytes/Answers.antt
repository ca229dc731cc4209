-- `ere_bytes` meets its contract: the text that is at the entry's place is the one that the entry tells.
use native.Mathlib.Omega.{arith}
use lib.ListN.{get_or}
use Rattle.buffer.specs.Parts.{part}
use Rattle.image_access.proofs.Reaching.{is-part, text-missed, text-reached}
use Rattle.image_access.proofs.access.ere_bytes.Goals as goal

pub returns-in_default : goal.returns-in_default
unfolding part
returns-in_default c =
    let a = c.args in (
      is-part a.image.now a.image.ref_ptr 0 0 (omega arith) (omega arith),
      λ edition bytes s. text-missed a.image.now (get_or a.index.now a.n 0) s.0 bytes c.in_default.ensures s.1,
    )

pub returns : goal.returns
unfolding part
returns c =
    let a = c.args in
    let t = c.in-Some.t in
    let y = c.in-Some.ensures in (
      is-part a.image.now a.image.ref_ptr t.start t.end y.inside.0 y.inside.1,
      λ edition bytes s. text-reached a.image.now (get_or a.index.now a.n 0) s.0 bytes t y s.1,
    )
