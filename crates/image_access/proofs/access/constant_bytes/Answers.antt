-- `constant_bytes` meets its contract: the constant that is at the entry's place is the one that the entry tells.
use native.Mathlib.Omega.{arith}
use lib.ListN.{get_or}
use Rattle.buffer.specs.Parts.{part}
use Rattle.image_items.specs.Stands.{Inside}
use Rattle.image_access.proofs.Reaching.{is-part, constant-missed, number-reached, constant-reached}
use Rattle.image_access.proofs.access.constant_bytes.Goals as goal

pub returns-in_default : goal.returns-in_default
unfolding part
returns-in_default c =
    let a = c.args in (
      is-part a.image.now a.image.ref_ptr 0 0 (omega arith) (omega arith),
      λ edition bytes s. constant-missed a.image.now (get_or a.index.now a.n 0) s.0 bytes c.in_default.ensures s.1,
    )

pub returns-in_default-constant : goal.returns-in_default-constant
unfolding part
returns-in_default-constant c =
    let a = c.args in
    let y = c.in-Some.ensures in (
      is-part a.image.now a.image.ref_ptr 0 0 (omega arith) (omega arith),
      λ edition bytes s.
          number-reached a.image.now (get_or a.index.now a.n 0) s.0 bytes _ y.found s.1 c.in_default-constant.not-Text,
    )

pub returns : goal.returns
unfolding part
returns c =
    let a = c.args in
    let t = c.in-Text.t in
    let y = c.in-Some.ensures in
    let i : Inside a.image.now t = rw c.in-Text.is at y.inside in (
      is-part a.image.now a.image.ref_ptr t.start t.end i.0 i.1,
      λ edition bytes s.
          constant-reached a.image.now (get_or a.index.now a.n 0) s.0 bytes _ y.found s.1 t c.in-Text.is,
    )
