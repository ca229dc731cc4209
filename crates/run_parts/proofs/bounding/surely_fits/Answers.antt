-- `surely_fits` meets its contract: each part is at most its bound.
use native.Mathlib.Omega.{arith}
use Prim.Native.Nat.{◌+◌, ◌*◌}
use native.Mathlib.Nat.{mul-le-mul_right}
use borrow.Author.Tests.{leb-true}
use Rattle.edition.specs.Limits.{text_bytes}
use Rattle.run_room.specs.Room.{line_of}
use Rattle.run_parts.proofs.Bounded.{slot-most, fits-surely}
use Rattle.run_parts.proofs.bounding.surely_fits.Goals as goal

pub overflow_mul-result : goal.overflow_mul-result
overflow_mul-result c = omega (arith, mul-le-mul_right c.args.n c.requires.2)

pub overflow_add-result-2 : goal.overflow_add-result-2
overflow_add-result-2 c = omega (arith, mul-le-mul_right c.args.n c.requires.2, c.entries_bound-rest.ensures.0, c.text_size-size.ensures.most)

pub returns : goal.returns
returns c =
    let a = c.args in
    let p = c.requires in
    let size = c.text_size-size.result + 17 in
    let rest = c.entries_bound-rest.result in
    λ t k b e.
    fits-surely a.work.now a.line k a.v b a.count rest size a.n p.1 (c.entries_bound-rest.ensures.1 (line_of a.work.now a.line))
    (slot-most a.work.now a.v c.text_size-size.result c.text_size-size.ensures (omega arith)) e (leb-true (rest + size + a.count * a.n) text_bytes t)
