-- `take` meets its contract, by what is tested of the stage and of the place.
use borrow.Author.Tests.{eq-eqb, ne_eqb}
use native.Mathlib.Omega.{arith}
use Rattle.image.proofs.Stage.{up-taken, up-out, number_at}
use Rattle.image.proofs.reading.take.Goals as goal

pub returns-then-stage-ne-BYTE : goal.returns-then-stage-ne-BYTE
returns-then-stage-ne-BYTE c =
    let a = c.args in
    let number = ne_eqb a.stage 4 c.if-stage-ne-BYTE.true in
    number_at a.stage a.image.now a.at c.take_number.result number c.take_number.ensures

pub returns-then-image-at : goal.returns-then-image-at
returns-then-image-at c =
    let a = c.args in
    rw (eq-eqb _ 4 c.if-stage-ne-BYTE.false) (up-out a.image.now a.at 255 c.if-image-at.true)

pub overflow_cast-result : goal.overflow_cast-result
overflow_cast-result c = omega (arith, (c.shared_slice_known-2-1.given c.args.at).fits)

pub returns : goal.returns
returns c =
    let a = c.args in
    let b = (c.shared_slice_known-2-1.given a.at).fits in (
      rw (eq-eqb _ 4 c.if-stage-ne-BYTE.false) (up-taken a.image.now a.at 255 c.if-image-at.false (omega (arith, b))),
      omega arith,
      omega (arith, c.if-image-at.false),
    )
