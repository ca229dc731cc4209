-- `put` meets its contract: a text byte as it is, a number by its groups.
use mathlib.Core.Path.{refl}
use native.Mathlib.Omega.{arith}
use borrow.Author.Tests.{eq-eqb, ne_eqb}
use Rattle.varint.specs.Room.{with_all}
use Rattle.image_writer.proofs.writing.put.Goals as goal

pub overflow_cast-v : goal.overflow_cast-v
overflow_cast-v c = omega (arith, rw (eq-eqb _ 4 c.if-stage-eq-BYTE.true) at c.requires.0)

pub returns-then-stage-eq-BYTE : goal.returns-then-stage-eq-BYTE
unfolding with_all
returns-then-stage-eq-BYTE c =
    rw (eq-eqb _ 4 c.if-stage-eq-BYTE.true) (refl, c.put_byte.ensures)

pub put_number-requires : goal.put_number-requires
put_number-requires c =
    let pre = c.requires in
    (rw (ne_eqb _ 4 c.if-stage-eq-BYTE.false) at pre.0, pre.1)

pub returns : goal.returns
returns c = rw (ne_eqb _ 4 c.if-stage-eq-BYTE.false) c.put_number.ensures
