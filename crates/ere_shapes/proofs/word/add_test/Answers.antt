-- `add_test` meets its contract: no test, or one more.
use native.Mathlib.Omega.{arith}
use lib.Dec.{eqb, ltb}
use borrow.Author.Tests.{ltb-false, eqb-false}
use Rattle.lists.proofs.Tests.{or-false}
use Rattle.ere_shapes.proofs.Spelling.{tested-any, tested-none, tested-one}
use Rattle.ere_shapes.proofs.word.add_test.Goals as goal

pub returns-then-range-eq255 : goal.returns-then-range-eq255
returns-then-range-eq255 c = let a = c.args in tested-any a.d.now a.e a.q a.range c.requires.1 c.if-range-eq255.true

pub returns-then-range-e : goal.returns-then-range-e
returns-then-range-e c = let a = c.args in tested-none a.d.now a.e a.q a.range

pub overflow_cast-d : goal.overflow_cast-d
overflow_cast-d c =
    let a = c.args in
    let w = ltb-false 255 a.range (or-false (ltb 255 a.range) _ c.if-range-e.false).0 in omega (arith, c.requires.2)

pub returns : goal.returns
returns c =
    let a = c.args in
    let p = c.requires in
    let w = or-false (ltb 255 a.range) (eqb a.e 7) c.if-range-e.false in
    let small = ltb-false 255 a.range w.0 in
    let few = eqb-false a.e 7 w.1 in
    tested-one a.d.now a.e a.q a.range (omega (arith, p.0)) (omega (arith, few, p.1)) (omega (arith, small))
