use native.Mathlib.Omega.{arith}
use Rattle.program_simple.proofs.Printing.{count_small, expression-refused, expression-dropped}
use Rattle.program_simple.proofs.simple.expression.Goals as goal

pub returns-then-r-ne0 : goal.returns-then-r-ne0
returns-then-r-ne0 c =
    let a = c.args in
    expression-refused a.edition.number a.s.now a.t a.n a.section.now _ _ _ c.tier-r.ensures
    c.if-r-ne0.true

pub emit-count-requires : goal.emit-count-requires
emit-count-requires c =
    let a = c.args in
    omega (
      arith,
      count_small a.edition.number a.s.now a.t a.n 0 a.section.now c.requires.0 _ _ _
          c.tier-r.ensures c.if-r-ne0.false,
    )

pub returns : goal.returns
returns c =
    let a = c.args in
    expression-dropped a.edition.number a.s.now a.t a.n a.section.now _ _ _ c.tier-r.ensures
    c.if-r-ne0.false _ _ _
    c.emit-count.ensures.0 c.emit-count.ensures.1 c.ok.ensures
