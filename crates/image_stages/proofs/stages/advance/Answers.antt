-- `advance` meets its contract, by its tests.
use mathlib.Core.Path.{sym}
use borrow.Author.Tests.{eq-eqb, ne_eqb}
use Rattle.image_stages.proofs.stages.advance.Goals as goal

pub returns-then-s-ne0 : goal.returns-then-s-ne0
returns-then-s-ne0 c = rw (ne_eqb _ 0 c.if-s-ne0.true) c.with_units.ensures

pub returns-then-s-ne0-2 : goal.returns-then-s-ne0-2
returns-then-s-ne0-2 c =
    rw (eq-eqb _ 0 c.if-s-ne0.false, ne_eqb _ 0 c.if-s-ne0-2.true)
    (rw (sym c.opening.ensures))

pub returns-then-s-ne0-3 : goal.returns-then-s-ne0-3
returns-then-s-ne0-3 c =
    rw (eq-eqb _ 0 c.if-s-ne0.false)
    (rw (eq-eqb _ 0 c.if-s-ne0-2.false, ne_eqb _ 0 c.if-s-ne0-3.true))

pub returns : goal.returns
returns c =
    rw (eq-eqb _ 0 c.if-s-ne0.false, eq-eqb _ 0 c.if-s-ne0-2.false)
    (rw (eq-eqb _ 0 c.if-s-ne0-3.false))
