-- `prints` meets its contract, by its tests.
use borrow.Author.Tests.{eq-eqb, ne_eqb, le-leb, lt-leb}
use Rattle.front_places.specs.Shown.{prints}
use Rattle.front_places.proofs.shown.prints.Goals as goal

pub returns-then-b-eq9 : goal.returns-then-b-eq9
unfolding prints
returns-then-b-eq9 c = simp (eq-eqb _ _ c.if-b-eq9.true)

pub returns-then-b-ge32 : goal.returns-then-b-ge32
unfolding prints
returns-then-b-ge32 c = simp (ne_eqb _ _ c.if-b-eq9.false, le-leb _ _ c.if-b-ge32.true)

pub returns-else-b-ge32 : goal.returns-else-b-ge32
unfolding prints
returns-else-b-ge32 c = simp (ne_eqb _ _ c.if-b-eq9.false, lt-leb _ _ c.if-b-ge32.false)
