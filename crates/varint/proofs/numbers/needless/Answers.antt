-- `needless` meets its contract, by its tests.
use borrow.Author.Tests.{eq-eqb, ne_eqb}
use Rattle.varint.proofs.numbers.needless.Goals as goal

pub returns-then-g-eq0 : goal.returns-then-g-eq0
returns-then-g-eq0 c = rw (eq-eqb c.args.g 0 c.if-g-eq0.true)

pub returns-else-g-eq0 : goal.returns-else-g-eq0
returns-else-g-eq0 c = rw (ne_eqb c.args.g 0 c.if-g-eq0.false)
