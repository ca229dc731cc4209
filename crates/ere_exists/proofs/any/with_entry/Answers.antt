-- `with_entry` meets its contract, by its test.
use borrow.Author.Tests.{eq-eqb, ne_eqb}
use Rattle.ere_exists.proofs.any.with_entry.Goals as goal

pub returns-then-i-eq0 : goal.returns-then-i-eq0
returns-then-i-eq0 c = rw (eq-eqb c.args.i 0 c.if-i-eq0.true) c.with_row.ensures

pub returns : goal.returns
returns c = rw (ne_eqb c.args.i 0 c.if-i-eq0.false) c.with_row-2.ensures
