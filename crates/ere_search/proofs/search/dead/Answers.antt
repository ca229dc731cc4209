-- `dead` meets its contract, by its test.
use lib.ListN.{get_or}
use borrow.Author.Tests.{eq-eqb, ne_eqb}
use Rattle.ere_search.proofs.search.dead.Goals as goal

pub returns-then-s-eq0 : goal.returns-then-s-eq0
returns-then-s-eq0 c = rw (eq-eqb (get_or c.args.s 0 0) 0 c.if-s-eq0.true)

pub returns-else-s-eq0 : goal.returns-else-s-eq0
returns-else-s-eq0 c = rw (ne_eqb (get_or c.args.s 0 0) 0 c.if-s-eq0.false)
