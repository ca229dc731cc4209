-- `passed` meets its contract, by its tests.
use mathlib.Core.Bool.{not}
use mathlib.Core.Path.{ap}
use lib.ListN.{get_or}
use borrow.Author.Tests.{eq-eqb, ne_eqb}
use Rattle.ere_exists.proofs.any.passed.Goals as goal

pub returns-then-s-eq0 : goal.returns-then-s-eq0
returns-then-s-eq0 c =
    rw (← c.dead.ensures, c.if-dead.true, eq-eqb (get_or c.args.s 2 0) 0 c.if-s-eq0.true)
    (ap not c.may_begin.ensures)

pub returns-else-s-eq0 : goal.returns-else-s-eq0
returns-else-s-eq0 c = rw (← c.dead.ensures, c.if-dead.true, ne_eqb (get_or c.args.s 2 0) 0 c.if-s-eq0.false)

pub returns-else-dead : goal.returns-else-dead
returns-else-dead c = rw (← c.dead.ensures, c.if-dead.false)
