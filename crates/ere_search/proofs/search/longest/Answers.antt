-- `noted` meets its contract, by its tests.
use native.Mathlib.Numerals.{add-one}
use native.Mathlib.Omega.{arith}
use borrow.Author.Tests.{le-leb, lt-leb}
use Rattle.ere_search.proofs.search.longest.Goals as goal

pub overflow_add-result : goal.overflow_add-result
overflow_add-result c = omega arith

pub returns-then-stops : goal.returns-then-stops
returns-then-stops c = rw (le-leb c.args.least c.args.n c.if-least-n.true, ← c.stops.ensures, c.if-stops.true, add-one)

pub returns-else-stops : goal.returns-else-stops
returns-else-stops c = rw (le-leb c.args.least c.args.n c.if-least-n.true, ← c.stops.ensures, c.if-stops.false)

pub returns-else-least-n : goal.returns-else-least-n
returns-else-least-n c = rw (lt-leb c.args.least c.args.n (omega arith))
