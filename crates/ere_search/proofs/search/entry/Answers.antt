-- `entry` meets its contract, by its test.
use native.Mathlib.Omega.{arith}
use borrow.Author.Tests.{eq-eqb, ne_eqb}
use Rattle.ere_search.proofs.search.entry.Goals as goal

pub returns-then-s-eq0 : goal.returns-then-s-eq0
returns-then-s-eq0 c = rw (eq-eqb c.args.s 0 (omega arith))

pub returns : goal.returns
returns c = rw (ne_eqb c.args.s 0 (omega arith))
