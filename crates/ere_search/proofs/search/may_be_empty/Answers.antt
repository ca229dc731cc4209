-- `may_be_empty` meets its contract, by its test.
use native.Mathlib.Omega.{arith}
use borrow.Author.Tests.{eq-eqb, ne_eqb}
use Rattle.ere_search.proofs.search.may_be_empty.Goals as goal

pub returns-then-least-eq0 : goal.returns-then-least-eq0
returns-then-least-eq0 c = rw (eq-eqb c.args.least 0 (omega arith))

pub returns : goal.returns
returns c = rw (ne_eqb c.args.least 0 (omega arith))
