-- `is_either` meets its contract.
use mathlib.Core.Path.{sym, ◌∙◌}
use borrow.Author.Tests.{eq-eqb}
use Rattle.lanes.proofs.Runs.{is-first, or-second}
use Rattle.lanes.proofs.pairs.is_either.Goals as goal

pub returns-then-x-a : goal.returns-then-x-a
returns-then-x-a c = eq-eqb c.args.x c.args.a c.if-x-a.true ∙ sym (is-first c.args.a c.args.b c.args.x c.if-x-a.true)

pub returns-else-x-a : goal.returns-else-x-a
returns-else-x-a c = sym (or-second c.args.a c.args.b c.args.x c.if-x-a.false)
