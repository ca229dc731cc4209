-- `accepted` meets its contract, by whether the text ends.
use mathlib.Core.Path.{sym, ap}
use Rattle.ere_seek.specs.One.{accepts}
use Rattle.ere_seek.proofs.states.accepted.Goals as goal

pub returns-then-last : goal.returns-then-last
returns-then-last c = let a = c.args in ap (accepts a.bits) (sym c.if-last.true)

pub returns : goal.returns
returns c = let a = c.args in ap (accepts a.bits) (sym c.if-last.false)
