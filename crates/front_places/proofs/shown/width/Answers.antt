-- `width` meets its contract, by its test.
use native.Mathlib.Omega.{arith}
use mathlib.Core.Path.{sym, ◌∙◌}
use Rattle.front_places.specs.Shown.{width_of}
use Rattle.front_places.proofs.shown.width.Goals as goal

pub returns-then-prints : goal.returns-then-prints
unfolding width_of
returns-then-prints c = (simp (sym c.prints.ensures ∙ c.if-prints.true), omega arith)

pub returns-else-prints : goal.returns-else-prints
unfolding width_of
returns-else-prints c = (simp (sym c.prints.ensures ∙ c.if-prints.false), omega arith)
