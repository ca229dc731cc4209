-- `last` meets its contract, by its tests.
use Rattle.varint.proofs.Groups.{group-fits}
use mathlib.Core.Path.{sym, ◌∙◌}
use native.Mathlib.Omega.{arith}
use Rattle.varint.proofs.numbers.last.Goals as goal

pub returns-then-needless : goal.returns-then-needless
returns-then-needless c = rw (sym c.needless.ensures ∙ c.if-needless.true)

pub overflow_mul-n : goal.overflow_mul-n
overflow_mul-n c = omega (arith, group-fits c.args.scale c.args.g c.requires.1 c.requires.2)

pub overflow_add-n : goal.overflow_add-n
overflow_add-n c = omega (arith, group-fits c.args.scale c.args.g c.requires.1 c.requires.2)
