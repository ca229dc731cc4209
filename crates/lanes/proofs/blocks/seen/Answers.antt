-- `seen` meets its contract.
use mathlib.Core.Path.{ap, sym}
use mathlib.Core.Bool.{Bool, cond, true}
use lib.Dec.{eqb}
use Rattle.lanes.proofs.blocks.seen.Goals as goal

pub returns : goal.returns
returns c = ap (λ (h : Bool). cond h true (eqb c.args.x c.args.b)) (sym c.if-hit.false)
