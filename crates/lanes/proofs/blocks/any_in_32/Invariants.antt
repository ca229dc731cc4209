-- `any_in_32` meets its contract: k bytes are looked at.
use mathlib.Core.Path.{◌≡◌}
use Rattle.lanes.specs.Block.{among}
use Rattle.lanes.proofs.blocks.any_in_32.Given as goal

abbrev pub invariant-loop-k : goal.invariant-loop-k
invariant-loop-k l = l.hit ≡ among l.b l.k l.at l.s
