-- `zero_lane` meets its contract, lane by lane.
use native.Mathlib.Omega.{arith}
use lib.Bits.{and_le_r}
use Rattle.lanes.proofs.Lanes.{test-marks}
use Rattle.lanes.proofs.words.zero_lane.Goals as goal

pub overflow_add-y : goal.overflow_add-y
overflow_add-y c = omega (arith, and_le_r c.args.x 9187201950435737471)

pub returns : goal.returns
returns c = test-marks 8 c.args.x (omega arith)
