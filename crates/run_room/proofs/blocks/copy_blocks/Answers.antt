-- `copy_blocks` meets its contract: one block, none, or one after the other.
use native.Mathlib.Omega.{arith}
use Rattle.block_copy.proofs.Copied.{over_none, over-end}
use Rattle.run_room.proofs.blocks.copy_blocks.Goals as goal

pub move_16-requires : goal.move_16-requires
move_16-requires c = (omega arith, omega arith)

pub returns-then-n-gt0 : goal.returns-then-n-gt0
returns-then-n-gt0 c =
    let a = c.args in
    over-end a.s.now a.to a.s.now a.from a.n 16 (omega arith) c.move_16.ensures

pub returns-else-n-gt0 : goal.returns-else-n-gt0
returns-else-n-gt0 c =
    let a = c.args in
    over-end a.s.now a.to a.s.now a.from a.n 0 (omega arith) (over_none _ _ _ _)
