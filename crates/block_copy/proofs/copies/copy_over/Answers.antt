-- `copy_over` meets its contract: one block, none, or one after the other.
use native.Mathlib.Omega.{arith}
use Rattle.block_copy.proofs.Copied.{over_none, over-end}
use Rattle.block_copy.proofs.copies.copy_over.Goals as goal

pub returns-then-n-gt0 : goal.returns-then-n-gt0
returns-then-n-gt0 c =
    let a = c.args in
    over-end a.dst.now a.at a.src.now a.from a.n 16 (omega arith) c.copy_block.ensures

pub returns-else-n-gt0 : goal.returns-else-n-gt0
returns-else-n-gt0 c =
    let a = c.args in
    over-end a.dst.now a.at a.src.now a.from a.n 0 (omega arith) (over_none _ _ _ _)
