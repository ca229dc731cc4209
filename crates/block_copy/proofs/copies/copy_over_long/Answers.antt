-- `copy_over_long` meets its contract: k bytes are copied, which is a multiple of a block.
use Prim.Native.Nat.{◌+◌}
use native.Mathlib.Omega.{arith}
use mathlib.Core.Path.{refl, ◌∙◌}
use Rattle.block_copy.proofs.Copied.{over_none, over-more, over-end}
use Rattle.block_copy.proofs.copies.copy_over_long.Goals as goal

pub loop-k-init : goal.loop-k-init
loop-k-init c = (refl, omega arith, over_none _ _ _ _)

pub loop-k-preserved : goal.loop-k-preserved
loop-k-preserved c =
    let a = c.args in
    let l = c.loop-k in (
      omega arith,
      omega arith,
      c.copy_block.ensures ∙ over-more a.dst.now a.at a.src.now a.from l.k 16 (omega arith) (omega arith) l.invariant.2,
    )

pub returns : goal.returns
returns c =
    let a = c.args in
    let l = c.loop-k in
    over-end a.dst.now a.at a.src.now a.from a.n l.k (omega arith) l.invariant.2

pub returns-2 : goal.returns-2
returns-2 c =
    let a = c.args in
    let l = c.loop-k in
    over-end a.dst.now a.at a.src.now a.from a.n (l.k + 16) (omega arith)
    (c.copy_block.ensures ∙ over-more a.dst.now a.at a.src.now a.from l.k 16 (omega arith) (omega arith) l.invariant.2)
