-- `copy` meets its contract: k bytes are copied, and the last block, which begins in them or right after them, ends the
-- copy.
use Prim.Native.Nat.{◌+◌, ◌-◌}
use native.Mathlib.Omega.{arith}
use mathlib.Core.Path.{◌∙◌}
use lib.ListN.{length}
use Rattle.buffer.proofs.Parts.{put-none}
use Rattle.block_copy.proofs.Copied.{block_more, block_last}
use Rattle.block_copy.proofs.copies.copy.Goals.{else-loop-k-test, then-loop-k-test+else-last-k-gt16}
use Rattle.block_copy.proofs.copies.copy.Goals as goal

pub loop-k-init : goal.loop-k-init
loop-k-init c = (omega arith, put-none _ _)

pub loop-k-preserved : goal.loop-k-preserved
loop-k-preserved c =
    let a = c.args in
    let l = c.loop-k in
    (omega arith, c.copy_block.ensures ∙ block_more a.dst.now a.at a.src.now c.requires l.k 16 (omega arith) l.invariant.1)

pub returns : goal.returns
returns c =
    let a = c.args in
    let l = c.loop-k in
    let last = block_last a.dst.now a.at a.src.now c.requires in
    c.copy_block-2.ensures
    ∙ elim c.loop-k-test.branch [
      | else-loop-k-test w ↦ last l.k (length a.src.now - 16) 16 _ (omega arith) (omega arith) (omega arith) (w.dst-is ∙ l.invariant.1)
      | then-loop-k-test+else-last-k-gt16 w ↦
          last (l.k + 16) (length a.src.now - 16) 16 _ (omega arith) (omega arith) (omega arith)
          (w.dst-is ∙ w.copy_block.ensures ∙ block_more a.dst.now a.at a.src.now c.requires l.k 16 (omega arith) l.invariant.1)
    ]
