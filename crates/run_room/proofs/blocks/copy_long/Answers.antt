-- `copy_long` meets its contract: k bytes are copied, which is a multiple of a block.
use Prim.Native.Nat.{◌+◌}
use native.Mathlib.Omega.{arith}
use mathlib.Core.Path.{refl}
use mathlib.Core.Logic.{⊎_elim, inl, inr}
use Rattle.block_copy.proofs.Copied.{over_none, over-end}
use Rattle.run_room.proofs.Blockwise.{block_more}
use borrow.Author.Rules.{rules}
use Rattle.run_room.proofs.blocks.copy_long.Goals as goal

pub loop-k-init : goal.loop-k-init
loop-k-init c = (refl, omega arith, refl, over_none _ _ _ _)

pub loop-k-preserved : goal.loop-k-preserved
loop-k-preserved c =
    let a = c.args in
    let h = c.requires in
    let l = c.loop-k in (
      omega arith,
      omega arith,
      search rules,
      block_more a.s.now a.from a.to (a.n + 15) l.k 16 (omega arith) (omega arith) (⊎_elim (λ p. inl p) (λ p. inr (omega arith)) h.2) (omega arith) l.invariant.3 c.move_16.ensures,
    )

pub returns : goal.returns
returns c =
    let a = c.args in
    let l = c.loop-k in
    over-end a.s.now a.to a.s.now a.from a.n l.k (omega arith) l.invariant.3

pub returns-2 : goal.returns-2
returns-2 c =
    let a = c.args in
    let h = c.requires in
    let l = c.loop-k in
    over-end a.s.now a.to a.s.now a.from a.n (l.k + 16) (omega arith)
    (block_more a.s.now a.from a.to (a.n + 15) l.k 16 (omega arith) (omega arith) (⊎_elim (λ p. inl p) (λ p. inr (omega arith)) h.2) (omega arith) l.invariant.3 c.move_16.ensures)
