-- `copy_headed` meets its contract: the rest is copied after the first block.
use mathlib.Core.Logic.{⊎_elim, inl, inr}
use Prim.Native.Nat.{◌+◌}
use native.Mathlib.Omega.{arith}
use Rattle.block_copy.specs.Rounded.{blocks}
use Rattle.run_room.proofs.Blockwise.{block_more}
use Rattle.run_room.proofs.blocks.copy_headed.Goals as goal

pub move_16-requires : goal.move_16-requires
move_16-requires c = (omega arith, omega arith)

pub copy_blocks-requires : goal.copy_blocks-requires
copy_blocks-requires c =
    (omega arith, omega arith, ⊎_elim (λ h. inl (omega arith)) (λ h. inr (omega arith)) c.requires.2)

pub returns : goal.returns
returns c =
    let a = c.args in
    let h = c.requires in
    block_more a.s.now a.from a.to (16 + a.n + 15) 16 (blocks a.n) (omega arith) (omega arith) (⊎_elim (λ p. inl p) (λ p. inr (omega arith)) h.2) (omega arith)
    c.move_16.ensures c.copy_blocks.ensures
