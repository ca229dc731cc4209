-- `set_value` meets its contract: a head, and the front of the blocks that were copied.
use mathlib.Core.Logic.{inl}
use native.Mathlib.Omega.{arith}
use Rattle.run_room.proofs.Slotwise.{slotted-part}
use Rattle.run_room.proofs.slots.set_value.Goals as goal

pub copy_blocks-requires : goal.copy_blocks-requires
copy_blocks-requires c = (omega arith, omega arith, inl (omega arith))

pub returns : goal.returns
returns c =
    let a = c.args in
    slotted-part a.work.now a.i a.kind a.n a.w (omega arith) (omega arith) (omega arith) (omega arith) a.from
    c.put_head.ensures c.copy_blocks.ensures (omega arith) (omega arith) (omega arith) (omega arith) (omega arith)
