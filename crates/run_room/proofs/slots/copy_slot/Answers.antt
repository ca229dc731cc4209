-- `copy_slot` meets its contract: head and text are copied.
use mathlib.Core.Path.{ap, ◌∙◌}
use mathlib.Core.Logic.{inl, inr}
use native.Mathlib.Omega.{arith}
use native.Mathlib.Decide.{dec_le}
use Rattle.run_room.specs.Room.{word_at, size_in}
use Rattle.run_room.proofs.Slotwise.{slotted-copy}
use Rattle.run_room.proofs.slots.copy_slot.Goals as goal

pub copy_headed-requires : goal.copy_headed-requires
copy_headed-requires c =
    let a = c.args in
    (omega arith, omega arith, elim (dec_le a.to a.from) [ yes p ↦ inl (omega arith) | no p ↦ inr (omega arith) ])

pub returns : goal.returns
unfolding word_at
returns c =
    let a = c.args in
    slotted-copy a.work.now a.to a.from c.size_in-n.result c.copy_headed.ensures
    (omega arith) (omega arith) (omega arith) (omega arith) (omega arith) (omega arith) (c.size_in-n.ensures ∙ ap size_in c.get_word.ensures)
