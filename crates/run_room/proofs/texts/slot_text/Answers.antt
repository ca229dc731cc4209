-- `slot_text` meets its contract: the text is the part after the head.
use Prim.Native.Nat.{◌+◌, ◌*◌}
use mathlib.Core.Path.{refl, ◌∙◌}
use Rattle.buffer.proofs.Lent.{part-lent}
use Rattle.run_room.specs.Layout.{head_size, slot_bytes}
use Rattle.run_room.proofs.texts.slot_text.Goals as goal

pub returns : goal.returns
returns c =
    let a = c.args in
    let n = c.text_size-n.result in
    λ z. part-lent a.work.now (a.i * slot_bytes + head_size) (a.i * slot_bytes + head_size + n) n refl ∙ c.text_size-n.ensures.bytes z
