-- `set_constant` meets its contract: the front of the blocks that were copied, or the bytes alone.
use mathlib.Core.Path.{◌≡◌, refl, ap, ◌∙◌}
use Prim.Native.Nat.{◌+◌, ◌*◌}
use native.Mathlib.Omega.{arith}
use lib.ListN.{length}
use lib.Seq.{take_all}
use Rattle.buffer.specs.Parts.{part, put}
use Rattle.buffer.proofs.Parts.{length_part}
use Rattle.buffer.proofs.Lent.{part-lent}
use Rattle.block_copy.specs.Rounded.{blocks}
use Rattle.run_room.specs.Layout.{head_size, slot_bytes}
use Rattle.run_room.proofs.Slotwise.{slotted-copied, part-less}
use Rattle.run_room.proofs.texts.set_constant.Goals as goal

pub returns-then-image-end-ge-BLOCK : goal.returns-then-image-end-ge-BLOCK
returns-then-image-end-ge-BLOCK c =
    let a = c.args in
    let x = a.image.now in
    let b = part a.from (blocks a.n) x in
    let lb : length b ≡ blocks a.n = length_part a.from (blocks a.n) x (omega arith) in
    slotted-copied a.work.now a.i a.n b (part a.from a.n x) (omega arith) (omega arith) (omega arith) (omega arith) (part-less a.from a.n (blocks a.n) x (omega arith))
    c.put_kind.ensures c.copy_over.ensures

pub returns : goal.returns
returns c =
    let a = c.args in
    let x = a.image.now in
    let b = part a.from a.n x in
    let lb : length b ≡ a.n = length_part a.from a.n x (omega arith) in
    let lent = part-lent x a.from (a.from + a.n) a.n refl in
    slotted-copied a.work.now a.i a.n b b (omega arith) (omega arith) (omega arith) (omega arith) (take_all a.n b (omega arith))
    c.put_kind.ensures (c.copy.ensures ∙ ap (put _ (a.i * slot_bytes + head_size)) lent)
