-- `substr` meets its contract: a part of the text that is shown is copied to its start.
use mathlib.Core.Logic.{inl}
use Prim.Native.Nat.{◌+◌, ◌<◌}
use native.Mathlib.Omega.{arith}
use Rattle.values.specs.Value.{number_of}
use Rattle.run_room.specs.Layout.{slot_count}
use Rattle.values.specs.Value.{text_of}
use Rattle.values.proofs.Texts.{substr-stops-left, substr-stops-right}
use Rattle.run_room.specs.Room.{slot_at}
use Rattle.run_values.proofs.Computing.{taken-stops, taken-gives}
use Rattle.run_values.proofs.Wording.{shown-size, substr-gives, slotted-part}
use Rattle.run_values.proofs.Steps.{same-room, same-shown, left-stops, left-slot}
use Rattle.run_texts.proofs.texts.substr.Goals as goal

pub returns-then-x-ne0 : goal.returns-then-x-ne0
returns-then-x-ne0 c =
    let if1 = c.if-x-ne0 in
    let a = c.args in
    let x = a.work.now in
    let u = slot_at x a.a in
    let v = slot_at x (a.a + 1) in
    let w = slot_at x (a.a + 2) in
    let s = c.take_number-x in
    left-stops a.a _ _ (substr-stops-left u v w (taken-stops (number_of v) s.result s.ensures if1.true))
    if1.true (same-room x)

pub returns-then-y-ne0 : goal.returns-then-y-ne0
returns-then-y-ne0 c =
    let if1 = c.if-x-ne0 in
    let if2 = c.if-y-ne0 in
    let a = c.args in
    let x = a.work.now in
    let u = slot_at x a.a in
    let v = slot_at x (a.a + 1) in
    let w = slot_at x (a.a + 2) in
    let s = c.take_number-x in
    let t = c.take_number-y in
    left-stops a.a _ _
    (substr-stops-right u v w (taken-gives (number_of v) s.result s.ensures if1.false).0
    (taken-stops (number_of w) t.result t.ensures if2.true))
    if2.true (same-room x)

pub part_of-p-requires : goal.part_of-p-requires
part_of-p-requires c =
    let if1 = c.if-x-ne0 in
    let if2 = c.if-y-ne0 in
    let a = c.args in
    let x = a.work.now in
    let u = slot_at x a.a in
    let v = slot_at x (a.a + 1) in
    let w = slot_at x (a.a + 2) in
    let s = c.take_number-x in
    let t = c.take_number-y in (
      c.show-n.ensures.most,
      (taken-gives (number_of v) s.result s.ensures if1.false).1,
      (taken-gives (number_of w) t.result t.ensures if2.false).1,
    )

pub copy_blocks-requires : goal.copy_blocks-requires
copy_blocks-requires c =
    let show = c.show-n in
    let pre = c.requires in
    let few = show.ensures.most in
    let size = show.ensures.slotted.outside.size in
    let h = c.part_of-p.ensures.0 in
    (omega (arith, pre.0, pre.1), omega (arith, pre.0, pre.1), inl (omega arith))

pub returns : goal.returns
returns c =
    let pre = c.requires in
    let if1 = c.if-x-ne0 in
    let if2 = c.if-y-ne0 in
    let copy_blocks = c.copy_blocks in
    let a = c.args in
    let x = a.work.now in
    let u = slot_at x a.a in
    let v = slot_at x (a.a + 1) in
    let w = slot_at x (a.a + 2) in
    let s = c.take_number-x in
    let t = c.take_number-y in
    let n = c.show-n in
    let p = c.part_of-p in
    let fits = pre.0 in
    let inside : a.a < slot_count = omega (arith, pre.1) in
    left-slot a.a _ _
    (substr-gives u v w s.result t.result s.ensures if1.false t.ensures if2.false) inside
    (same-shown x _ a.a n.result inside n.ensures)
    (slotted-part x _ _ a.a n.result p.result.start p.result.size fits inside n.ensures p.ensures.0
    copy_blocks.ensures
    (p.ensures.1 (text_of u) (shown-size x _ a.a n.result fits inside n.ensures))
    c.set_length.ensures)
