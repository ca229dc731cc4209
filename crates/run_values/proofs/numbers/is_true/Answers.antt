-- `is_true` meets its contract: by the number, or by the text.
use Prim.Native.Nat.{◌+◌, ◌*◌}
use mathlib.Core.Path.{refl, sym, ◌∙◌}
use native.Mathlib.Omega.{arith}
use Rattle.run_room.specs.Layout.{head_size, slot_bytes}
use Rattle.run_room.specs.Room.{slot_at}
use Rattle.run_values.proofs.Judging.{no-look, truth-number, truth-text}
use Rattle.run_values.proofs.Wording.{part-size}
use Rattle.run_values.proofs.numbers.is_true.Goals as goal

pub returns-then-j : goal.returns-then-j
returns-then-j c =
    let a = c.args in
    let j = c.judge-j in
    truth-number (slot_at a.work.now a.i) j.result j.ensures _ c.if-j.true refl refl

pub returns : goal.returns
returns c =
    let if1 = c.if-j in
    let a = c.args in
    let v = slot_at a.work.now a.i in
    let j = c.judge-j in
    let n = c.text_size in
    truth-text v j.result j.ensures _ n.result if1.false refl refl
    (part-size (a.i * slot_bytes + head_size) n.result a.work.now (omega (arith, n.ensures.most))
    (n.ensures.bytes (no-look v (sym j.ensures.look ∙ if1.false))))
