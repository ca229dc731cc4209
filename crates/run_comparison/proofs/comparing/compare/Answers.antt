-- `compare` meets its contract: of numbers if both look numeric, else of texts.
use mathlib.Core.Logic.{⊎_elim}
use Prim.Native.Nat.{◌+◌}
use native.Mathlib.Omega.{arith}
use Rattle.run_room.specs.Room.{slot_at}
use Rattle.run_values.specs.Codes.{comparison_by}
use Rattle.run_values.proofs.Judging.{compare-left-text, compare-right-text}
use Rattle.run_values.proofs.Steps.{left-slot}
use Rattle.run_comparison.proofs.comparing.compare.Goals as goal

pub returns-then-x : goal.returns-then-x
returns-then-x c =
    let right = c.judge-y in
    let left = c.judge-x in
    let if1 = c.if-y in
    let if2 = c.if-x in
    let a = c.args in
    c.compare_numbers.ensures (slot_at a.work.now a.a) (slot_at a.work.now (a.a + 1))
    left.ensures right.ensures
    if2.true if1.true

pub returns : goal.returns
returns c =
    let judge = c.judge-y in
    let if1 = c.if-y in
    let pre = c.requires in
    let a = c.args in
    let o = comparison_by a.code in
    let v = slot_at a.work.now a.a in
    let w = slot_at a.work.now (a.a + 1) in
    let t = c.text_order-o in
    let h = c.holds in
    left-slot a.a _ _
    (⊎_elim (λ s. compare-left-text o v w t.result h.result t.ensures.0 h.ensures _ s.judge-x.ensures
    s.if-x.false)
    (λ s. compare-right-text o v w t.result h.result t.ensures.0 h.ensures _ judge.ensures s.if-y.false)
    if1.branch-raw)
    (omega (arith, pre.1)) t.ensures.1 c.set_truth.ensures
