-- `judge` meets its contract, by the value's kind.
use mathlib.Core.Path.{refl}
use native.Mathlib.Omega.{arith}
use Rattle.run_numbers.proofs.Numbered.{kind-text, taken-number, taken-unset}
use Rattle.run_room.specs.Room.{slot_at}
use Rattle.run_values.proofs.Judging.{judged-number, judged-text, judged-field}
use Rattle.run_values.proofs.numbers.judge.Goals as goal

pub returns-then-k-eq-NUMBER : goal.returns-then-k-eq-NUMBER
returns-then-k-eq-NUMBER c =
    let if1 = c.if-k-eq-NUMBER in
    let a = c.args in
    let v = slot_at a.work.now a.i in
    let k = c.slot_kind-k in
    let n = c.slot_number in
    judged-number v _ (omega (arith, k.ensures, if1.true)) refl
    (taken-number v k.result _ k.ensures if1.true n.ensures.within n.ensures.value refl)

pub returns-then-k-eq-UNSET : goal.returns-then-k-eq-UNSET
returns-then-k-eq-UNSET c =
    let if2 = c.if-k-eq-UNSET in
    let a = c.args in
    let v = slot_at a.work.now a.i in
    let k = c.slot_kind-k in
    judged-number v _ (omega (arith, k.ensures, if2.true)) refl
    (taken-unset v k.result _ k.ensures if2.true refl refl)

pub returns-then-k-eq-TEXT : goal.returns-then-k-eq-TEXT
returns-then-k-eq-TEXT c =
    let a = c.args in
    let v = slot_at a.work.now a.i in
    let k = c.slot_kind-k in
    judged-text v _ (omega (arith, k.ensures, c.if-k-eq-TEXT.true)) refl

pub returns : goal.returns
returns c =
    let if1 = c.if-k-eq-NUMBER in
    let if2 = c.if-k-eq-UNSET in
    let a = c.args in
    let v = slot_at a.work.now a.i in
    let k = c.slot_kind-k in
    judged-field v _ _ (omega (arith, k.ensures, if1.false, if2.false, c.if-k-eq-TEXT.false))
    (c.slot_text.ensures (kind-text v k.result k.ensures if1.false if2.false))
    c.judge_field.ensures
