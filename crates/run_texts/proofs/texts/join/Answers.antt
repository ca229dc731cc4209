-- `join` meets its contract: the second text is copied to the end of the first.
use mathlib.Core.Logic.{inl}
use native.Mathlib.Omega.{arith}
use Rattle.run_values.proofs.Wording.{pair, joined-long, joined}
use Rattle.run_values.proofs.Steps.{left-stops}
use Rattle.run_texts.proofs.texts.join.Goals as goal

pub returns-then-n-m-gt-TEXT : goal.returns-then-n-m-gt-TEXT
returns-then-n-m-gt-TEXT c =
    let pre = c.requires in
    let a = c.args in
    let x = a.work.now in
    let n = c.show-n in
    let m = c.show-m in
    let p = pair x _ _ a.a n.result m.result pre.1 n.ensures m.ensures in
    left-stops a.a _ _ (joined-long x _ a.a n.result m.result pre.0 pre.1 p c.if-n-m-gt-TEXT.true)
    (λ e. omega (arith, e)) p.same

pub copy_blocks-requires : goal.copy_blocks-requires
copy_blocks-requires c =
    let show = c.show-n in
    let show2 = c.show-m in
    let pre = c.requires in
    let few = show.ensures.most in
    let more = show2.ensures.most in
    let size = show.ensures.slotted.outside.size in
    let size2 = show2.ensures.slotted.outside.size in
    let h = c.if-n-m-gt-TEXT.false in
    (omega (arith, pre.0, pre.1), omega (arith, pre.0, pre.1), inl (omega arith))

pub returns : goal.returns
returns c =
    let pre = c.requires in
    let if1 = c.if-n-m-gt-TEXT in
    let copy_blocks = c.copy_blocks in
    let a = c.args in
    let x = a.work.now in
    let n = c.show-n in
    let m = c.show-m in
    joined x _ a.a n.result m.result pre.0 pre.1
    (pair x _ _ a.a n.result m.result pre.1 n.ensures m.ensures) _ if1.false copy_blocks.ensures
    c.set_length.ensures
