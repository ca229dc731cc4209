-- `put_section`: what is left to write comes to the whole.
use mathlib.Core.Path.{refl}
use Prim.Native.Nat.{◌+◌}
use native.Mathlib.Omega.{arith}
use lib.ListN.{get_or}
use borrow.Author.Rules.{rules}
use Rattle.image_format.specs.Numbers.{coded}
use Rattle.image_format.specs.Writing.{instruction_in}
use Rattle.varint.proofs.Puts.{coded-short}
use Rattle.program_image.specs.Written.{instruction_of}
use Rattle.program_image.proofs.Remaining.{left-start, left-more, left-none, writes-by, writes-both}
use Rattle.program_image.proofs.Parts.{code_left, code-next, code-none, instruction-short}
use Rattle.program_image.proofs.writing.put_section.Goals as goal

pub put_number-at-requires : goal.put_number-at-requires
put_number-at-requires c =
    let p = c.requires in
    (omega (arith, p.1), omega (arith, p.2))

pub loop-i-init : goal.loop-i-init
loop-i-init c =
    let a = c.args in
    let n = c.put_number-at in
    let whole = code_left a.section.now 0 a.n in
    (omega arith, (omega arith, (left-start n.new.room n.result whole refl, refl)))

pub bounds-section-i : goal.bounds-section-i
bounds-section-i c =
    let p = c.requires in
    omega (arith, c.loop-i-test.true, p.0)

pub put_instruction-at-requires : goal.put_instruction-at-requires
put_instruction-at-requires c =
    let i = c.loop-i.invariant in
    let p = c.requires in
    let n = c.put_number-at.ensures in
    let a = c.args in
    let digits = coded-short a.n in
    omega (arith, i.0, i.1.0, p.1, p.2, n.0, digits)

pub loop-i-preserved : goal.loop-i-preserved
loop-i-preserved c =
    let a = c.args in
    let p = c.requires in
    let l = c.loop-i in
    let n = c.put_number-at in
    let one = c.put_instruction-at.ensures in
    let below = c.loop-i-test.true in
    let w = get_or a.section.now l.i 0 in
    let next = code-next a.section.now l.i a.n below p.0 in
    let whole = code_left a.section.now 0 a.n in
    let rest = code_left a.section.now (l.i + 1) a.n in
    let bytes = instruction_in coded (instruction_of w) in (
      omega (arith, below),
      (
        omega (arith, l.invariant.1.0, one.after, instruction-short w),
        (left-more n.new.room n.result whole bytes rest next l.invariant.1.1.0 one, search rules),
      ),
    )

pub returns : goal.returns
returns c =
    let a = c.args in
    let l = c.loop-i in
    let n = c.put_number-at in
    let whole = code_left a.section.now 0 a.n in
    let none = code-none a.section.now l.i a.n c.loop-i-test.false in
    writes-both (coded a.n) whole (writes-by n.ensures)
    (left-none n.new.room n.result whole none l.invariant.1.1.0)
