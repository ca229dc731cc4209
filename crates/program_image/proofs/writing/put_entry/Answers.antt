-- `put_entry`: by kind.
use mathlib.Core.Bool.{true}
use native.Mathlib.Omega.{arith}
use borrow.Author.Tests.{not-true, not-false}
use Rattle.image_format.specs.Numbers.{coded}
use Rattle.image_format.specs.Writing.{bytes}
use Rattle.varint.proofs.Puts.{coded-short}
use Rattle.program_tables.specs.Texts.{value_in}
use Rattle.program_image.proofs.Remaining.{writes-by, writes-both, writes-same}
use Rattle.program_image.proofs.Parts.{ere-bytes, number-bytes, text-bytes}
use Rattle.program_image.proofs.writing.put_entry.Goals as goal
use mathlib.Core.Path.{ap}
use mathlib.Core.Bool.{not}

pub returns-then-not-constants : goal.returns-then-not-constants
returns-then-not-constants c =
    let a = c.args in
    let ere = not-true a.constants (ap not c.if-not-constants.true) in
    writes-same (ere-bytes a.s.now a.e a.constants ere) c.put_text.ensures

pub put_number-requires : goal.put_number-requires
put_number-requires c =
    let p = c.requires in
    let a = c.args in
    let constant = not-false a.constants (ap not c.if-not-constants.false) in
    let kind = c.put_number-i.ensures in
    (p.3 constant c.if-e-eq0.true, omega (arith, p.2, kind.0, coded-short 0))

pub returns-then-e-eq0 : goal.returns-then-e-eq0
returns-then-e-eq0 c =
    let a = c.args in
    let constant = not-false a.constants (ap not c.if-not-constants.false) in
    let kind = writes-by c.put_number-i.ensures in
    let value = writes-by c.put_number.ensures in
    writes-same (number-bytes a.s.now a.e a.constants constant c.if-e-eq0.true)
    (writes-both (coded 0) (coded a.e.value) kind value)

pub put_text-requires-2 : goal.put_text-requires-2
put_text-requires-2 c =
    let p = c.requires in
    let kind = c.put_number-j.ensures in
    (p.0, p.1, omega (arith, p.2, kind.0, coded-short 1))

pub returns : goal.returns
returns c =
    let a = c.args in
    let constant = not-false a.constants (ap not c.if-not-constants.false) in
    let kind = writes-by c.put_number-j.ensures in
    let value = bytes coded (value_in a.s.now true a.e.value a.e.stop) in
    writes-same (text-bytes a.s.now a.e a.constants constant c.if-e-eq0.false)
    (writes-both (coded 1) value kind c.put_text-2.ensures)
