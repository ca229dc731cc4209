-- `put_text`: the length as a number, and the bytes.
use mathlib.Core.Path.{ap}
use native.Mathlib.Omega.{arith}
use lib.ListN.{length}
use Rattle.image_format.specs.Numbers.{coded}
use Rattle.varint.proofs.Puts.{coded-short}
use Rattle.program_tables.specs.Texts.{value_in}
use Rattle.program_image.proofs.Remaining.{writes-by, writes-both, writes-same}
use Rattle.program_image.proofs.Parts.{value-short, inside-short}
use Rattle.program_image.proofs.writing.put_text.Goals as goal

pub put_number-i-requires : goal.put_number-i-requires
put_number-i-requires c =
    let a = c.args in
    let p = c.requires in
    let short = value-short a.s.now a.escapes a.e.value a.e.stop in
    (omega (arith, short, p.1, c.value_length-n.ensures), omega (arith, p.2))

pub put_value-requires : goal.put_value-requires
put_value-requires c =
    let a = c.args in
    let p = c.requires in
    let number = c.put_number-i.ensures in
    let short = inside-short a.s.now a.e p.0 in
    let digits = coded-short c.value_length-n.result in
    (p.0, omega (arith, short, p.1, p.2, number.0, digits))

pub returns : goal.returns
returns c =
    let a = c.args in
    let v = value_in a.s.now a.escapes a.e.value a.e.stop in
    let count = c.value_length-n.ensures in
    let first = c.put_number-i.ensures in
    let number = writes-same (ap coded count) (writes-by first) in
    writes-both (coded (length v)) v number (writes-by c.put_value.ensures)
