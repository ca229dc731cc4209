-- `put_instruction`: two numbers, or three.
use mathlib.Core.Path.{sym, ap, ◌∙◌}
use mathlib.Core.List.{◌++◌}
use native.Mathlib.Omega.{arith}
use Rattle.image_format.specs.Numbers.{coded}
use Rattle.varint.proofs.Puts.{coded-short}
use Rattle.program_words.specs.Words.{op_in, depth_in, first_in}
use Rattle.program_image.specs.Written.{has_operand}
use Rattle.program_image.proofs.Remaining.{writes-by, writes-both, writes-same}
use Rattle.program_image.proofs.Parts.{operand-bytes, plain-bytes}
use Rattle.program_image.proofs.writing.put_instruction.Goals as goal

pub put_number-j-requires : goal.put_number-j-requires
put_number-j-requires c =
    let p = c.requires in
    let code = c.put_number-i.ensures in
    let digits = coded-short c.op_in-op.result in
    (omega (arith, c.depth_in.ensures), omega (arith, p, code.0, digits))

pub put_number-requires : goal.put_number-requires
put_number-requires c =
    let p = c.requires in
    let code = c.put_number-i.ensures in
    let digits = coded-short c.op_in-op.result in
    let depth = c.put_number-j.ensures in
    let more = coded-short c.depth_in.result in
    (omega (arith, c.first_in.ensures), omega (arith, p, code.0, digits, depth.0, more))

pub returns-then-has_operand : goal.returns-then-has_operand
returns-then-has_operand c =
    let w = c.args.w in
    let op = c.op_in-op.ensures in
    let test = c.has_operand.ensures in
    let named = ap has_operand (sym op) ∙ (sym test ∙ c.if-has_operand.true) in
    let first = c.put_number-i.ensures in
    let code = writes-same (ap coded op) (writes-by first) in
    let before = c.depth_in.ensures in
    let depth = writes-same (ap coded before) (writes-by c.put_number-j.ensures) in
    let operand = c.first_in.ensures in
    let last = writes-same (ap coded operand) (writes-by c.put_number.ensures) in
    writes-same (sym (operand-bytes w named))
    (writes-both (coded (op_in w)) (coded (depth_in w) ++ coded (first_in w)) code
    (writes-both (coded (depth_in w)) (coded (first_in w)) depth last))

pub returns : goal.returns
returns c =
    let w = c.args.w in
    let op = c.op_in-op.ensures in
    let test = c.has_operand.ensures in
    let plain = ap has_operand (sym op) ∙ (sym test ∙ c.if-has_operand.false) in
    let code = writes-same (ap coded op) (writes-by c.put_number-i.ensures) in
    let before = c.depth_in.ensures in
    let depth = writes-same (ap coded before) (writes-by c.put_number-j.ensures) in
    writes-same (sym (plain-bytes w plain)) (writes-both (coded (op_in w)) (coded (depth_in w)) code depth)
