-- `first_in_32` meets its contract: the first b is in the eight bytes that are searched.
use native.Mathlib.Omega.{arith}
use Rattle.buffer.proofs.First.{first-byte-most}
use Rattle.lanes.proofs.Passed.{first_part}
use Rattle.lanes.proofs.search.first_in_32.Goals as goal

pub pass_8-word-requires : goal.pass_8-word-requires
pass_8-word-requires c =
    let h = c.pass_16-half.ensures in
    (omega (arith, h.within), h.before)

pub first_in_8-requires : goal.first_in_8-requires
first_in_8-requires c =
    let h = c.pass_16-half.ensures in
    omega (arith, h.within, c.pass_8-word.ensures.within)

pub overflow_add-result : goal.overflow_add-result
overflow_add-result c =
    let a = c.args in
    let h = c.pass_16-half.ensures in
    let w = c.pass_8-word.ensures in
    omega (arith, c.first_in_8.ensures, w.before, first-byte-most a.b a.s.now, first_part a.b c.pass_8-word.result 8 a.s.now w.before)

pub returns : goal.returns
returns c =
    let a = c.args in
    let h = c.pass_16-half.ensures in
    let w = c.pass_8-word.ensures in
    omega (arith, c.first_in_8.ensures, w.near (omega (arith, h.near (omega arith))), first_part a.b c.pass_8-word.result 8 a.s.now w.before)
