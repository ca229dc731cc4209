-- `first_by_8` meets its contract: no b is before index k, nor before the last eight bytes at the end.
use Prim.Native.Nat.{◌-◌}
use native.Mathlib.Omega.{arith}
use lib.ListN.{length}
use Rattle.buffer.proofs.First.{first-byte-most}
use Rattle.lanes.proofs.Passed.{first_part}
use Rattle.lanes.proofs.search.first_by_8.Goals as goal

pub overflow_add-result : goal.overflow_add-result
overflow_add-result c =
    let a = c.args in
    omega (arith, c.first_in_8-i.ensures, first_part a.b c.loop-k.k 8 a.s.now c.loop-k.invariant)

pub returns-then-i-lt8 : goal.returns-then-i-lt8
returns-then-i-lt8 c =
    let a = c.args in
    omega (arith, c.first_in_8-i.ensures, first_part a.b c.loop-k.k 8 a.s.now c.loop-k.invariant)

pub loop-k-preserved : goal.loop-k-preserved
loop-k-preserved c =
    let a = c.args in
    omega (arith, c.first_in_8-i.ensures, first_part a.b c.loop-k.k 8 a.s.now c.loop-k.invariant)

pub overflow_add-result-2 : goal.overflow_add-result-2
overflow_add-result-2 c =
    let a = c.args in
    omega (arith, c.first_in_8.ensures, first-byte-most a.b a.s.now, first_part a.b (length a.s.now - 8) 8 a.s.now (omega arith))

pub returns : goal.returns
returns c =
    let a = c.args in
    omega (arith, c.first_in_8.ensures, first-byte-most a.b a.s.now, first_part a.b (length a.s.now - 8) 8 a.s.now (omega arith))
