-- `first_in_long` meets its contract: the words that are tried first have no b, or the first one.
use native.Mathlib.Omega.{arith}
use Rattle.lanes.proofs.Passed.{first_part}
use Rattle.lanes.proofs.search.first_in_long.Goals as goal

pub returns-then-i-lt8 : goal.returns-then-i-lt8
returns-then-i-lt8 c =
    let a = c.args in
    omega (arith, c.first_in_8-i.ensures, first_part a.b 0 8 a.s.now (omega arith))

pub overflow_add-result : goal.overflow_add-result
overflow_add-result c =
    let a = c.args in
    omega (arith, c.first_in_8-j.ensures, first_part a.b 0 8 a.s.now (omega arith))

pub returns-then-j-lt8 : goal.returns-then-j-lt8
returns-then-j-lt8 c =
    let a = c.args in
    let f = first_part a.b 0 8 a.s.now (omega arith) in
    omega (arith, c.first_in_8-j.ensures, first_part a.b 8 8 a.s.now (omega (arith, c.first_in_8-i.ensures, f)))

pub first_by_32-requires : goal.first_by_32-requires
first_by_32-requires c =
    let a = c.args in
    let f = first_part a.b 0 8 a.s.now (omega arith) in
    (omega arith, omega (arith, c.first_in_8-j.ensures, first_part a.b 8 8 a.s.now (omega (arith, c.first_in_8-i.ensures, f))))

pub returns : goal.returns
returns c = c.first_by_32.ensures
