-- `put_number` meets its contract: the number's groups, from its lowest on, are those of what is left of it, group by
-- group.
use borrow.Author.Rules.{rules}
use native.Mathlib.Omega.{arith}
use Rattle.varint.proofs.Puts.{put-start, put-more, put_last}
use Rattle.varint.proofs.room.put_number.Goals as goal

pub loop-rest-init : goal.loop-rest-init
loop-rest-init c = (put-start _ _ _ c.requires.0, search rules)

pub overflow_add-rest : goal.overflow_add-rest
overflow_add-rest c = omega arith

pub overflow_cast-rest : goal.overflow_cast-rest
overflow_cast-rest c = omega arith

pub overflow_add-i : goal.overflow_add-i
overflow_add-i c = omega (arith, c.loop-rest.invariant.0.place, c.requires.1)

pub loop-rest-smaller : goal.loop-rest-smaller
loop-rest-smaller c = omega (arith, c.loop-rest-test.true)

pub loop-rest-preserved : goal.loop-rest-preserved
loop-rest-preserved c = (put-more _ _ _ _ _ _ _ c.loop-rest.invariant.0 c.loop-rest-test.true c.put_byte.ensures, search rules)

pub overflow_cast-rest-2 : goal.overflow_cast-rest-2
overflow_cast-rest-2 c = omega (arith, c.loop-rest-test.false)

pub overflow_add-result : goal.overflow_add-result
overflow_add-result c = omega (arith, c.loop-rest.invariant.0.place, c.requires.1)

pub returns : goal.returns
returns c = put_last _ _ _ _ _ _ _ c.loop-rest.invariant.0 c.loop-rest-test.false c.put_byte-2.ensures
