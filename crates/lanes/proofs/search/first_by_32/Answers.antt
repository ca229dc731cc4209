-- `first_by_32` meets its contract: no b is before index k.
use native.Mathlib.Omega.{arith}
use mathlib.Core.Path.{sym, ◌∙◌}
use Rattle.buffer.proofs.First.{first-byte-most}
use Rattle.lanes.proofs.Passed.{block-passed}
use Rattle.lanes.proofs.Nearing.{some-among}
use Rattle.lanes.proofs.search.first_by_32.Goals as goal

pub overflow_sub-s : goal.overflow_sub-s
overflow_sub-s c = omega (arith, first-byte-most c.args.b c.args.s.now)

pub any_in_32-requires : goal.any_in_32-requires
any_in_32-requires c = omega (arith, first-byte-most c.args.b c.args.s.now)

pub first_in_32-requires : goal.first_in_32-requires
first_in_32-requires c =
    let a = c.args in
    (omega (arith, first-byte-most a.b a.s.now), c.loop-k.invariant, some-among a.b 32 c.loop-k.k a.s.now (sym c.any_in_32.ensures ∙ c.if-any_in_32.true))

pub returns-then-any_in_32 : goal.returns-then-any_in_32
returns-then-any_in_32 c = c.first_in_32.ensures

pub overflow_add-k : goal.overflow_add-k
overflow_add-k c =
    let a = c.args in
    omega (arith, first-byte-most a.b a.s.now)

pub loop-k-smaller : goal.loop-k-smaller
loop-k-smaller c =
    let a = c.args in
    omega (arith, first-byte-most a.b a.s.now)

pub loop-k-preserved : goal.loop-k-preserved
loop-k-preserved c =
    let a = c.args in
    let next = block-passed a.b 32 c.loop-k.k a.s.now (omega (arith, first-byte-most a.b a.s.now)) (sym c.any_in_32.ensures ∙ c.if-any_in_32.false) c.loop-k.invariant in
    omega (arith, next)

pub first_by_8-requires : goal.first_by_8-requires
first_by_8-requires c = (c.requires.0, c.loop-k.invariant)

pub returns : goal.returns
returns c = c.first_by_8.ensures
