-- `derived_seek` meets its contract: both automata are there.
use Rattle.std.proofs.Common.{sym, arith, length-take-le}
use Rattle.bench_ere.proofs.Answers.{seeks-ranged}
use Rattle.bench_ere.proofs.derived.derived_seek.Goals as goal

pub slice_bounds-seek-end : goal.slice_bounds-seek-end
slice_bounds-seek-end c =
    let D = c.in-Some.ensures in sym (length-take-le c.in-Some.n _ (omega (arith, D.made.0, D.size)))

pub seek-requires : goal.seek-requires
seek-requires c =
    let S = c.may_seek.ensures c.if-not-may_seek.false in
    (seeks-ranged c.in-Some.ensures.made.1, omega (arith, S.1, S.2), S.3)
