-- `texts_sought` is safe: both automata are there.
use Rattle.std.proofs.Common.{sym, arith, length-take-le}
use Rattle.bench_ere.proofs.Answers.{seeks-ranged}
use Rattle.bench_ere.proofs.derived.texts_sought.Goals as goal

pub slice_bounds-sum_answers-end : goal.slice_bounds-sum_answers-end
slice_bounds-sum_answers-end c =
    let D = c.in-Some.ensures in sym (length-take-le c.in-Some.n _ (omega (arith, D.made.0, D.size)))

pub sum_answers-requires : goal.sum_answers-requires
sum_answers-requires c =
    (seeks-ranged c.in-Some.ensures.made.1, omega (arith, c.if-texts-gt-MOST.false))
