-- `texts_matching` is safe: the automaton is there.
use Rattle.std.proofs.Common.{sym, arith, length-take-le}
use Rattle.bench_ere.proofs.derived.texts_matching.Goals as goal

pub slice_bounds-count_matching-end : goal.slice_bounds-count_matching-end
slice_bounds-count_matching-end c =
    let D = c.in-Some.ensures in sym (length-take-le c.in-Some.n _ (omega (arith, D.made.0, D.size)))

pub count_matching-requires : goal.count_matching-requires
count_matching-requires c =
    (c.in-Some.ensures.made.1.ranged, omega (arith, c.if-texts-gt-MOST.false))
