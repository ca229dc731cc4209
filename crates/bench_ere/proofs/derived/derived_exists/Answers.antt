-- `derived_exists` meets its contract: what the automaton of the table says.
use Rattle.std.proofs.Common.{true, false, sym, arith, length-take-le}
use Rattle.bench_ere.proofs.Answers.{tells}
use Rattle.bench_ere.proofs.derived.derived_exists.Goals as goal

pub slice_bounds-exists-end : goal.slice_bounds-exists-end
slice_bounds-exists-end c =
    let D = c.in-Some.ensures in sym (length-take-le c.in-Some.n _ (omega (arith, D.made.0, D.size)))

pub exists-requires : goal.exists-requires
exists-requires c = (c.in-Some.ensures.made.1.ranged, omega (arith, c.if-text-gt-TEXT.false))

pub returns-then-exists : goal.returns-then-exists
returns-then-exists c h =
    tells _ _ _ true c.if-table-ne-TABLE_WORDS.false (omega (arith, c.if-text-gt-TEXT.false))
    (c.exists.ensures c.args.table.now c.in-Some.ensures.made.1)
    (λ i k. (c.shared_slice_known-2-1.given i).fits) c.if-exists.true

pub returns : goal.returns
returns c h =
    tells _ _ _ false c.if-table-ne-TABLE_WORDS.false (omega (arith, c.if-text-gt-TEXT.false))
    (c.exists.ensures c.args.table.now c.in-Some.ensures.made.1)
    (λ i k. (c.shared_slice_known-2-1.given i).fits) c.if-exists.false
