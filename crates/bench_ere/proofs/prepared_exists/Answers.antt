-- `prepared_exists`: by both sizes, and what `exists` answers.
use Rattle.std.proofs.Common.{true, false, arith}
use Rattle.bench_ere.proofs.Answers.{tells}
use Rattle.bench_ere.proofs.prepared_exists.Goals as goal

pub returns-then-exists : goal.returns-then-exists
returns-then-exists c =
    tells _ _ _ true c.if-table-ne-TABLE_WORDS.false (omega (arith, c.if-text-gt-TEXT.false)) c.exists.ensures
    (λ i k. (c.shared_slice_known-2-1.given i).fits) c.if-exists.true

pub returns : goal.returns
returns c =
    tells _ _ _ false c.if-table-ne-TABLE_WORDS.false (omega (arith, c.if-text-gt-TEXT.false)) c.exists.ensures
    (λ i k. (c.shared_slice_known-2-1.given i).fits) c.if-exists.false
