-- `prepared_compile`: by the table's size, and what `compile` answers.
use Rattle.std.proofs.Common.{subst}
use Rattle.ere.specs.Answer.{Compiles}
use Rattle.bench_ere.proofs.Answers.{prepares-unsized, prepares-none, prepares-some}
use Rattle.bench_ere.proofs.prepared_compile.Goals as goal

pub returns-then-table-ne-TABLE_WORDS : goal.returns-then-table-ne-TABLE_WORDS
returns-then-table-ne-TABLE_WORDS c = prepares-unsized c.args.ere.now c.args.table.now c.if-table-ne-TABLE_WORDS.true

pub returns-then-compile : goal.returns-then-compile
returns-then-compile c =
    let a = c.args in
    prepares-some a.ere.now a.table.now _ c.if-table-ne-TABLE_WORDS.false (subst (Compiles 1 a.ere.now _) c.if-compile.true c.compile.ensures)

pub returns : goal.returns
returns c =
    let a = c.args in
    prepares-none a.ere.now a.table.now _ c.if-table-ne-TABLE_WORDS.false (c.compile.ensures.refused c.if-compile.false)
