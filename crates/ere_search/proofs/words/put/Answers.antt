-- `put` meets its contract, by its test.
use Rattle.ere_search.proofs.words.put.Goals as goal

pub returns-then-accepts : goal.returns-then-accepts
returns-then-accepts c = rw (← c.accepts.ensures, c.if-accepts.true) c.with_row.ensures

pub returns : goal.returns
returns c = rw (← c.accepts.ensures, c.if-accepts.false)
