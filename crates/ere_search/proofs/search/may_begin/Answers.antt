-- `may_begin` meets its contract, by its test.
use Rattle.ere_search.proofs.search.may_begin.Goals as goal

pub returns : goal.returns
returns c = rw c.if-empty.false
