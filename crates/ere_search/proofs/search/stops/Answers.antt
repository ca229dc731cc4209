-- `stops` meets its contract, by its test.
use Rattle.ere_search.proofs.search.stops.Goals as goal

pub returns-then-at_end : goal.returns-then-at_end
returns-then-at_end c = rw c.if-at_end.true c.has.ensures

pub returns : goal.returns
returns c = rw c.if-at_end.false c.has-2.ensures
