-- `here` meets its contract: the tests, and the last byte.
use Rattle.std.proofs.Common.{◌&&◌, ap₂}
use Rattle.ere_automaton.proofs.words.here.Goals as goal

pub returns : goal.returns
returns c = ap₂ ◌&&◌ c.passes_all.ensures c.closes.ensures
