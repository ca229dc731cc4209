-- `is_plain` meets its contract.
-- Assumes nothing.
use Rattle.lists.specs.Elements.{one_of}
use Rattle.ere_grammar.specs.Bytes.{is_plain}
use Rattle.ere_grammar.proofs.is_plain.Goals as goal

pub returns : goal.returns
unfolding is_plain one_of
returns c = rw c.is_mark.ensures
