-- `put_class` meets its contract.
use Rattle.ere_table.proofs.Writes.{words-four}
use Rattle.ere_table.proofs.build.put_class.Goals as goal

pub returns : goal.returns
returns c = rw (← words-four) c.put_words.ensures
