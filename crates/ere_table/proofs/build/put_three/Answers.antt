-- `put_three` meets its contract.
use Rattle.ere_table.proofs.Writes.{words-three}
use Rattle.ere_table.proofs.build.put_three.Goals as goal

pub returns : goal.returns
returns c = rw (← words-three) c.put_words.ensures
