-- `put_first_bytes` meets its contract: its indices are in the table.
use Rattle.ere_table.proofs.Writes.{words-four}
use Rattle.ere_table.proofs.build.put_first_bytes.Goals as goal

pub returns : goal.returns
returns c = rw (c.put_words.ensures, words-four, c.begin-c.ensures, c.empty-e.ensures)
