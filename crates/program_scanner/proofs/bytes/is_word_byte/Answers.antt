-- `is_word_byte`: a letter or a digit.
use Rattle.program_scanner.proofs.bytes.is_word_byte.Goals as goal

pub returns : goal.returns
returns c = rw (c.is_letter.ensures, c.is_digit.ensures)
