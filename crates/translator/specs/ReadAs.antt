-- Internal: cited by private contracts only. A text that was read, with the words of its program's sections.
use Rattle.std.specs.Prelude.{◌≡◌, List, ℕ}
use Rattle.semantics.specs.Moves.{begin, main, end}
use Rattle.program_tokens.specs.Tokens.{Token}
use Rattle.program_tree.specs.Tree.{Program}
use Rattle.program_reader.specs.Read.{ok}
use Rattle.program_reader.specs.Programs.{read_program}
use Rattle.program_code.specs.Sections.{section_code}
use Rattle.program_parser.specs.Meaning.{Spell}

pub record ReadAs (edition : ℕ) (s begin-words main_words end_words : List ℕ) : Type 0 where
  pub program : Program
  pub token : Token
  pub reads : read_program edition s ≡ ok program token
  pub begin_spelled : Spell edition s begin-words (section_code begin program)
  pub main_spelled : Spell edition s main_words (section_code main program)
  pub end_spelled : Spell edition s end_words (section_code end program)
