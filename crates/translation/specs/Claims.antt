-- Internal: cited by private contracts only. What is claimed of translations, beside the contract of the code: a
-- statement, proved in proofs/.
use Rattle.std.specs.Prelude.{◌≡◌, true, List, ℕ}
use Rattle.semantics.specs.Check.{check}
use Rattle.program_tokens.specs.Tokens.{Token}
use Rattle.program_tree.specs.Tree.{Program}
use Rattle.program_reader.specs.Read.{ok}
use Rattle.program_reader.specs.Programs.{read_program}
use Rattle.program_numbering.specs.Numbering.{image_of}
use Rattle.program_numbering.specs.Sizes.{fits}

module _ (edition : ℕ) (s : List ℕ) where
  -- "Each image that `translate` writes passes the check"
  abbrev pub CompiledPasses : Type 0
  CompiledPasses = (p : Program) (t : Token) → read_program edition s ≡ ok p t → fits (image_of edition p) ≡ true
      → check (image_of edition p) ≡ true
