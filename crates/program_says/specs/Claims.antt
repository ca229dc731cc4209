-- Document 01, "Tokens and grammar": what is claimed of the trees that are read, by the grammar as a relation.
-- Statements, proved in proofs/Exactly.
use Rattle.std.specs.Prelude.{◌≡◌, List, ◌⊎◌, ℕ}
use Rattle.program_tokens.specs.Tokens.{Token}
use Rattle.program_tree.specs.Tree.{Program}
use Rattle.program_reader.specs.Read.{ok}
use Rattle.program_reader.specs.Programs.{read_program}
use Rattle.program_exact.specs.Claims.{Accepted, TooDeep}
use Rattle.program_says.specs.Trees.{said_by}

module _ (edition : ℕ) (s : List ℕ) where
  -- the reader gives a sentence the tree that each of its derivations says, or refuses a level (6); it gives no tree
  -- but one that a derivation says; a sentence has one tree, whatever its levels
  pub record TreesExactly : Type 0 where
    pub all : (a : Accepted edition s)
        → ((t : Token) × (read_program edition s ≡ ok (said_by edition s a) t)) ⊎ (TooDeep edition s)
    pub only : (p : Program) (t : Token) → read_program edition s ≡ ok p t
        → (a : Accepted edition s) × (p ≡ said_by edition s a)
    pub one : (a b : Accepted edition s) → said_by edition s a ≡ said_by edition s b
