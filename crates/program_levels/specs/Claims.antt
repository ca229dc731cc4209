-- Document 01, "Outcomes": "left to right the first token that .. opens level 17 (6)": what is claimed of the reader.
-- Statements, proved in proofs/Exactly.
use Rattle.std.specs.Prelude.{◌≡◌, List, [], ◌∷◌, ◌++◌, ℕ, ◌≤◌, ◌<◌, length}
use Rattle.edition.specs.Limits.{nesting_depth}
use Rattle.edition.specs.Outcomes.{size_passed}
use Rattle.program_tokens.specs.Kinds.{Kind}
use Rattle.program_tokens.specs.Tokens.{Token}
use Rattle.program_tree.specs.Tree.{Program}
use Rattle.program_grammar.specs.Viable.{Viable, Reached}
use Rattle.program_reader.specs.Read.{ok, no}
use Rattle.program_reader.specs.Programs.{read_program}
use Rattle.program_exact.specs.Claims.{Accepted}
use Rattle.program_levels.specs.Levels.{opened_by}

-- no level past the limit
abbrev pub Within : List ℕ → Type 0
Within [] = Unit
Within (n ∷ l) = (n ≤ nesting_depth) × (Within l)

-- a token after some others "opens level 17", and none before it does: so in a program that they begin
pub record OpensTooMany (edition : ℕ) (before : List Kind) (k : Kind) : Type 0 where
  -- some tokens complete them to a program
  pub viable : Viable edition (before ++ (k ∷ []))
  -- the levels that open in it at the tokens before this one, at this one, and after it
  pub outer : List ℕ
  pub level : ℕ
  pub inner : List ℕ
  pub opens : opened_by edition viable.complete ≡ outer ++ (level ∷ inner)
  pub counted : length outer ≡ length before
  pub within : Within outer
  pub past : nesting_depth < level

-- the levels that some tokens open don't depend on how they are completed
abbrev pub SameLevels : ℕ → Type 0
SameLevels edition = (before : List Kind) (v w : Viable edition before)
    → (ns : List ℕ) × (m : List ℕ) × (n : List ℕ) × (length ns ≡ length before)
    × (opened_by edition v.complete ≡ ns ++ m) × (opened_by edition w.complete ≡ ns ++ n)

-- 6 is answered exactly at the first token that opens a level past the limit
pub record LevelExactly (edition : ℕ) (s : List ℕ) : Type 0 where
  pub only : (place : ℕ) → read_program edition s ≡ no size_passed place
      → (before : List Kind) × (t : Token) × (Reached edition s before t) × (OpensTooMany edition before t.kind)
      × (place ≡ t.start)
  pub all : (before : List Kind) (t : Token) → Reached edition s before t → OpensTooMany edition before t.kind
      → read_program edition s ≡ no size_passed t.start

-- a text is read exactly if its tokens are a program that opens no level past the limit
pub record ReadsWithin (edition : ℕ) (s : List ℕ) : Type 0 where
  pub only : (p : Program) (t : Token) → read_program edition s ≡ ok p t
      → (a : Accepted edition s) × (Within (opened_by edition a.sentence))
  pub all : (a : Accepted edition s) → Within (opened_by edition a.sentence)
      → (p : Program) × (t : Token) × (read_program edition s ≡ ok p t)
