-- Internal: cited by private contracts only. What the reader of whole programs answers: the definition's refusal, or
-- the code of the definition's tree.
use Rattle.std.specs.Prelude.{◌≡◌, List, ℕ, length}
use Rattle.semantics.specs.Moves.{Section, begin, main, end}
use Rattle.program_tree.specs.Tree.{Program as Tree}
use Rattle.program_reader.specs.Read.{Read as Result, ok, no}
use Rattle.program_code.specs.Sections.{section_code}
use Rattle.program_parser.specs.Meaning.{Wrote}
use Rattle.program_items.specs.declared.programs.Program.{Program}

-- something for each section
abbrev pub each : {A : Type 0} → A → A → A → Section → A
each b m e begin = b
each b m e main = m
each b m e end = e

-- how many instructions a section has
abbrev pub count_in : Program → Section → ℕ
count_in p = each p.begin p.main p.end

-- "1 to 7: .. the place is a byte offset": the outcome of a refusal, and its place
pub record Refused (outcome place : ℕ) (r : Program) : Type 0 where
  pub answer : r.outcome ≡ outcome
  pub at : r.token.start ≡ place
  pub some_outcome : outcome ≡ 0 → ⊥

module _ (edition : ℕ) (s : List ℕ) where
  -- a program that was read: for each section, "each section ends in 0" included, how many instructions its code has,
  -- and words for them, stored from instruction 0 on; the sections were xs and are ys
  pub record Translated (xs : Section → List ℕ) (p : Tree) (r : Program) (ys : Section → List ℕ) : Type 0 where
    pub outcome : r.outcome ≡ 0
    pub counts : (x : Section) → count_in r x ≡ length (section_code x p)
    pub wrote : (x : Section) → Wrote edition s (xs x) 0 (section_code x p) (ys x)

  -- what is answered, by what the definition reads
  unfoldable pub ReadingProgram : (Section → List ℕ) → Result Tree → Program → (Section → List ℕ) → Type 0
  ReadingProgram xs (ok p t) r ys = Translated xs p r ys
  ReadingProgram xs (no outcome place) r ys = Refused outcome place r
