-- Internal: cited by private contracts only. The sections of an image, and the whole, judged from their bytes.
use Rattle.std.specs.Prelude.{◌≡◌, Option, Some, None, Bool, true, false, ◌&&◌, List, ℕ, ◌≤◌, length, drop}
use Rattle.std.proofs.Math.Option.{some}
use Rattle.lists.specs.Parsing.{parsed}
use Rattle.image_format.specs.Image.{Instruction, Image}
use Rattle.image_format.specs.Reading.{from_bytes, counted, instruction, read_image}
use Rattle.semantics.specs.Moves.{Section, begin, main, end, section_of}
use Rattle.semantics.specs.Check.{section_checks, check}
use Rattle.image_instructions.specs.Judge.{ContextOf}
use Rattle.image_instructions.specs.declared.context.Context.{Context}
use Rattle.image_items.specs.Header.{SectionsOf, SectionsIn}

-- An answer on a part of the check. It can be false for what only another part refuses, so a false answer speaks of the
-- whole.
pub record Decides (i : Image) (ok part : Bool) : Type 0 where
  pub refused : ok ≡ false → check i ≡ false
  pub passed : ok ≡ true → part ≡ true

-- A section that passes, from its place in an image's bytes to its end: instructions are there, and if they are an
-- image's, they pass the check, and leave what is behind the end.
pub record SectionPasses (context : Context) (l : List ℕ) (at stop : ℕ) : Type 0 where
  pub inside : stop ≤ length l
  pub there : (xs : List Instruction)
      × (counted from_bytes (instruction from_bytes context.edition) (drop at l) ≡ parsed xs (drop stop l))
  pub judged : (i : Image) (s : Section) (t : List ℕ) → ContextOf context i s
      → counted from_bytes (instruction from_bytes i.edition) (drop at l) ≡ parsed (section_of i s) t
      → (section_checks i s ≡ true) × (t ≡ drop stop l)

-- One that doesn't pass is none of an image that passes: it can be refused for what only another part refuses, as a
-- number of a constant that is too great for any accepted image.
abbrev pub SectionJudged : Context → List ℕ → ℕ → Option ℕ → Type 0
SectionJudged context l at None =
    (i : Image) (s : Section) (t : List ℕ) → ContextOf context i s
    → counted from_bytes (instruction from_bytes i.edition) (drop at l) ≡ parsed (section_of i s) t → check i ≡ false
SectionJudged context l at (Some stop) = SectionPasses context l at stop

-- whether an image that is read from the bytes passes the check; an image that passes was read
pub record ImageJudged (l : List ℕ) (ok : Bool) : Type 0 where
  pub judged : (i : Image) → read_image from_bytes l ≡ some i → ok ≡ check i
  pub there : ok ≡ true → (i : Image) × (read_image from_bytes l ≡ some i)

-- the three sections, from their place on; if they pass, they are there to the last byte
pub record SectionsJudged (edition users constants eres : ℕ) (l : List ℕ) (at : ℕ) (ok : Bool) : Type 0 where
  pub judged : (i : Image) → edition ≡ i.edition → users ≡ i.users → constants ≡ length i.constants
      → eres ≡ length i.eres → SectionsIn i (drop at l)
      → Decides i ok (section_checks i begin && (section_checks i main && section_checks i end))
  pub there : ok ≡ true
      → (begins records ends : List Instruction) × (SectionsOf edition begins records ends (drop at l))
