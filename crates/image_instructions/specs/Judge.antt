-- Internal: cited by private contracts only. One instruction judged by its numbers: the clauses of the check, as the
-- code has them.
use Rattle.std.specs.Prelude.{◌≡◌, Bool, true, not, cond, ◌&&◌, ◌||◌, List, ℕ, suc, ◌+◌, ◌-◌, ◌/◌, ◌%◌, length, get_or, eqb, ltb, leb}
use Rattle.lists.specs.Elements.{agree, all_from}
use Rattle.edition.specs.Limits.{operand_depth}
use Rattle.image_format.specs.Codes.{code_of}
use Rattle.image_format.specs.Image.{Image}
use Rattle.opcodes.specs.Rows.{row_in, is_known}
use Rattle.semantics.specs.Variables.{special_count, assignable}
use Rattle.semantics.specs.Moves.{Section, section_of, in_main}
use Rattle.semantics.specs.Check.{instruction_checks}
use Rattle.image_index.specs.Lists.{numbers_of, Indexes}
use Rattle.image_index.specs.declared.indexes.Kind.TheVariants.{Instructions}
use Rattle.image_instructions.specs.declared.context.Context.{Context}

-- ---- by numbers

-- "code 0", 30 and 31 lead nowhere in their section
abbrev pub terminates_of : ℕ → Bool
terminates_of c = eqb c 0 || (eqb c 30 || eqb c 31)

-- what a code takes, by its row: a print takes what it names
abbrev pub pops_of : ℕ → ℕ → ℕ
pops_of row v = cond (eqb (row / 8 % 8) 5) v (row % 4)

abbrev pub gives_of : ℕ → ℕ
gives_of row = row / 4 % 2

abbrev pub variables_of : Context → ℕ
variables_of r = special_count r.edition + r.users

-- "30 only in the record section"
abbrev pub allowed_of : Context → ℕ → Bool
allowed_of r c = not (eqb c 30) || r.main

module _ (r : Context) (count : ℕ) where
  -- "every number named exists"; "print's n from 1; no set of 0, 1, 5, 6"
  abbrev pub exists_of : ℕ → ℕ → Bool
  exists_of names v =
      cond (eqb names 1) (ltb v r.constants)
      (cond (eqb names 2) (ltb v (variables_of r))
      (cond (eqb names 3) (ltb v r.eres)
      (cond (eqb names 4) (ltb v count)
      (cond (eqb names 5) (leb 1 v) (cond (eqb names 6) (ltb v (variables_of r) && assignable r.edition v) true)))))

  -- "code 0 last in its section and only there; depth 0 at its start, at 0, 30 and 31, and at most 32"
  abbrev pub placed_of : ℕ → ℕ → ℕ → Bool → Bool
  placed_of n c d rest =
      agree (eqb c 0) (eqb (suc n) count)
      && ((not (eqb n 0) || eqb d 0) && ((not (terminates_of c) || eqb d 0) && (leb d operand_depth && rest)))

  -- "each successor inside the section and its depth as the instruction leaves it": `has m d` says that instruction m
  -- is there, with the depth d before it
  module _ (has : ℕ → ℕ → Bool) where
    abbrev pub leads_of : ℕ → ℕ → ℕ → ℕ → Bool
    leads_of n c v after =
        cond (terminates_of c) true
        (cond (eqb c 27) (has v after && true) (has (suc n) after && cond (eqb c 28) (has v after && true) true))

    -- all clauses on instruction n, by its code's row
    abbrev pub judged_row : ℕ → ℕ → ℕ → ℕ → ℕ → ℕ → Bool
    judged_row row n c d v w =
        let takes = pops_of row v in
        (exists_of (row / 8 % 8) v && exists_of (row / 64) w)
        && placed_of n c d (leb takes d && (leads_of n c v (d - takes + gives_of row) && allowed_of r c))

    abbrev pub judged_by : ℕ → ℕ → ℕ → ℕ → ℕ → Bool
    judged_by n c d v w =
        let o = code_of r.edition c in
        is_known o && judged_row (row_in o) n c d v w

-- instruction m of an index is there, with the depth d before it
abbrev pub has_depth : List ℕ → ℕ → ℕ → ℕ → Bool
has_depth index count m d = ltb m count && eqb (numbers_of (get_or index m 0)).depth d

-- instruction n of an index
unfoldable pub judged_at : Context → List ℕ → ℕ → ℕ → Bool
judged_at r index count n =
    let j = numbers_of (get_or index n 0) in
    judged_by r count (has_depth index count) n j.code j.depth j.first j.second

-- ---- for the image that the numbers are of

-- the sizes are those of an image, and `records` says whether a section is the record section
pub record ContextOf (r : Context) (i : Image) (s : Section) : Type 0 where
  pub edition : r.edition ≡ i.edition
  pub users : r.users ≡ i.users
  pub constants : r.constants ≡ length i.constants
  pub eres : r.eres ≡ length i.eres
  pub nexts : r.main ≡ in_main s

-- all instructions of a section, by its index
abbrev pub Judges : Context → List ℕ → ℕ → Bool → Type 0
Judges r index count ok =
    (i : Image) (s : Section) (l : List ℕ) → ContextOf r i s → Indexes i.edition Instructions l (section_of i s) index
    → count ≡ length (section_of i s) → ok ≡ all_from (instruction_checks i s) 0 (section_of i s)
