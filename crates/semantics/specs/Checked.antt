-- The check as a statement: for every section and every instruction 01's clauses, in order; unreachable instructions
-- too.
use Rattle.std.specs.Prelude.{◌≡◌, true, false, ◌↔◌, List, [], ◌∷◌, ℕ, suc, ◌+◌, ◌-◌, ◌≤◌, ◌<◌, length, get_or}
use Rattle.std.proofs.Math.Option.{Option, some, none}
use Rattle.lists.specs.Elements.{nth}
use Rattle.edition.specs.Limits.{text_bytes, user_names, constant_count, ere_count, instruction_count, operand_depth}
use Rattle.ere_meaning.specs.Tree.{Class, Ere}
use Rattle.ere_grammar.specs.Read.{read_ere}
use Rattle.image_format.specs.Codes.{ImmediateKind, a-constant, a_variable, an_assignable_variable, an_ere, an-instruction, a_positive_count, Code, code_of, flow, section_end, next, exit}
use Rattle.image_format.specs.Image.{Constant, number, text, Instruction, Image}
use Rattle.semantics.specs.Variables.{assignable}
use Rattle.semantics.specs.World.{variable_count}
use Rattle.semantics.specs.Moves.{Section, main, section_of}
use Rattle.semantics.specs.Check.{successors}

abbrev pub Short : Constant → Type 0
Short (number n) = Unit
Short (text l) = length l ≤ text_bytes

module _ (i : Image) where
  -- a number names something, and keeps the rule of its kind
  abbrev pub Exists : Section → ImmediateKind → ℕ → Type 0
  Exists s a-constant n = n < length i.constants
  Exists s a_variable n = n < variable_count i
  -- "no set of 0, 1, 5, 6"
  Exists s an_assignable_variable n = (n < variable_count i) × (assignable i.edition n ≡ true)
  Exists s an_ere n = n < length i.eres
  Exists s an-instruction n = n < length (section_of i s)
  -- "print's n from 1"
  Exists s a_positive_count n = 1 ≤ n

  abbrev pub AllExist : Section → List ImmediateKind → List ℕ → Type 0
  AllExist s [] [] = Unit
  AllExist s [] (n ∷ ns) = ⊥
  AllExist s (k ∷ ks) [] = ⊥
  AllExist s (k ∷ ks) (n ∷ ns) = (Exists s k n) × (AllExist s ks ns)

  -- instruction n of a section
  pub record Allowed (s : Section) (n : ℕ) (j : Instruction) : Type 0 where
    pub row : Code
    pub code : code_of i.edition j.code ≡ some row
    pub exist : AllExist s row.immediates j.immediates
    pub last : (row.operation ≡ flow section_end) ↔ (suc n ≡ length (section_of i s))
    pub start : n ≡ 0 → j.depth ≡ 0
    pub at-end : row.operation ≡ flow section_end → j.depth ≡ 0
    pub at_next : row.operation ≡ flow next → j.depth ≡ 0
    pub at_exit : row.operation ≡ flow exit → j.depth ≡ 0
    pub deep : j.depth ≤ operand_depth
    pub enough : row.pops j.immediates ≤ j.depth
    pub leads : (k : ℕ) → k < length (successors row.operation n j.immediates)
        → (d : Instruction) × (nth (section_of i s) (get_or (successors row.operation n j.immediates) k 0) ≡ some d)
        × (d.depth ≡ j.depth - row.pops j.immediates + row.pushes j.immediates)
    pub nexts : row.operation ≡ flow next → s ≡ main

  pub record Checked : Type 0 where
    pub users : i.users ≤ user_names
    pub constants : length i.constants ≤ constant_count
    pub texts : (n : ℕ) (a : Constant) → nth i.constants n ≡ some a → Short a
    pub eres : length i.eres ≤ ere_count
    pub reads : (n : ℕ) (l : List ℕ) → nth i.eres n ≡ some l → (e : Ere Class) × (read_ere i.edition l ≡ some e)
    pub some_code : (s : Section) → 1 ≤ length (section_of i s)
    pub few : (s : Section) → length (section_of i s) ≤ instruction_count
    pub each_one : (s : Section) (n : ℕ) (j : Instruction) → nth (section_of i s) n ≡ some j → Allowed s n j
