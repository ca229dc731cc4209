-- Internal: cited by private contracts only. Sizes that are judged once the whole text is read.
use Rattle.std.specs.Prelude.{Bool, ◌&&◌, List, ℕ, ◌+◌, leb}
use Rattle.lists.specs.Elements.{all}
use Rattle.edition.specs.Limits.{user_names, constant_count, ere_count, instruction_count, operand_depth}
use Rattle.image_format.specs.Image.{Instruction}
use Rattle.semantics.specs.Variables.{special_count}

-- "operand depth 32"
abbrev pub depths_fit : List Instruction → Bool
depths_fit l = all (λ i. leb i.depth operand_depth) l

-- "user names 25; constants 64; EREs 16", of how many variables, constants and EREs there are
abbrev pub counts_fit : ℕ → ℕ → ℕ → ℕ → Bool
counts_fit edition variables constants eres =
    leb variables (special_count edition + user_names) && (leb constants constant_count && leb eres ere_count)

-- "instructions per section 1,024"
abbrev pub lengths_fit : ℕ → ℕ → ℕ → Bool
lengths_fit begin main end =
    leb begin instruction_count && (leb main instruction_count && leb end instruction_count)

abbrev pub sections_fit : List Instruction → List Instruction → List Instruction → Bool
sections_fit begin main end = depths_fit begin && (depths_fit main && depths_fit end)
