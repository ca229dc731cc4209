-- Internal: cited by private contracts only. The table of codes as numbers: what the code of this crate has, by the
-- table of `image_format`.
use Rattle.std.specs.Prelude.{Bool, true, false, List, [], ◌∷◌, ℕ, ◌+◌, ◌*◌, length}
use Rattle.std.proofs.Math.Option.{Option, some, none}
use Rattle.image_format.specs.Codes.{ImmediateKind, a-constant, a_variable, an_assignable_variable, an_ere, an-instruction, a_positive_count, Code}

-- what a number of an instruction names, as a number
abbrev pub named_number : ImmediateKind → ℕ
named_number a-constant = 1
named_number a_variable = 2
named_number an_ere = 3
named_number an-instruction = 4
named_number a_positive_count = 5
named_number an_assignable_variable = 6

-- what a code's first number names, and its second one: 0 for nothing
abbrev pub first_number : List ImmediateKind → ℕ
first_number [] = 0
first_number (k ∷ l) = named_number k

abbrev pub second_number : List ImmediateKind → ℕ
second_number [] = 0
second_number (k ∷ l) = first_number l

-- a code's row: what it takes and leaves, where the code alone settles that, and what it names
abbrev pub row_number : Code → ℕ
row_number k =
    k.pops [] + 4 * (k.pushes []) + 8 * first_number k.immediates + 64 * second_number k.immediates

-- the row of a code, 0 if there is none
abbrev pub row_in : Option Code → ℕ
row_in none = 0
row_in (some k) = row_number k

-- whether there is such a code
abbrev pub is_known : Option Code → Bool
is_known none = false
is_known (some k) = true

-- how many numbers it names
abbrev pub operands_in : Option Code → ℕ
operands_in none = 0
operands_in (some k) = length k.immediates
