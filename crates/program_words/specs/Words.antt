-- Internal: cited by private contracts only. Document 01, "The image": an instruction is "code, depth before it, and
-- the operand where one is named". Before names, constants and EREs have numbers it is one word; this is the word, and
-- what it says.
use Rattle.std.specs.Prelude.{List, [], ◌∷◌, ℕ, ◌+◌, ◌*◌, ◌/◌, ◌%◌, ◌<◌}
use Rattle.edition.specs.Limits.{filter_text}

-- a code, the depth before it, and two operands
abbrev pub packed : ℕ → ℕ → ℕ → ℕ → ℕ
packed op depth first second = op + 256 * depth + 16777216 * first + 17592186044416 * second

-- numbers that a word can hold: 8 bits, 16 bits, and twice 20 bits
pub record Fits (op depth first second : ℕ) : Type 0 where
  pub op_fits : op < 256
  pub depth_fits : depth < 65536
  pub first_fits : first < 1048576
  pub second_fits : second < 1048576

-- what a word says
abbrev pub op_in : ℕ → ℕ
op_in w = w % 256

abbrev pub depth_in : ℕ → ℕ
depth_in w = w / 256 % 65536

abbrev pub first_in : ℕ → ℕ
first_in w = w / 16777216 % 1048576

abbrev pub second_in : ℕ → ℕ
second_in w = w / 17592186044416

-- an instruction with at most one operand
abbrev pub word : ℕ → ℕ → ℕ → ℕ
word op depth operand = packed op depth operand 0

-- ---- operands by place: of a constant, a name or an ERE, where it starts in the text; "constant 0 (the number, here
-- and below)" and constant 1 are no part of the text, so their operands are larger than any place

abbrev pub implied : ℕ → ℕ
implied v = filter_text + v

-- ---- runs of instructions, of "Translation"

-- "constant 0 .., field", and an instruction on that
abbrev pub record_words : ℕ → ℕ → ℕ → List ℕ
record_words op depth operand = word 1 depth (implied 0) ∷ word 4 (depth + 1) 0 ∷ word op (depth + 1) operand ∷ []

-- "bare ERE is constant 0 .., field, matches"
abbrev pub ere_words : ℕ → ℕ → List ℕ
ere_words depth place = record_words 22 depth place

-- "not, not"
abbrev pub not_words : ℕ → List ℕ
not_words depth = word 14 (depth + 1) 0 ∷ word 14 (depth + 1) 0 ∷ []

-- "`a && b`: a, 28 L, b, not, not, 27 E, L: constant 0, E": what follows b, from instruction n on
abbrev pub both_words : ℕ → ℕ → List ℕ
both_words n depth =
    word 14 (depth + 1) 0 ∷ word 14 (depth + 1) 0 ∷ word 27 (depth + 1) (n + 4) ∷ word 1 depth (implied 0) ∷ []

-- "`a || b`: a, 28 L, constant 1, 27 E, L: b, not, not, E": what is between a and b, from instruction j on
abbrev pub either_words : ℕ → ℕ → ℕ → List ℕ
either_words j depth e = word 28 (depth + 1) (j + 3) ∷ word 1 depth (implied 1) ∷ word 27 (depth + 1) e ∷ []

-- "Bare `print` prints `$0`."
abbrev pub print_words : List ℕ
print_words = record_words 29 0 1
