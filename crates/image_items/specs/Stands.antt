-- Internal: cited by private contracts only. What is in an image's bytes from a place on, and what the code says of it.
use Rattle.std.specs.Prelude.{◌≡◌, Option, Some, None, Bool, true, false, List, [], ◌∷◌, ℕ, ◌-◌, ◌≤◌, ◌<◌, length, take, drop}
use Rattle.std.proofs.Math.Option.{none}
use Rattle.lists.specs.Parsing.{parsed, Parser, many}
use Rattle.buffer.specs.Parts.{part}
use Rattle.image_format.specs.Codes.{code_count, code_of}
use Rattle.image_format.specs.Image.{Constant, number, text, Instruction}
use Rattle.image_format.specs.Numbers.{take_number}
use Rattle.image_format.specs.Reading.{from_bytes, word_up_to, counted, constant, instruction}
use Rattle.opcodes.specs.Rows.{operands_in}
use Rattle.image_items.specs.declared.items.Text.{Text}
use Rattle.image_items.specs.declared.items.Found.{Found}
use Rattle.image_items.specs.declared.items.Constant.{Constant as Read}
use Rattle.image_items.specs.declared.items.Constant.TheVariants.{Number, Text as TextRead}
use Rattle.image_items.specs.declared.items.Fetched.{Fetched}

-- p takes a off the bytes from `at` on, and goes on at `end`
pub record Stands {A : Type 0} (p : Parser A) (l : List ℕ) (at : ℕ) (a : A) (end : ℕ) : Type 0 where
  pub taken : p (drop at l) ≡ parsed a (drop end l)
  pub forward : at < end
  pub inside : end ≤ length l

abbrev pub a_text : Parser (List ℕ)
a_text = counted from_bytes (word_up_to 255)

-- ---- a text

abbrev pub bytes_of : List ℕ → Text → List ℕ
bytes_of l r = part r.start (r.end - r.start) l

-- its bytes are some of l
abbrev pub Inside : List ℕ → Text → Type 0
Inside l r = (r.start ≤ r.end) × (r.end ≤ length l)

pub record IsText (l : List ℕ) (at : ℕ) (r : Text) : Type 0 where
  pub found : Stands a_text l at (bytes_of l r) r.end
  pub inside : Inside l r

abbrev pub TextAt : List ℕ → ℕ → Option Text → Type 0
TextAt l at None = a_text (drop at l) ≡ none
TextAt l at (Some r) = IsText l at r

-- ---- a constant

abbrev pub constant_of : List ℕ → Read → Constant
constant_of l (Number n) = number n
constant_of l (TextRead t) = text (bytes_of l t)

-- the bytes of a text are some of l
abbrev pub Within : List ℕ → Read → Type 0
Within l (Number n) = Unit {0}
Within l (TextRead t) = Inside l t

-- a text ends where its constant does
abbrev pub EndsAt : Read → ℕ → Type 0
EndsAt (Number n) end = Unit {0}
EndsAt (TextRead t) end = t.end ≡ end

pub record IsConstant (l : List ℕ) (at : ℕ) (r : Found) : Type 0 where
  pub found : Stands (constant from_bytes) l at (constant_of l r.constant) r.end
  pub inside : Within l r.constant
  pub last : EndsAt r.constant r.end

abbrev pub ConstantAt : List ℕ → ℕ → Option Found → Type 0
ConstantAt l at None = constant from_bytes (drop at l) ≡ none
ConstantAt l at (Some r) = IsConstant l at r

-- ---- an instruction

-- an instruction by its numbers: as many of them count as the code names
abbrev pub instruction_of : ℕ → ℕ → ℕ → ℕ → ℕ → Instruction
instruction_of edition code depth first second =
    record { code = code; depth = depth; immediates = take (operands_in (code_of edition code)) (first ∷ second ∷ []) }

-- a number, if one is named; else 0, and no byte is taken
abbrev pub take_named : Bool → Parser ℕ
take_named false l = parsed 0 l
take_named true l = take_number l

pub record IsOperand (named : Bool) (l : List ℕ) (at : ℕ) (r : ℕ × ℕ) : Type 0 where
  pub found : take_named named (drop at l) ≡ parsed r.0 (drop r.1 l)
  pub forward : at ≤ r.1
  pub inside : r.1 ≤ length l
  pub plain : named ≡ false → r.0 ≡ 0

abbrev pub OperandAt : Bool → List ℕ → ℕ → Option (ℕ × ℕ) → Type 0
OperandAt named l at None = take_named named (drop at l) ≡ none
OperandAt named l at (Some r) = IsOperand named l at r

-- after code and depth, n numbers
pub record AreNumbers (n code depth : ℕ) (l : List ℕ) (at : ℕ) (r : Fetched) : Type 0 where
  pub found : many take_number n (drop at l) ≡ parsed (take n (r.first ∷ r.second ∷ [])) (drop r.end l)
  pub forward : at ≤ r.end
  pub inside : r.end ≤ length l
  pub same_code : r.code ≡ code
  pub same_depth : r.depth ≡ depth
  pub no_first : n ≡ 0 → r.first ≡ 0
  pub no_second : n ≤ 1 → r.second ≡ 0

abbrev pub NumbersAt : ℕ → ℕ → ℕ → List ℕ → ℕ → Option Fetched → Type 0
NumbersAt n code depth l at None = many take_number n (drop at l) ≡ none
NumbersAt n code depth l at (Some r) = AreNumbers n code depth l at r

pub record IsInstruction (edition : ℕ) (l : List ℕ) (at : ℕ) (r : Fetched) : Type 0 where
  pub found : Stands (instruction from_bytes edition) l at (instruction_of edition r.code r.depth r.first r.second) r.end
  pub known : r.code < code_count edition
  pub no_first : operands_in (code_of edition r.code) ≡ 0 → r.first ≡ 0
  pub no_second : operands_in (code_of edition r.code) ≤ 1 → r.second ≡ 0

abbrev pub InstructionAt : ℕ → List ℕ → ℕ → Option Fetched → Type 0
InstructionAt edition l at None = instruction from_bytes edition (drop at l) ≡ none
InstructionAt edition l at (Some r) = IsInstruction edition l at r
