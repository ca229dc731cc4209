-- Internal: cited by private contracts only. Document 01, "The image": what the words of a section say, while
-- constants, names and EREs are still places of the text.
use Rattle.std.specs.Prelude.{◌≡◌, cond, List, [], ◌∷◌, ℕ, ◌-◌, drop, leb}
use Rattle.std.proofs.lemmas.List.Edits.{sets}
use Rattle.edition.specs.Limits.{filter_text}
use Rattle.image_format.specs.Image.{Constant, number, text}
use Rattle.program_tokens.specs.Kinds.{NUMBER}
use Rattle.program_tokens.specs.Tokens.{Token, is, token_of, as_operand, spelling, number_in, string_in, ere_in}
use Rattle.program_code.specs.Emitted.{Operand, nothing, the_constant, the_variable, the_ere, the_instruction, the_count, Emitted, opcode}
use Rattle.program_words.specs.Words.{op_in, depth_in, first_in, second_in}

module _ (edition : ℕ) (s : List ℕ) where
  -- the token that starts at a place
  abbrev pub token_from : ℕ → Token
  token_from a = token_of edition a (drop a s)

  -- the constant that a NUMBER or a STRING is
  abbrev pub constant_of : Token → Constant
  constant_of t = cond (is NUMBER t) (number (number_in s t)) (text (string_in s t))

  -- the constant of an operand: a number that the text doesn't have, or the token at a place
  abbrev pub constant_at : ℕ → Constant
  constant_at x = cond (leb filter_text x) (number (x - filter_text)) (constant_of (token_from x))

  -- the name, and the ERE, that start at a place
  abbrev pub name_at : ℕ → List ℕ
  name_at x = spelling s (token_from x)

  abbrev pub ere_at : ℕ → List ℕ
  ere_at x = ere_in s (as_operand edition s (token_from x))

  -- a number of a word stands for an operand
  unfoldable pub Denotes : Operand → ℕ → Type 0
  Denotes nothing x = x ≡ 0
  Denotes (the_constant c) x = constant_at x ≡ c
  Denotes (the_variable v) x = name_at x ≡ v
  Denotes (the_ere r) x = ere_at x ≡ r
  Denotes (the_instruction n) x = x ≡ n
  Denotes (the_count n) x = x ≡ n

  -- a word stands for an instruction
  pub record Means (w : ℕ) (i : Emitted) : Type 0 where
    pub op : op_in w ≡ opcode i.operation
    pub depth : depth_in w ≡ i.depth
    pub first : Denotes i.operand (first_in w)
    pub second : second_in w ≡ 0

  -- words stand for instructions, one for one
  pub data Spell : List ℕ → List Emitted → Type 0 where
    none_left : Spell [] []
    one_more : {w : ℕ} {i : Emitted} {ws : List ℕ} {is : List Emitted} → Means w i → Spell ws is
        → Spell (w ∷ ws) (i ∷ is)

  -- a section that was xs is ys once words for some instructions are stored from instruction n on
  pub record Wrote (xs : List ℕ) (n : ℕ) (is : List Emitted) (ys : List ℕ) : Type 0 where
    pub words : List ℕ
    pub stored : ys ≡ sets xs n words
    pub spelled : Spell words is
