-- Document 01, "Outcomes": "the first token that .. can't continue any program (4)"; "Tokens and grammar": "`/` starts
-- an ERE where the grammar below allows one, else it divides."
use Rattle.std.specs.Prelude.{List, [], ◌∷◌, ◌++◌, ℕ}
use Rattle.program_tokens.specs.Kinds.{Kind, ERE}
use Rattle.program_tokens.specs.Tokens.{Token, token_at, token_after, as_operand}
use Rattle.program_grammar.specs.Grammar.{Sentence}

-- some tokens complete these to a program
pub record Viable (edition : ℕ) (kinds : List Kind) : Type 0 where
  pub rest : List Kind
  pub complete : Sentence edition (kinds ++ rest)

-- a token after some others, read as the grammar has it: a `/` is an ERE where the grammar allows one
pub data Taken (edition : ℕ) (s : List ℕ) (before : List Kind) (t : Token) : Token → Type 0 where
  operand : Viable edition (before ++ (ERE ∷ [])) → Taken edition s before t (as_operand edition s t)
  operator : (Viable edition (before ++ (ERE ∷ [])) → ⊥) → Taken edition s before t t

-- the text's tokens up to one: the kinds of those before it, and it
pub data Reached (edition : ℕ) (s : List ℕ) : List Kind → Token → Type 0 where
  first : {t : Token} → Taken edition s [] (token_at edition s 0) t → Reached edition s [] t
  after : {before : List Kind} {t u : Token} → Reached edition s before t
      → Taken edition s (before ++ (t.kind ∷ [])) (token_after edition s t) u
      → Reached edition s (before ++ (t.kind ∷ [])) u

-- the first token that can't continue any program
pub record Refused (edition : ℕ) (s : List ℕ) (t : Token) : Type 0 where
  pub before : List Kind
  pub reached : Reached edition s before t
  pub viable : Viable edition before
  pub stuck : Viable edition (before ++ (t.kind ∷ [])) → ⊥
