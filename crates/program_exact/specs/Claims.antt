-- Document 01, "Outcomes": "left to right the first token that is bad (3, 5), opens level 17 (6) or can't continue any
-- program (4)": what is claimed of the reader, by the grammar as a relation. Statements, proved in proofs/Exactly.
use Rattle.std.specs.Prelude.{◌≡◌, ◌⊎◌, List, [], ◌∷◌, ◌++◌, ℕ}
use Rattle.edition.specs.Outcomes.{size_passed}
use Rattle.program_tokens.specs.Kinds.{Kind, text_end, ERE}
use Rattle.program_tokens.specs.Tokens.{Token}
use Rattle.program_tree.specs.Tree.{Program}
use Rattle.program_grammar.specs.Grammar.{Sentence}
use Rattle.program_grammar.specs.Viable.{Viable, Reached, Refused}
use Rattle.program_reader.specs.Read.{ok, no, refuse}
use Rattle.program_reader.specs.Programs.{read_program}

module _ (edition : ℕ) (s : List ℕ) where
  -- the tokens of the whole text are a sentence
  pub record Accepted : Type 0 where
    pub before : List Kind
    pub last : Token
    pub reached : Reached edition s before last
    pub at-end : last.kind ≡ text_end
    pub sentence : Sentence edition (before ++ (text_end ∷ []))

  -- a level too many, at a token that the grammar takes
  pub record Deep (place : ℕ) : Type 0 where
    pub before : List Kind
    pub opener : Token
    pub reached : Reached edition s before opener
    pub viable : Viable edition (before ++ (opener.kind ∷ []))
    pub at : place ≡ opener.start

  -- a refusal of a level too many, anywhere
  abbrev pub TooDeep : Type 0
  TooDeep = (place : ℕ) × (read_program edition s ≡ no size_passed place)

  -- the reader gives a tree exactly if the tokens are a sentence; on a sentence it refuses nothing but levels
  pub record ReadsExactly : Type 0 where
    pub only : (p : Program) (t : Token) → read_program edition s ≡ ok p t → Accepted
    pub all : Accepted → ((p : Program) × (t : Token) × (read_program edition s ≡ ok p t)) ⊎ TooDeep

  -- a refusal but 6 is at the first token that can't continue any program; where the text is no sentence, that token is
  -- refused, or 6 is given; 6 is at a token that can go on
  pub record RefusedExactly : Type 0 where
    pub stuck : (outcome place : ℕ) → read_program edition s ≡ no outcome place → (outcome ≡ size_passed → ⊥)
        → (t : Token) × Refused edition s t × (no outcome place ≡ refuse {A = Program} t)
    pub deep : (place : ℕ) → read_program edition s ≡ no size_passed place → Deep place
    pub refuses : (t : Token) → Refused edition s t → (Accepted → ⊥)
        → (read_program edition s ≡ refuse {A = Program} t) ⊎ TooDeep
    -- the text's end is such a token exactly if all tokens before it can be completed, and are no sentence with it
    pub at-end : (before : List Kind) (t : Token) → Reached edition s before t → t.kind ≡ text_end
        → Viable edition before → (Sentence edition (before ++ (text_end ∷ [])) → ⊥) → Refused edition s t
    pub no_sentence : (t : Token) (r : Refused edition s t) → t.kind ≡ text_end
        → Sentence edition (r.before ++ (text_end ∷ [])) → ⊥

  -- "`/` starts an ERE where the grammar below allows one, else it divides": it is told whether one can be after
  -- some tokens, and each text's tokens are read in one way
  pub record SlashExactly : Type 0 where
    pub told : (before : List Kind)
        → (Viable edition (before ++ (ERE ∷ []))) ⊎ (Viable edition (before ++ (ERE ∷ [])) → ⊥)
    pub one_way : (before : List Kind) (t u : Token) → Reached edition s before t → Reached edition s before u → t ≡ u
