-- What a reader answers: what it read, or the outcome and the place of a refusal.
use Rattle.std.specs.Prelude.{cond, List, [], ◌∷◌, ℕ, zero, suc, length}
use Rattle.edition.specs.Outcomes.{bad_token, misplaced_token, bad_ere, size_passed}
use Rattle.program_tokens.specs.Kinds.{Kind, newline, bad, bad-ere}
use Rattle.program_tokens.specs.Tokens.{Token, is, is_one_of, token_after, as_operand}

-- what was read and the first token after it, or an outcome and its place
pub data Read (A : Type 0) : Type 0 where
  ok : A → Token → Read A
  no : ℕ → ℕ → Read A

abbrev pub map : {A B : Type 0} → (A → B) → Read A → Read B
map f (ok a t) = ok (f a) t
map f (no outcome place) = no outcome place

abbrev pub bind : {A B : Type 0} → Read A → (A → Token → Read B) → Read B
bind (ok a t) f = f a t
bind (no outcome place) f = no outcome place

-- a token that can't continue any program: "at one token 3, 5, 4"; "the place is where that token starts, or the text's
-- end"
abbrev pub refuse : {A : Type 0} → Token → Read A
refuse t = no (cond (is bad t) bad_token (cond (is bad-ere t) bad_ere misplaced_token)) t.start

-- "opens level 17 (6)"
abbrev pub too_deep : {A : Type 0} → Token → Read A
too_deep t = no size_passed t.start

module _ (edition : ℕ) (s : List ℕ) where
  -- the token after t, where the grammar allows an operand
  abbrev pub operand_after : Token → Token
  operand_after t = as_operand edition s (token_after edition s t)

  -- the first token, of t and those after it, that is of none of some kinds; at most n tokens are passed
  unfoldable pub past_in : List Kind → ℕ → Token → Token
  past_in ks zero t = t
  past_in ks (suc n) t =
      let r = past_in ks n (token_after edition s t) in
      cond (is_one_of ks t) r t

  -- the same, where n does not matter: no text has more tokens than bytes
  abbrev pub past : List Kind → Token → Token
  past ks t = past_in ks (length s) t

  -- "newlines may follow": the first token after them, where the grammar allows an operand or a statement
  abbrev pub past_newlines : Token → Token
  past_newlines t = as_operand edition s (past (newline ∷ []) t)
