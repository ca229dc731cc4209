-- Internal: cited by private contracts only. A walk over the tokens of a text that is a program: where a `/` starts an
-- ERE, and the users' names by their places.
use Rattle.std.specs.Prelude.{◌≡◌, Bool, true, false, cond, List, [], ◌∷◌, ℕ, zero, suc, ◌+◌, ◌-◌, length, drop, eqb, leb}
use Rattle.std.proofs.Math.Option.{Option, some, none}
use Rattle.program_tokens.specs.Kinds.{Kind, text_end, NUMBER, STRING, ERE, user_name, variable, fixed_variable, IF, WHILE, open_paren, close_paren, slash, div_assign, same, among}
use Rattle.program_tokens.specs.Tokens.{Token, token, is, is_one_of, token_at, token_after, ere_length, spelling}
use Rattle.program_tree.specs.Tree.{Program}
use Rattle.program_reader.specs.Read.{ok}
use Rattle.program_reader.specs.Programs.{read_program}
use Rattle.program_numbering.specs.Names.{users_among, names_in_program}

-- a token where the grammar allows an ERE, without judging it: "The ERE ends at the next unescaped slash"
unfoldable pub spanned_by : Token → Option ℕ → Token
spanned_by t none = t
spanned_by t (some n) = token t.start ERE (2 + n)

unfoldable pub spanned : List ℕ → Token → Token
spanned s t =
    let ere = spanned_by t (ere_length false (drop (suc t.start) s)) in
    cond (is_one_of (slash ∷ div_assign ∷ []) t) ere t

-- how many parentheses of a condition are open after a token, and 1 more: 1 is after `if` or `while`; outside
-- conditions it is 0
unfoldable pub open_after : Kind → ℕ → ℕ
open_after k parens =
    cond (among (IF ∷ WHILE ∷ []) k) 1
    (cond (same k open_paren) (cond (eqb parens 0) 0 (parens + 1))
    (cond (same k close_paren) (cond (leb parens 2) 0 (parens - 1)) parens))

-- kinds that end an operand
abbrev pub operand_ends : List Kind
operand_ends = NUMBER ∷ STRING ∷ ERE ∷ user_name ∷ variable ∷ fixed_variable ∷ []

-- whether a `/` after a token starts an ERE: not after an operand, but after the `)` of a condition
unfoldable pub ere_follows : Kind → ℕ → Bool
ere_follows k parens = cond (among operand_ends k) false (cond (same k close_paren) (eqb parens 2) true)

module _ (edition : ℕ) (s : List ℕ) where
  unfoldable pub next_in : Token → ℕ → Token
  next_in t parens =
      let u = token_after edition s t in
      cond (ere_follows t.kind parens) (spanned s u) u

  -- the users' names from a token on
  unfoldable pub names_from : ℕ → Token → ℕ → List (List ℕ)
  names_from zero t parens = []
  names_from (suc fuel) t parens =
      let rest = names_from fuel (next_in t parens) (open_after t.kind parens) in
      cond (is text_end t) [] (cond (is user_name t) (spelling s t ∷ rest) rest)

  -- of the whole text
  abbrev pub names_in_text : List (List ℕ)
  names_in_text = names_from (suc (length s)) (spanned s (token_at edition s 0)) 0

-- the walk passes the names of the tree, in the text's order
abbrev pub NamesInOrder : ℕ → List ℕ → Type 0
NamesInOrder edition s =
    (p : Program) (t : Token) → read_program edition s ≡ ok p t
    → names_in_text edition s ≡ users_among edition (names_in_program p)
