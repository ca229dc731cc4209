-- Internal: cited by private contracts only. What the readers answer: the one contract of all of them.
use Rattle.std.specs.Prelude.{◌≡◌, true, false, cond, List, ◌⊎◌, ℕ, ◌+◌, ◌*◌, ◌≤◌, ◌<◌, length, eqb}
use Rattle.edition.specs.Outcomes.{bad_token, misplaced_token, bad_ere}
use Rattle.edition.specs.Limits.{filter_text}
use Rattle.program_tokens.specs.Kinds.{fixed_variable, bad, bad-ere, text_end, close_paren, call_paren, same}
use Rattle.program_tokens.specs.Words.{word_kind}
use Rattle.program_tokens.specs.Tokens.{Token, is, token_after, as_operand}
use Rattle.program_tree.specs.Tree.{Expression, constant, ere, variable, parentheses, length-of, index, substr, match, field, prefix, arithmetic, join, compare, matches, no_match, both, either, assign, assign_field, Statement}
use Rattle.program_reader.specs.Read.{Read as Result, ok, no}
use Rattle.program_reader.specs.Statements.{ended}
use Rattle.program_code.specs.Expressions.{size, compile}
use Rattle.program_code.specs.Sections.{size_of, compile_statement}
use Rattle.program_lexer.specs.Coded.{coded, decoded, kind_count}
use Rattle.program_lexer.specs.declared.tokens.Token.{Token as Coded}
use Rattle.program_parser.specs.declared.read.Read.{Read}
use Rattle.program_parser.specs.Meaning.{token_from, name_at, Wrote}

-- ---- what a tree exactly is, as a number: 1 a name that can be assigned, 2 a `$` form, 0 any other

unfoldable pub form_of : ℕ → Expression → ℕ
form_of edition (variable v) = cond (same (word_kind edition v) fixed_variable) 0 1
form_of edition (field e) = 2
form_of edition (constant c) = 0
form_of edition (ere r) = 0
form_of edition (parentheses e) = 0
form_of edition (length-of e) = 0
form_of edition (index a b) = 0
form_of edition (substr a b c) = 0
form_of edition (match e r) = 0
form_of edition (prefix o e) = 0
form_of edition (arithmetic o a b) = 0
form_of edition (join a b) = 0
form_of edition (compare o a b) = 0
form_of edition (matches e r) = 0
form_of edition (no_match e r) = 0
form_of edition (both a b) = 0
form_of edition (either a b) = 0
form_of edition (assign v e) = 0
form_of edition (assign_field i e) = 0

-- of a statement: 3 if nothing need end it
abbrev pub end_of : Statement → ℕ
end_of a = cond (ended a) 3 0

-- ---- the answer of a reader

-- the token after what was read, the count after it, and what the tree is
abbrev pub success : Token → ℕ → ℕ → Read
success t n form = record { token = coded t; count = n; outcome = 0; form = form }

-- an outcome and its place
abbrev pub refusal : ℕ → ℕ → Read
refusal outcome place =
    record {
      token = record { start = place; kind = 0; stop = 0 };
      count = 0;
      outcome = outcome;
      form = 0;
    }

-- the outcome of a token that can't continue any program: "at one token 3, 5, 4"
abbrev pub refused_by : Token → ℕ
refused_by t = cond (is bad t) bad_token (cond (is bad-ere t) bad_ere misplaced_token)

-- the same, from the code's token
abbrev pub answered : Coded → ℕ → ℕ → Read
answered t n form = record { token = t; count = n; outcome = 0; form = form }

-- what a `)` has to follow
abbrev pub closed_of : ℕ → List ℕ → Read → Read
closed_of edition s r =
    cond (eqb r.outcome 0)
    (cond (is close_paren (decoded r.token)) (success (token_after edition s (decoded r.token)) r.count 0)
    (refusal (refused_by (decoded r.token)) r.token.start))
    r

-- ---- tokens to read from

module _ (edition : ℕ) (s : List ℕ) where
  -- a token that the text has at its place: that of the lexer, or the ERE that it is read again as, or "a `(` at once
  -- after a user name"
  unfoldable pub Placed : Token → Type 0
  Placed t =
      (t ≡ token_from edition s t.start)
      ⊎ ((t ≡ as_operand edition s (token_from edition s t.start)) ⊎ (is call_paren t ≡ true))

  -- a token of the text, at or after a place
  pub record Good (p : ℕ) (t : Token) : Type 0 where
    pub after : p ≤ t.start
    pub ordered : t.start ≤ t.stop
    pub within : t.stop ≤ length s
    pub longer : is text_end t ≡ false → t.start < t.stop
    pub placed : Placed t

  -- a token to read from, with n instructions written: no text has more than 8 instructions for a byte
  pub record Ready (t : Coded) (n : ℕ) : Type 0 where
    pub good : Good 0 (decoded t)
    pub known : t.kind < kind_count
    pub small : length s ≤ filter_text
    pub count : n ≤ 8 * t.start

  -- ---- reading an expression from the token t on, with n instructions written, at the depth d: the answer is r, and
  -- the section, which was xs, is ys
  pub record ReadExpression (t : Token) (n d : ℕ) (xs : List ℕ) (e : Expression) (u : Token) (r : Read)
      (ys : List ℕ) : Type 0 where
    pub answer : r ≡ success u (n + size e) (form_of edition e)
    pub good : Good t.stop u
    pub bound : size e + 8 * t.start < 8 * u.start
    pub wrote : Wrote edition s xs n (compile e n d) ys
    pub named : (v : List ℕ) → e ≡ variable v → name_at edition s t.start ≡ v

  unfoldable pub Reading : Token → ℕ → ℕ → List ℕ → Result Expression → Read → List ℕ → Type 0
  Reading t n d xs (ok e u) r ys = ReadExpression t n d xs e u r ys
  Reading t n d xs (no outcome place) r ys = (r ≡ refusal outcome place) × (outcome ≡ 0 → ⊥)

  -- ---- the same for a statement, at depth 0
  pub record ReadStatement (t : Token) (n : ℕ) (xs : List ℕ) (a : Statement) (u : Token) (r : Read)
      (ys : List ℕ) : Type 0 where
    pub answer : r ≡ success u (n + size_of a) (end_of a)
    pub good : Good t.stop u
    pub bound : size_of a + 8 * t.start ≤ 8 * u.start
    pub wrote : Wrote edition s xs n (compile_statement a n) ys

  unfoldable pub ReadingStatement : Token → ℕ → List ℕ → Result Statement → Read → List ℕ → Type 0
  ReadingStatement t n xs (ok a u) r ys = ReadStatement t n xs a u r ys
  ReadingStatement t n xs (no outcome place) r ys = (r ≡ refusal outcome place) × (outcome ≡ 0 → ⊥)
