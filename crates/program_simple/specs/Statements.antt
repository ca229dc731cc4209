-- Internal: cited by private contracts only. What the readers of statements answer, beside `ReadingStatement`.
use Rattle.std.specs.Prelude.{◌≡◌, Bool, cond, List, ℕ, zero, suc, ◌+◌, ◌*◌, ◌≤◌, eqb, Option, Some, None}
use Rattle.std.proofs.Math.Option as maybe
use Rattle.program_tokens.specs.Kinds.{close_brace}
use Rattle.program_tokens.specs.Tokens.{Token, is, is_one_of, token_after}
use Rattle.program_tree.specs.Tree.{Expression, Statement}
use Rattle.program_grammar.specs.Sets.{enders}
use Rattle.program_reader.specs.Read.{Read as Result, ok, no, too_deep}
use Rattle.program_reader.specs.Statements.{no_body, statement_at, block_of}
use Rattle.program_code.specs.Expressions.{size, compile}
use Rattle.program_lexer.specs.Coded.{coded, decoded}
use Rattle.program_lexer.specs.declared.tokens.Token.{Token as Coded}
use Rattle.program_parser.specs.declared.read.Read.{Read}
use Rattle.program_parser.specs.Meaning.{Wrote}
use Rattle.program_parser.specs.Reading.{success, refusal, refused_by, Good}

-- the place of a token, as a token of no bytes
abbrev pub place_of : Token → Token
place_of t = record { start = t.start; kind = t.kind; stop = t.start }

-- the token after an `else`, if there is one
abbrev pub else_of : maybe.Option Token → Option Coded
else_of maybe.none = None
else_of (maybe.some u) = Some (coded u)

module _ (edition : ℕ) (s : List ℕ) where
  -- a body, and a block, one level further in, by the levels that are left
  abbrev pub body_of : Bool → ℕ → Token → Result Statement
  body_of in_main zero = no_body edition in_main
  body_of in_main (suc levels) = statement_at edition s in_main levels

  abbrev pub braces_of : Bool → ℕ → Token → Result Statement
  braces_of in_main zero = too_deep
  braces_of in_main (suc levels) = block_of edition s (statement_at edition s in_main levels)

  -- ---- a condition in parentheses, from its `(` on, with n instructions written: as an expression at depth 0; what
  -- the tree exactly is does not matter
  pub record ReadCondition (t : Token) (n : ℕ) (xs : List ℕ) (e : Expression) (u : Token) (r : Read) (ys : List ℕ)
      : Type 0 where
    pub answer : r ≡ success u (n + size e) 0
    pub good : Good edition s t.stop u
    pub bound : size e + 8 * t.start + 8 ≤ 8 * u.start
    pub wrote : Wrote edition s xs n (compile e n 0) ys

  unfoldable pub ReadingCondition : Token → ℕ → List ℕ → Result Expression → Read → List ℕ → Type 0
  ReadingCondition t n xs (ok e u) r ys = ReadCondition t n xs e u r ys
  ReadingCondition t n xs (no outcome place) r ys = (r ≡ refusal outcome place) × (outcome ≡ 0 → ⊥)

  -- ---- what has to follow a statement of a block
  abbrev pub followed_of : Read → Read
  followed_of r =
      let t = decoded r.token in
      let after = cond (is_one_of enders t) (success (token_after edition s t) r.count 0)
      (cond (is close_brace t) r (refusal (refused_by t) t.start)) in
      cond (eqb r.outcome 0) (cond (eqb r.form 3) r after) r
