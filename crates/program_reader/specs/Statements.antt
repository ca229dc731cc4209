-- Internal: cited by private contracts only. Document 01, "Tokens and grammar": "Statements: ..", computed. "Nesting":
-- "A body's level opens with its first token".
use Rattle.std.specs.Prelude.{Bool, true, false, not, cond, ◌&&◌, List, [], ◌∷◌, ◌++◌, ℕ, zero, suc, length}
use Rattle.std.proofs.Math.Option.{Option, some, none}
use Rattle.program_tokens.specs.Kinds.{newline, IF, ELSE, WHILE, PRINT, NEXT, EXIT, open_brace, close_brace, open_paren, comma, semicolon}
use Rattle.program_tokens.specs.Tokens.{Token, is, is_one_of, token_after, as_operand}
use Rattle.program_tree.specs.Tree.{Expression, Statement, expression, print, if, if-else, while, block, next, exit, empty, sequence}
use Rattle.program_grammar.specs.Sets.{enders, starts_expression, starts_statement}
use Rattle.program_reader.specs.Read.{Read, ok, no, map, bind, refuse, too_deep, operand_after, past_newlines}
use Rattle.program_reader.specs.Operators.{expressions}
use Rattle.program_reader.specs.Expressions.{closed, inside, expression_at}

-- whether a statement ends in a `}` or a lone `;`, so that nothing need end it
unfoldable pub ended : Statement → Bool
ended (expression e) = false
ended (print es) = false
ended (if c a) = ended a
ended (if-else c a b) = ended b
ended (while c a) = ended a
ended (block b) = true
ended next = false
ended exit = false
ended empty = true
ended (sequence a b) = true

-- a body where no level is left: "at one token 3, 5, 4, 6"
unfoldable pub no_body : ℕ → Bool → Token → Read Statement
no_body edition in_main t = cond (starts_statement edition in_main t.kind) (too_deep t) (refuse t)

module _ (edition : ℕ) (s : List ℕ) where
  -- ---- "`print` with an optional list"

  -- the rest of a print list; at most n elements
  unfoldable pub listed : ℕ → ℕ → Read (List Expression) → Read (List Expression)
  listed levels zero r = r
  listed levels (suc n) (no outcome place) = no outcome place
  listed levels (suc n) (ok es t) =
      let element = expression_at edition s levels true (past_newlines edition s (token_after edition s t)) in
      let more = map (λ e. es ++ (e ∷ [])) element in
      let r = listed levels n more in
      cond (is comma t) r (ok es t)

  unfoldable pub print_at : ℕ → Token → Read Statement
  print_at levels u =
      let r = map print (listed levels (length s) (map (λ e. e ∷ []) (expression_at edition s levels true u))) in
      cond (starts_expression edition u.kind) r (ok (print []) u)

  -- ---- "`if`/`else`, `while`"

  -- the condition in parentheses, at its `(`
  unfoldable pub condition_at : ℕ → Token → Read Expression
  condition_at levels u =
      let r = closed edition s (inside edition s levels false expressions u (operand_after edition s u)) in
      cond (is open_paren u) r (refuse u)

  -- the token after an `else`, if one follows: newlines "may stand before `else`, as may one `;`". Where the then-part
  -- still needs an end (`free` is false), one of them must be there.
  unfoldable pub else_after : ℕ → Bool → Bool → Token → Option Token
  else_after zero free semicolons t = none
  else_after (suc n) free semicolons t =
      let line = else_after n true semicolons (token_after edition s t) in
      let mark = else_after n true true (token_after edition s t) in
      cond (is newline t) line
      (cond (is semicolon t && not semicolons) mark
      (cond (is ELSE t && free) (some (token_after edition s t)) none))

  module _ (body : Token → Read Statement) where
    -- a body: "newlines may follow .. `else` and the `)` of `if` and `while`"
    abbrev pub body_at : Token → Read Statement
    body_at t = body (past_newlines edition s t)

    abbrev pub else_at : Expression → Statement → Token → Option Token → Read Statement
    else_at c a t none = ok (if c a) t
    else_at c a t (some u) = map (if-else c a) (body_at u)

    abbrev pub then_at : Expression → Token → Read Statement
    then_at c t = bind (body_at t) (λ a v. else_at c a v (else_after (length s) (ended a) false v))

    unfoldable pub if_at : ℕ → Token → Read Statement
    if_at levels u = bind (condition_at levels u) then_at

    unfoldable pub while_at : ℕ → Token → Read Statement
    while_at levels u = bind (condition_at levels u) (λ c t. map (while c) (body_at t))

  -- a statement, at its first token; `body` and `braces` read one level further in; `next` "(not in BEGIN or END)"
  unfoldable pub statement_of : Bool → ℕ → (Token → Read Statement) → (Token → Read Statement) → Token → Read Statement
  statement_of in_main levels body braces t =
      let b = braces t in
      let i = if_at body levels (token_after edition s t) in
      let w = while_at body levels (token_after edition s t) in
      let p = print_at levels (operand_after edition s t) in
      let e = map expression (expression_at edition s levels false t) in
      cond (is semicolon t) (ok empty (token_after edition s t))
      (cond (is open_brace t) b
      (cond (is IF t) i
      (cond (is WHILE t) w
      (cond (is PRINT t) p
      (cond (is EXIT t) (ok exit (token_after edition s t))
      (cond (is NEXT t && in_main) (ok next (token_after edition s t)) e))))))

  -- ---- "block"

  -- what follows a statement: an end, unless it is ended or a `}` follows
  unfoldable pub followed : (Token → Read Statement) → Read Statement → Read Statement
  followed rest (no outcome place) = no outcome place
  followed rest (ok a t) =
      let after = map (sequence a) (rest (token_after edition s t)) in
      let here = map (sequence a) (rest t) in
      cond (ended a) here (cond (is_one_of enders t) after (cond (is close_brace t) here (refuse t)))

  -- the statements up to a `}`; at most n
  unfoldable pub statements : (Token → Read Statement) → ℕ → Token → Read Statement
  statements statement zero t = refuse t
  statements statement (suc n) t =
      let line = statements statement n (token_after edition s t) in
      let more = followed (statements statement n) (statement (as_operand edition s t)) in
      cond (is close_brace t) (ok empty (token_after edition s t)) (cond (is newline t) line more)

  -- a block, at its `{`
  unfoldable pub block_of : (Token → Read Statement) → Token → Read Statement
  block_of statement t = map block (statements statement (suc (length s)) (token_after edition s t))

  -- ---- levels

  -- a statement, by the levels that are left
  unfoldable pub statement_at : Bool → ℕ → Token → Read Statement
  statement_at in_main zero t = statement_of in_main zero (no_body edition in_main) too_deep t
  statement_at in_main (suc levels) t =
      statement_of in_main (suc levels) (statement_at in_main levels) (block_of (statement_at in_main levels)) t
