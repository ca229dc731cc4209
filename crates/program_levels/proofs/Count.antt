-- A count of the levels that are open, beside the kinds of a program's tokens. It takes every kind: whether a kind can
-- stand is no matter of it.
use mathlib.Core.Bool.{Bool, true, false, not, cond, ◌&&◌}
use mathlib.Core.List.{List, [], ◌∷◌}
use Prim.Native.Nat.{ℕ, suc}
use lib.Dec.{eqb}
use Rattle.program_tokens.specs.Kinds.{Kind, text_end, newline, BEGIN, END, IF, ELSE, WHILE, PRINT, NEXT, EXIT, open_brace, close_brace, open_paren, comma, semicolon, tilde, dollar, assign, no_match, same, among}
use Rattle.program_tree.specs.Functions.{function_of}
use Rattle.program_grammar.specs.Sets.{prefixes, enders, is_function, starts_expression}
use Rattle.program_reader.specs.Operators.{fields, concatenations, tier_of}
use Rattle.program_levels.specs.Levels.{at_least}

-- the braces around a statement: an action's; those of a block that is a statement, with the level of that statement
-- and those of the `if`s before it that can have an `else`
pub data Braces : Type 0 where
  action : Braces
  nested : ℕ → List ℕ → Braces → Braces

-- where an expression is: in parentheses, with the level inside them and that of the expression around; a condition, or
-- an expression of a statement, with the statement's level; a pattern
pub data Around : Type 0 where
  paren : ℕ → ℕ → Around → Around
  condition statement : ℕ → List ℕ → Braces → Around
  pattern : Around

pub data Count : Type 0 where
  between done action_next : Count
  -- before an operand, and after a function's word, with the level of the operand and that of its expression
  operand calling : ℕ → ℕ → Around → Count
  after : ℕ → Around → Count
  -- after `if` or `while`; before its body; after `print`
  condition_next body print_next : ℕ → List ℕ → Braces → Count
  list : List ℕ → Bool → Braces → Count

-- what a kind does: the level that it opens, or 0, and what is open then
pub record Move : Type 0 where
  pub level : ℕ
  pub to : Count

abbrev pub moves : ℕ → Count → Move
moves n x = record { level = n; to = x }

-- the level of the statements in braces
abbrev pub level_of : Braces → ℕ
level_of action = 1
level_of (nested n p b) = suc n

abbrev pub closed : Braces → Count
closed action = between
closed (nested n p b) = list p false b

abbrev pub raise : ℕ → Move → Move
raise n m = moves (at_least n m.level) m.to

-- whether an operand may be
abbrev pub expects : Count → Bool
expects between = true
expects done = false
expects action_next = false
expects (operand d e c) = true
expects (calling d e c) = false
expects (after e c) = false
expects (condition_next n p b) = false
expects (body n p b) = true
expects (print_next n p b) = true
expects (list p q b) = true

unfoldable pub leave : Around → Kind → Move
leave (paren a e c) k = cond (same k comma) (moves 0 (operand a a (paren a e c))) (moves 0 (after e c))
leave (condition n p b) k = moves 0 (body n p b)
leave (statement n p b) k =
    cond (same k comma) (moves 0 (operand n n (statement n p b)))
    (cond (among enders k) (moves 0 (list p (same k semicolon) b)) (moves 0 (closed b)))
leave pattern k =
    cond (same k open_brace) (moves 1 (list [] false action))
    (cond (same k text_end) (moves 0 done) (moves 0 between))

abbrev pub else_move : List ℕ → Braces → Move
else_move [] b = moves 0 (list [] false b)
else_move (n ∷ p) b = moves 0 (body n p b)

module _ (edition : ℕ) where
  unfoldable pub operand_move : ℕ → ℕ → Around → Kind → Move
  operand_move d e c k =
      cond (same k newline) (moves 0 (operand d e c))
      (cond (among (dollar ∷ prefixes) k) (moves (suc d) (operand (suc d) e c))
      (cond (same k open_paren) (moves (suc d) (operand (suc d) (suc d) (paren (suc d) e c)))
      (cond (is_function (function_of edition k)) (moves 0 (calling d e c)) (moves 0 (after e c)))))

  unfoldable pub other_move : ℕ → Around → Kind → Move
  other_move e c k =
      cond (among (tilde ∷ no_match ∷ []) k) (moves 0 (operand e e c))
      (cond (same k assign) (moves (suc e) (operand (suc e) (suc e) c)) (leave c k))

  unfoldable pub after_move : ℕ → Around → Kind → Move
  after_move e c k =
      cond (eqb (tier_of edition false k) concatenations) (operand_move e e c k)
      (cond (eqb (tier_of edition false k) fields) (other_move e c k) (moves 0 (operand e e c)))

  unfoldable pub begin_move : ℕ → List ℕ → Braces → Kind → Move
  begin_move n p b k =
      cond (same k semicolon) (moves 0 (list p false b))
      (cond (same k open_brace) (moves (suc n) (list [] false (nested n p b)))
      (cond (same k IF) (moves 0 (condition_next n (n ∷ p) b))
      (cond (same k WHILE) (moves 0 (condition_next n p b))
      (cond (same k PRINT) (moves 0 (print_next n p b))
      (cond (among (NEXT ∷ EXIT ∷ []) k) (moves 0 (after n (statement n p b))) (operand_move n n (statement n p b) k))))))

  unfoldable pub list_move : List ℕ → Bool → Braces → Kind → Move
  list_move p q b k =
      cond (same k newline) (moves 0 (list p q b))
      (cond (same k close_brace) (moves 0 (closed b))
      (cond (same k ELSE) (else_move p b)
      (cond (same k semicolon && not q) (moves 0 (list p true b)) (begin_move (level_of b) [] b k))))

  unfoldable pub item_move : Kind → Move
  item_move k =
      cond (same k text_end) (moves 0 done)
      (cond (among (BEGIN ∷ END ∷ []) k) (moves 0 action_next)
      (cond (same k open_brace) (moves 1 (list [] false action)) (operand_move 0 0 pattern k)))

  unfoldable pub move : Count → Kind → Move
  move between k = cond (among enders k) (moves 0 between) (item_move k)
  move done k = moves 0 done
  move action_next k = moves 1 (list [] false action)
  move (operand d e c) k = operand_move d e c k
  move (calling d e c) k = moves (suc d) (operand (suc d) (suc d) (paren (suc d) e c))
  move (after e c) k = after_move e c k
  move (condition_next n p b) k = moves (suc n) (operand (suc n) (suc n) (condition n p b))
  move (body n p b) k = cond (same k newline) (moves 0 (body n p b)) (raise (suc n) (begin_move (suc n) p b k))
  move (print_next n p b) k =
      cond (starts_expression edition k) (operand_move n n (statement n p b) k) (leave (statement n p b) k)
  move (list p q b) k = list_move p q b k

  -- what is open after some kinds, and the levels that they open
  unfoldable pub travel : List Kind → Count → Count
  travel [] x = x
  travel (k ∷ l) x = travel l (move x k).to

  unfoldable pub trace : List Kind → Count → List ℕ
  trace [] x = []
  trace (k ∷ l) x = (move x k).level ∷ trace l (move x k).to
