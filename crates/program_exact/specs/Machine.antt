-- Internal: cited by private contracts only. The grammar of programs as a machine: what it knows after some kinds of
-- tokens, and what it knows after one more. It looks at no token ahead, so what it takes is what can go on. (proofs/
-- shows that it takes what the grammar has, and nothing else.)
use Rattle.std.specs.Prelude.{Bool, true, false, not, cond, ◌&&◌, List, [], ◌∷◌, ℕ, zero, suc, eqb, leb}
use Rattle.std.proofs.Math.Option.{Option, some, none}
use Rattle.program_tokens.specs.Kinds.{Kind, text_end, newline, NUMBER, STRING, ERE, fixed_variable, BEGIN, END, IF, ELSE, WHILE, PRINT, NEXT, EXIT, open_brace, close_brace, open_paren, close_paren, comma, semicolon, tilde, dollar, assign, no_match, same, among}
use Rattle.program_tree.specs.Functions.{Shape, an_expression, an_ere, Function, function_of}
use Rattle.program_grammar.specs.Sets.{targets, prefixes, enders, starts_expression}
use Rattle.program_reader.specs.Operators.{fields, concatenations, compared, conjunctions, tier_of}

-- how far an expression is: nothing but what can be assigned was read; operators can follow; the right operand of a
-- comparison is read; a match was read
pub data Mode : Type 0 where
  fresh plain against tested : Mode

-- the blocks around a statement: an action, in which `next` may be or not; a block that is a statement, with the number
-- of `if`s before it that can still have an `else`
pub data Blocks : Type 0 where
  action : Bool → Blocks
  nested : ℕ → Blocks → Blocks

-- where an expression is: in parentheses, or an argument with those that follow it, and how far the expression around
-- them is; a condition, a statement, an element of a print list, with the `if`s that can have an `else`; a pattern
pub data Context : Type 0 where
  group : Mode → Context → Context
  call : List Shape → Mode → Context → Context
  condition value listed : ℕ → Blocks → Context
  pattern : Context

pub data State : Type 0 where
  -- before the first item; between items; after the text's end; after `BEGIN` or `END`
  start between done action_next : State
  -- before an operand; where newlines may come before it; after a `$`
  operand operand_line operand_field : Mode → Context → State
  -- after a `~` or `!~`; after an operand
  ere_next : Context → State
  after : Mode → Context → State
  -- after a function's word; before an ERE argument; before an argument that newlines may come before; after an ERE
  Open-next ere_argument : List Shape → Mode → Context → State
  argument_line : Shape → List Shape → Mode → Context → State
  argument-end : List Shape → Mode → Context → State
  -- after `if` or `while`; before a body; after `print`; after a statement that needs an end
  condition_next body print_next finished : ℕ → Blocks → State
  -- before a statement of a block: the `if`s that can have an `else` here, and whether a `;` was passed before it
  list : ℕ → Bool → Blocks → State

abbrev pub settle : Mode → Mode
settle fresh = plain
settle plain = plain
settle against = against
settle tested = tested

abbrev pub is_fresh : Mode → Bool
is_fresh fresh = true
is_fresh plain = false
is_fresh against = false
is_fresh tested = false

abbrev pub is_tested : Mode → Bool
is_tested fresh = false
is_tested plain = false
is_tested against = false
is_tested tested = true

-- the tier at which an operator goes on, or 0: no comparison follows a comparison, and no tighter operator a match
abbrev pub tight : Mode → ℕ → ℕ
tight fresh n = n
tight plain n = n
tight against n = cond (eqb n compared) 0 n
tight tested n = 0

unfoldable pub tier_after : Mode → ℕ → ℕ
tier_after m n = cond (leb conjunctions n) n (tight m n)

-- whether `next` may be in a block
abbrev pub main_of : Blocks → Bool
main_of (action b) = b
main_of (nested n b) = main_of b

-- "In a print list `>` must be inside parentheses"
abbrev pub printed : Context → Bool
printed (group m c) = false
printed (call l m c) = false
printed (condition n b) = false
printed (value n b) = false
printed (listed n b) = true
printed pattern = false

-- after the `}` of a block
abbrev pub closed : Blocks → State
closed (action b) = between
closed (nested n b) = list n false b

abbrev pub else_step : ℕ → Blocks → Option State
else_step zero b = none
else_step (suc n) b = some (body n b)

-- after the `(` of a call
abbrev pub opened : List Shape → Mode → Context → Option State
opened [] m c = none
opened (an_expression ∷ l) m c = some (operand fresh (call l m c))
opened (an_ere ∷ l) m c = some (ere_argument l m c)

unfoldable pub argument_end : List Shape → Mode → Context → Kind → Option State
argument_end [] m c k = cond (same k close_paren) (some (after m c)) none
argument_end (x ∷ l) m c k = cond (same k comma) (some (argument_line x l m c)) none

-- after a statement that needs an end
unfoldable pub finished_step : ℕ → Blocks → Kind → Option State
finished_step n b k =
    cond (among enders k) (some (list n (same k semicolon) b)) (cond (same k close_brace) (some (closed b)) none)

-- after a whole expression
unfoldable pub exit : Context → Kind → Option State
exit (group m c) k = cond (same k close_paren) (some (after m c)) none
exit (call l m c) k = argument_end l m c k
exit (condition n b) k = cond (same k close_paren) (some (body n b)) none
exit (value n b) k = finished_step n b k
exit (listed n b) k = cond (same k comma) (some (operand_line fresh (listed n b))) (finished_step n b k)
exit pattern k =
    cond (same k open_brace) (some (list 0 false (action true)))
    (cond (among enders k) (some between) (cond (same k text_end) (some done) none))

module _ (edition : ℕ) where
  abbrev pub call_step : Mode → Context → Option Function → Option State
  call_step m c none = none
  call_step m c (some f) = some (Open-next f.shapes m c)

  -- a primary: how far the expression is after a name that can be assigned, and after others
  unfoldable pub primary_step : Mode → Mode → Context → Kind → Option State
  primary_step named m c k =
      cond (among (NUMBER ∷ STRING ∷ ERE ∷ fixed_variable ∷ []) k) (some (after m c))
      (cond (among targets k) (some (after named c))
      (cond (same k open_paren) (some (operand fresh (group m c))) (call_step m c (function_of edition k))))

  unfoldable pub field_step : Mode → Mode → Context → Kind → Option State
  field_step named m c k = cond (same k dollar) (some (operand_field named c)) (primary_step named m c k)

  unfoldable pub operand_step : Mode → Context → Kind → Option State
  operand_step m c k = cond (among prefixes k) (some (operand (settle m) c)) (field_step m (settle m) c k)

  unfoldable pub operator_step : Mode → Context → Kind → ℕ → Option State
  operator_step m c k n =
      cond (eqb n concatenations) (operand_step (settle m) c k)
      (cond (leb conjunctions n) (some (operand_line plain c))
      (cond (eqb n compared) (some (operand against c)) (some (operand (settle m) c))))

  unfoldable pub other_step : Mode → Context → Kind → Option State
  other_step m c k =
      cond (among (tilde ∷ no_match ∷ []) k && not (is_tested m)) (some (ere_next c))
      (cond (same k assign && is_fresh m) (some (operand fresh c)) (exit c k))

  unfoldable pub after_step : Mode → Context → Kind → Option State
  after_step m c k =
      let n = tier_after m (tier_of edition (printed c) k) in
      cond (eqb n fields) (other_step m c k) (operator_step m c k n)

  unfoldable pub argument_step : Shape → List Shape → Mode → Context → Kind → Option State
  argument_step an_expression l m c k = operand_step fresh (call l m c) k
  argument_step an_ere l m c k = cond (same k ERE) (some (argument-end l m c)) none

  -- a statement's first token
  unfoldable pub begin_step : ℕ → Blocks → Kind → Option State
  begin_step n b k =
      cond (same k semicolon) (some (list n false b))
      (cond (same k open_brace) (some (list 0 false (nested n b)))
      (cond (same k IF) (some (condition_next (suc n) b))
      (cond (same k WHILE) (some (condition_next n b))
      (cond (same k PRINT) (some (print_next n b))
      (cond (same k EXIT) (some (finished n b))
      (cond (same k NEXT && main_of b) (some (finished n b)) (operand_step fresh (value n b) k)))))))

  unfoldable pub list_step : ℕ → Bool → Blocks → Kind → Option State
  list_step n semicolons b k =
      cond (same k newline) (some (list n semicolons b))
      (cond (same k close_brace) (some (closed b))
      (cond (same k ELSE) (else_step n b)
      (cond (same k semicolon && not semicolons) (some (list n true b)) (begin_step 0 b k))))

  -- an item's first token, or the text's end
  unfoldable pub item_step : Kind → Option State
  item_step k =
      cond (same k text_end) (some done)
      (cond (among (BEGIN ∷ END ∷ []) k) (some action_next)
      (cond (same k open_brace) (some (list 0 false (action true))) (operand_step fresh pattern k)))

  unfoldable pub step : State → Kind → Option State
  step start k = cond (same k newline) (some start) (item_step k)
  step between k = cond (among enders k) (some between) (item_step k)
  step done k = none
  step action_next k = cond (same k open_brace) (some (list 0 false (action false))) none
  step (operand m c) k = operand_step m c k
  step (operand_line m c) k = cond (same k newline) (some (operand_line m c)) (operand_step m c k)
  step (operand_field m c) k = field_step m m c k
  step (ere_next c) k = cond (same k ERE) (some (after tested c)) none
  step (after m c) k = after_step m c k
  step (Open-next l m c) k = cond (same k open_paren) (opened l m c) none
  step (ere_argument l m c) k = argument_step an_ere l m c k
  step (argument_line x l m c) k = cond (same k newline) (some (argument_line x l m c)) (argument_step x l m c k)
  step (argument-end l m c) k = argument_end l m c k
  step (condition_next n b) k = cond (same k open_paren) (some (operand fresh (condition n b))) none
  step (body n b) k = cond (same k newline) (some (body n b)) (begin_step n b k)
  step (print_next n b) k =
      cond (starts_expression edition k) (operand_step fresh (listed n b) k) (finished_step n b k)
  step (finished n b) k = finished_step n b k
  step (list n semicolons b) k = list_step n semicolons b k

  abbrev pub step_in : Option State → Kind → Option State
  step_in none k = none
  step_in (some x) k = step x k

  -- the state after some kinds, if they can be taken
  unfoldable pub run : List Kind → Option State → Option State
  run [] x = x
  run (k ∷ l) x = run l (step_in x k)
