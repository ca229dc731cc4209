-- The count goes beside the machine of program_exact: it expects an operand exactly where the machine takes an ERE.
use mathlib.Core.Path.{◌≡◌, refl, sym, ap, subst, ◌∙◌}
use mathlib.Core.Bool.{Bool, true, false, not, cond, ◌&&◌}
use mathlib.Core.List.{List, [], ◌∷◌}
use mathlib.Core.Option.{Option, some, none}
use mathlib.Core.Logic.{◌⊎◌, inl, inr}
use Prim.Native.Nat.{ℕ, zero, suc}
use native.Mathlib.Omega.{arith}
use lib.ListN.{length}
use lib.Dec.{eqb, leb}
use borrow.Author.Tests.{eqb-true}
use Rattle.lists.proofs.Tests.{clash, and-true}
use Rattle.lists.proofs.Options.{none-some}
use Rattle.program_tokens.specs.Kinds.{Kind, text_end, newline, NUMBER, STRING, ERE, fixed_variable, BEGIN, END, IF, ELSE, WHILE, PRINT, NEXT, EXIT, open_brace, close_brace, open_paren, close_paren, comma, semicolon, greater, tilde, dollar, assign, no_match, same, among, rank}
use Rattle.program_tokens.proofs.Ranks.{same-is}
use Rattle.program_tree.specs.Functions.{Shape, an_expression, an_ere, Function, function_of}
use Rattle.program_grammar.specs.Sets.{names, targets, prefixes, enders, starts_expression}
use Rattle.program_reader.specs.Operators.{fields, concatenations, compared, conjunctions, tier_of}
use Rattle.program_exact.specs.Machine.{Mode, fresh, plain, Blocks, action as action-blocks, nested as nested-blocks, Context, group, call, condition as condition-of, value, listed, pattern as pattern-of, State, start, between as between-state, done as done-state, action_next as action-state, operand as operand-state, operand_line, operand_field, ere_next, after as after-state, Open-next, ere_argument, argument_line, argument-end, condition_next as condition-state, body as body-state, print_next as print-state, finished, list as list-state, settle, is_fresh, is_tested, tier_after, printed, main_of, closed as closed-state, else_step, opened, argument_end, finished_step, exit, call_step, primary_step, field_step, operand_step, operator_step, other_step, after_step, argument_step, begin_step, list_step, item_step, step}
use Rattle.program_exact.proofs.Facts.{each, by-test, quiet, no-function, idle-operand, quiet-starts}
use Rattle.program_exact.proofs.Sentences.{idle-item}
use Rattle.program_exact.proofs.Readings.{ere-operand, ere-line, ere-field, ere-body, ere-list, ere-print, ere-start, ere-between, ere-next-takes, ere-argument-takes, ere-argument-line, argument-end-ere, open-ere, condition-ere, finished-ere, after-ere}
use Rattle.program_exact.proofs.Operands.{tier-after-is}
use Rattle.program_levels.proofs.Count.{Braces, action, nested, Around, paren, condition, statement, pattern, Count, between, done, action_next, operand, calling, after, condition_next, body, print_next, list, Move, moves, level_of, closed, raise, expects, leave, else_move, operand_move, after_move, begin_move, list_move, item_move, move}
use Rattle.program_levels.proofs.Derivations.{token-move, function-move, prefix-move, paren-move, binary-move, join-move, match-move, assign-move, quiet-move}
use Rattle.program_levels.proofs.Sentences.{apart}

pub data BesideBlocks : Blocks → Braces → Type 0 where
  in-action : (i : Bool) → BesideBlocks (action-blocks i) action
  in_block : (p : List ℕ) (b : Blocks) (n : ℕ) (c : Braces) → BesideBlocks b c → BesideBlocks (nested-blocks (length p) b) (nested n p c)

pub data BesideContext : Context → Around → Type 0 where
  in_group : (m : Mode) (c : Context) (f g : ℕ) (a : Around) → BesideContext c a → BesideContext (group m c) (paren f g a)
  in-call : (l : List Shape) (m : Mode) (c : Context) (f g : ℕ) (a : Around) → BesideContext c a → BesideContext (call l m c) (paren f g a)
  in-condition : (p : List ℕ) (b : Blocks) (n : ℕ) (c : Braces) → BesideBlocks b c → BesideContext (condition-of (length p) b) (condition n p c)
  in-value : (p : List ℕ) (b : Blocks) (n : ℕ) (c : Braces) → BesideBlocks b c → BesideContext (value (length p) b) (statement n p c)
  in_list : (p : List ℕ) (b : Blocks) (n : ℕ) (c : Braces) → BesideBlocks b c → BesideContext (listed (length p) b) (statement n p c)
  in-pattern : BesideContext pattern-of pattern

pub data Beside : State → Count → Type 0 where
  at-start : Beside start between
  at-between : Beside between-state between
  at_done : Beside done-state done
  at-action : Beside action-state action_next
  at-operand : (m : Mode) (c : Context) (d e : ℕ) (a : Around) → BesideContext c a → Beside (operand-state m c) (operand d e a)
  at-line : (m : Mode) (c : Context) (d e : ℕ) (a : Around) → BesideContext c a → Beside (operand_line m c) (operand d e a)
  at_field : (m : Mode) (c : Context) (d e : ℕ) (a : Around) → BesideContext c a → Beside (operand_field m c) (operand d e a)
  at-ere : (c : Context) (d e : ℕ) (a : Around) → BesideContext c a → Beside (ere_next c) (operand d e a)
  at_after : (m : Mode) (c : Context) (e : ℕ) (a : Around) → BesideContext c a → Beside (after-state m c) (after e a)
  at_open : (l : List Shape) (m : Mode) (c : Context) (d e : ℕ) (a : Around) → BesideContext c a → Beside (Open-next l m c) (calling d e a)
  at-ere-argument : (l : List Shape) (m : Mode) (c : Context) (d e f g : ℕ) (a : Around) → BesideContext c a → Beside (ere_argument l m c) (operand d e (paren f g a))
  at-argument : (x : Shape) (l : List Shape) (m : Mode) (c : Context) (d e f g : ℕ) (a : Around) → BesideContext c a → Beside (argument_line x l m c) (operand d e (paren f g a))
  at-argument-end : (l : List Shape) (m : Mode) (c : Context) (e f g : ℕ) (a : Around) → BesideContext c a → Beside (argument-end l m c) (after e (paren f g a))
  at-condition : (p : List ℕ) (b : Blocks) (n : ℕ) (c : Braces) → BesideBlocks b c → Beside (condition-state (length p) b) (condition_next n p c)
  at_body : (p : List ℕ) (b : Blocks) (n : ℕ) (c : Braces) → BesideBlocks b c → Beside (body-state (length p) b) (body n p c)
  at-print : (p : List ℕ) (b : Blocks) (n : ℕ) (c : Braces) → BesideBlocks b c → Beside (print-state (length p) b) (print_next n p c)
  at-finished : (p : List ℕ) (b : Blocks) (e n : ℕ) (c : Braces) → BesideBlocks b c → Beside (finished (length p) b) (after e (statement n p c))
  at-list : (p : List ℕ) (q : Bool) (b : Blocks) (c : Braces) → BesideBlocks b c → Beside (list-state (length p) q b) (list p q c)

-- a step of the machine, and the move beside it
abbrev pub Kept : Option State → Move → Type 0
Kept none m = Unit
Kept (some y) m = Beside y m.to

to-move : (o : Option State) (m n : Move) → m ≡ n → Kept o n → Kept o m
to-move o m n e h = subst (Kept o) (sym e) h

raised-beside : (n : ℕ) (o : Option State) (m : Move) → Kept o m → Kept o (raise n m)
raised-beside n none m h = h
raised-beside n (some y) m h = h

-- a test that both make
both-test : (b : Bool) (x y : Option State) (m n : Move) → (b ≡ true → Kept x m) → (b ≡ false → Kept y n) → Kept (cond b x y) (cond b m n)
both-test true x y m n f g = f refl
both-test false x y m n f g = g refl

closed-beside : (b : Blocks) (c : Braces) → BesideBlocks b c → Beside (closed-state b) (closed c)
closed-beside b c (in-action i) = at-between
closed-beside b c (in_block p d n x h) = at-list p false d x h

pub tier-plain : (edition : ℕ) (p : Bool) (k : Kind) (n : ℕ) → tier_of edition p k ≡ suc n → tier_of edition false k ≡ suc n
unfolding tier_of
tier-plain edition false k n = λ e. e
tier-plain edition true k n =
    by-test (λ x. x ≡ suc n → tier_of edition false k ≡ suc n) (same k greater) 0 _ (λ q e. absurd (omega (arith, e))) (λ q e. e)

module _ (edition : ℕ) where
  finish-beside : (p : List ℕ) (b : Blocks) (n : ℕ) (c : Braces) (k : Kind) → BesideBlocks b c → Kept (finished_step (length p) b k) (leave (statement n p c) k)
  unfolding finished_step leave among rank
  finish-beside p b n c k h =
      by-test (λ o. Kept o (leave (statement n p c) k)) (among enders k) _ _
      (λ q. to-move (some (list-state (length p) (same k semicolon) b)) (leave (statement n p c) k) (moves 0 (list p (same k semicolon) c))
      (each (λ k. leave (statement n p c) k ≡ moves 0 (list p (same k semicolon) c)) enders (refl, (refl, tt)) k q) (at-list p (same k semicolon) b c h))
      (λ q. by-test (λ o. Kept o (leave (statement n p c) k)) (same k close_brace) _ _
      (λ r. to-move (some (closed-state b)) (leave (statement n p c) k) (moves 0 (closed c)) (ap (leave (statement n p c)) (same-is k close_brace r)) (closed-beside b c h)) (λ r. tt))

  exit-beside : (c : Context) (a : Around) (k : Kind) → BesideContext c a → Kept (exit c k) (leave a k)
  unfolding exit argument_end leave among rank
  exit-beside c a k (in_group m d f g x h) =
      by-test (λ o. Kept o (leave (paren f g x) k)) (same k close_paren) _ _
      (λ q. to-move (some (after-state m d)) (leave (paren f g x) k) (moves 0 (after g x)) (ap (leave (paren f g x)) (same-is k close_paren q)) (at_after m d g x h)) (λ q. tt)
  exit-beside c a k (in-call [] m d f g x h) =
      by-test (λ o. Kept o (leave (paren f g x) k)) (same k close_paren) _ _
      (λ q. to-move (some (after-state m d)) (leave (paren f g x) k) (moves 0 (after g x)) (ap (leave (paren f g x)) (same-is k close_paren q)) (at_after m d g x h)) (λ q. tt)
  exit-beside c a k (in-call (y ∷ l) m d f g x h) =
      by-test (λ o. Kept o (leave (paren f g x) k)) (same k comma) _ _
      (λ q. to-move (some (argument_line y l m d)) (leave (paren f g x) k) (moves 0 (operand f f (paren f g x))) (ap (leave (paren f g x)) (same-is k comma q)) (at-argument y l m d f f f g x h)) (λ q. tt)
  exit-beside c a k (in-condition p b n x h) = by-test (λ o. Kept o (leave (condition n p x) k)) (same k close_paren) _ _ (λ q. at_body p b n x h) (λ q. tt)
  exit-beside c a k (in-value p b n x h) = finish-beside p b n x k h
  exit-beside c a k (in_list p b n x h) =
      by-test (λ o. Kept o (leave (statement n p x) k)) (same k comma) _ _
      (λ q. to-move (some (operand_line fresh (listed (length p) b))) (leave (statement n p x) k) (moves 0 (operand n n (statement n p x))) (ap (leave (statement n p x)) (same-is k comma q))
      (at-line fresh (listed (length p) b) n n (statement n p x) (in_list p b n x h))) (λ q. finish-beside p b n x k h)
  exit-beside c a k in-pattern =
      by-test (λ o. Kept o (leave pattern k)) (same k open_brace) _ _
      (λ q. to-move (some (list-state 0 false (action-blocks true))) (leave pattern k) (moves 1 (list [] false action)) (ap (leave pattern) (same-is k open_brace q)) (at-list [] false (action-blocks true) action (in-action true)))
      (λ q. by-test (λ o. Kept o (leave pattern k)) (among enders k) _ _
      (λ r. to-move (some between-state) (leave pattern k) (moves 0 between) (each (λ k. leave pattern k ≡ moves 0 between) enders (refl, (refl, tt)) k r) at-between)
      (λ r. by-test (λ o. Kept o (leave pattern k)) (same k text_end) _ _
      (λ u. to-move (some done-state) (leave pattern k) (moves 0 done) (ap (leave pattern) (same-is k text_end u)) at_done) (λ u. tt)))

  -- what leaves an expression is no operator
  loud-exit : (c : Context) (k : Kind) → among quiet k ≡ false → exit c k ≡ none
  unfolding exit argument_end finished_step among rank
  loud-exit c k h = by c
    where
      off : (j : Kind) → among quiet j ≡ true → same k j ≡ false
      off j e = apart quiet k j h e

      by : (c : Context) → exit c k ≡ none
      by (group m d) = rw (off close_paren refl)
      by (call [] m d) = rw (off close_paren refl)
      by (call (x ∷ l) m d) = rw (off comma refl)
      by (condition-of n b) = rw (off close_paren refl)
      by (value n b) = rw (off newline refl, off semicolon refl, off close_brace refl)
      by (listed n b) = rw (off comma refl, off newline refl, off semicolon refl, off close_brace refl)
      by pattern-of = rw (off open_brace refl, off newline refl, off semicolon refl, off text_end refl)

  exit-after : (c : Context) (e : ℕ) (a : Around) (k : Kind) → BesideContext c a → Kept (exit c k) (after_move edition e a k)
  exit-after c e a k h = decide (among quiet k) refl
    where
      decide : (b : Bool) → among quiet k ≡ b → Kept (exit c k) (after_move edition e a k)
      decide true q = to-move (exit c k) (after_move edition e a k) (leave a k) (quiet-move edition e a k q) (exit-beside c a k h)
      decide false q = subst (λ (o : Option State). Kept o (after_move edition e a k)) (sym (loud-exit c k q)) tt

  -- ---- operands

  tokens : (k : Kind) → among (NUMBER ∷ STRING ∷ ERE ∷ fixed_variable ∷ []) k ≡ true → among (NUMBER ∷ STRING ∷ ERE ∷ names) k ≡ true
  unfolding among rank
  tokens k q = each (λ k. among (NUMBER ∷ STRING ∷ ERE ∷ names) k ≡ true) (NUMBER ∷ STRING ∷ ERE ∷ fixed_variable ∷ []) (refl, (refl, (refl, (refl, tt)))) k q

  target-tokens : (k : Kind) → among targets k ≡ true → among (NUMBER ∷ STRING ∷ ERE ∷ names) k ≡ true
  unfolding among rank
  target-tokens k q = each (λ k. among (NUMBER ∷ STRING ∷ ERE ∷ names) k ≡ true) targets (refl, (refl, tt)) k q

  field-beside : (named m : Mode) (c : Context) (d e : ℕ) (a : Around) (k : Kind) → BesideContext c a → Kept (field_step edition named m c k) (operand_move edition d e a k)
  unfolding field_step primary_step among rank
  field-beside named m c d e a k h =
      let P : Option State → Type 0 = λ o. Kept o (operand_move edition d e a k) in
      let M : Move = operand_move edition d e a k in
      by-test P (same k dollar) _ _
      (λ q. to-move (some (operand_field named c)) M (moves (suc d) (operand (suc d) e a)) (ap (operand_move edition d e a) (same-is k dollar q) ∙ prefix-move edition d e a dollar refl) (at_field named c (suc d) e a h))
      (λ q. by-test P (among (NUMBER ∷ STRING ∷ ERE ∷ fixed_variable ∷ []) k) _ _
      (λ r. to-move (some (after-state m c)) M (moves 0 (after e a)) (token-move edition d e a k (tokens k r)) (at_after m c e a h))
      (λ r. by-test P (among targets k) _ _
      (λ u. to-move (some (after-state named c)) M (moves 0 (after e a)) (token-move edition d e a k (target-tokens k u)) (at_after named c e a h))
      (λ u. by-test P (same k open_paren) _ _
      (λ v. to-move (some (operand-state fresh (group m c))) M (moves (suc d) (operand (suc d) (suc d) (paren (suc d) e a))) (ap (operand_move edition d e a) (same-is k open_paren v) ∙ paren-move edition d e a)
      (at-operand fresh (group m c) (suc d) (suc d) (paren (suc d) e a) (in_group m c (suc d) e a h)))
      (λ v. called (function_of edition k) refl))))
    where
      called : (o : Option Function) → function_of edition k ≡ o → Kept (call_step edition m c o) (operand_move edition d e a k)
      called none i = tt
      called (some f) i = to-move (some (Open-next f.shapes m c)) (operand_move edition d e a k) (moves 0 (calling d e a)) (function-move edition d e a k f i) (at_open f.shapes m c d e a h)

  operand-beside : (m : Mode) (c : Context) (d e : ℕ) (a : Around) (k : Kind) → BesideContext c a → Kept (operand_step edition m c k) (operand_move edition d e a k)
  unfolding operand_step among rank
  operand-beside m c d e a k h =
      by-test (λ o. Kept o (operand_move edition d e a k)) (among prefixes k) _ _
      (λ q. to-move (some (operand-state (settle m) c)) (operand_move edition d e a k) (moves (suc d) (operand (suc d) e a))
      (prefix-move edition d e a k (each (λ k. among (dollar ∷ prefixes) k ≡ true) prefixes (refl, (refl, (refl, tt))) k q)) (at-operand (settle m) c (suc d) e a h))
      (λ q. field-beside m (settle m) c d e a k h)

  line-move : (d e : ℕ) (a : Around) (k : Kind) → same k newline ≡ true → operand_move edition d e a k ≡ moves 0 (operand d e a)
  unfolding operand_move
  line-move d e a k q = rw q

  -- ---- operators

  other-beside : (m : Mode) (c : Context) (e : ℕ) (a : Around) (k : Kind) → BesideContext c a → Kept (other_step edition m c k) (after_move edition e a k)
  unfolding other_step
  other-beside m c e a k h =
      let M : Move = after_move edition e a k in
      by-test (λ o. Kept o M) (among (tilde ∷ no_match ∷ []) k && not (is_tested m)) _ _
      (λ q. to-move (some (ere_next c)) M (moves 0 (operand e e a)) (match-move edition e a k (and-true (among (tilde ∷ no_match ∷ []) k) (not (is_tested m)) q).0) (at-ere c e e a h))
      (λ q. by-test (λ o. Kept o M) (same k assign && is_fresh m) _ _
      (λ r. to-move (some (operand-state fresh c)) M (moves (suc e) (operand (suc e) (suc e) a)) (ap (after_move edition e a) (same-is k assign (and-true (same k assign) (is_fresh m) r).0) ∙ assign-move edition e a)
      (at-operand fresh c (suc e) (suc e) a h)) (λ r. exit-after c e a k h))

  operator-beside : (m : Mode) (c : Context) (e : ℕ) (a : Around) (k : Kind) (n : ℕ) → BesideContext c a → eqb n 0 ≡ false → tier_of edition false k ≡ n → Kept (operator_step edition m c k n) (after_move edition e a k)
  unfolding operator_step
  operator-beside m c e a k n h z t =
      let M : Move = after_move edition e a k in
      by-test (λ o. Kept o M) (eqb n concatenations) _ _
      (λ q. to-move (operand_step edition (settle m) c k) M (operand_move edition e e a k) (join-move edition e a k (t ∙ eqb-true n 4 q)) (operand-beside (settle m) c e e a k h))
      (λ q.
      let moved : M ≡ moves 0 (operand e e a) = binary-move edition e a k n t q z in
      by-test (λ o. Kept o M) (leb conjunctions n) _ _ (λ r. to-move (some (operand_line plain c)) M (moves 0 (operand e e a)) moved (at-line plain c e e a h))
      (λ r. by-test (λ o. Kept o M) (eqb n compared) _ _
      (λ u. to-move (some (operand-state _ c)) M (moves 0 (operand e e a)) moved (at-operand _ c e e a h))
      (λ u. to-move (some (operand-state (settle m) c)) M (moves 0 (operand e e a)) moved (at-operand (settle m) c e e a h))))

  after-beside : (m : Mode) (c : Context) (e : ℕ) (a : Around) (k : Kind) → BesideContext c a → Kept (after_step edition m c k) (after_move edition e a k)
  unfolding after_step
  after-beside m c e a k h =
      let n : ℕ = tier_after m (tier_of edition (printed c) k) in
      by-test (λ o. Kept o (after_move edition e a k)) (eqb n fields) _ _ (λ q. other-beside m c e a k h)
      (λ q. operator-beside m c e a k n h q (plainly n q (tier-after-is m (tier_of edition (printed c) k))))
    where
      plainly : (n : ℕ) → eqb n 0 ≡ false → (n ≡ 0) ⊎ (n ≡ tier_of edition (printed c) k) → tier_of edition false k ≡ n
      plainly n q (inl z) = absurd (clash (sym (ap (λ (x : ℕ). eqb x 0) z) ∙ q))
      plainly zero q (inr z) = absurd (clash q)
      plainly (suc n) q (inr z) = tier-plain edition (printed c) k n (sym z)

  -- ---- statements

  word_move : ℕ → List ℕ → Braces → Kind → Move
  word_move n p c k = cond (among (NEXT ∷ EXIT ∷ []) k) (moves 0 (after n (statement n p c))) (operand_move edition n n (statement n p c) k)

  -- the last of what begins a statement
  word-move : (n : ℕ) (p : List ℕ) (c : Braces) (k : Kind) → among (NEXT ∷ EXIT ∷ []) k ≡ true → word_move n p c k ≡ moves 0 (after n (statement n p c))
  unfolding word_move
  word-move n p c k q = rw q

  value-beside : (p : List ℕ) (b : Blocks) (n : ℕ) (c : Braces) (k : Kind) → BesideBlocks b c → Kept (operand_step edition fresh (value (length p) b) k) (word_move n p c k)
  unfolding word_move among rank
  value-beside p b n c k h =
      by-test (λ m. Kept (operand_step edition fresh (value (length p) b) k) m) (among (NEXT ∷ EXIT ∷ []) k) _ _
      (λ q. subst (λ (o : Option State). Kept o (moves 0 (after n (statement n p c))))
      (sym (each (λ k. operand_step edition fresh (value (length p) b) k ≡ none) (NEXT ∷ EXIT ∷ []) (idle-operand edition fresh (value (length p) b) NEXT refl, (idle-operand edition fresh (value (length p) b) EXIT refl, tt)) k q)) tt)
      (λ q. operand-beside fresh (value (length p) b) n n (statement n p c) k (in-value p b n c h))

  word-beside : (p : List ℕ) (b : Blocks) (n : ℕ) (c : Braces) (k : Kind) → BesideBlocks b c
      → Kept (cond (same k EXIT) (some (finished (length p) b)) (cond (same k NEXT && main_of b) (some (finished (length p) b)) (operand_step edition fresh (value (length p) b) k))) (word_move n p c k)
  unfolding among rank
  word-beside p b n c k h =
      let M : Move = word_move n p c k in
      by-test (λ o. Kept o M) (same k EXIT) _ _
      (λ q. to-move (some (finished (length p) b)) M (moves 0 (after n (statement n p c))) (word-move n p c k (ap (among (NEXT ∷ EXIT ∷ [])) (same-is k EXIT q))) (at-finished p b n n c h))
      (λ q. by-test (λ o. Kept o M) (same k NEXT && main_of b) _ _
      (λ r. to-move (some (finished (length p) b)) M (moves 0 (after n (statement n p c))) (word-move n p c k (ap (among (NEXT ∷ EXIT ∷ [])) (same-is k NEXT (and-true (same k NEXT) (main_of b) r).0))) (at-finished p b n n c h))
      (λ r. value-beside p b n c k h))

  begin-beside : (p : List ℕ) (b : Blocks) (n : ℕ) (c : Braces) (k : Kind) → BesideBlocks b c → Kept (begin_step edition (length p) b k) (begin_move edition n p c k)
  unfolding begin_step begin_move word_move
  begin-beside p b n c k h =
      both-test (same k semicolon) _ _ _ _ (λ q. at-list p false b c h)
      (λ q1. both-test (same k open_brace) _ _ _ _ (λ q. at-list [] false (nested-blocks (length p) b) (nested n p c) (in_block p b n c h))
      (λ q2. both-test (same k IF) _ _ _ _ (λ q. at-condition (n ∷ p) b n c h)
      (λ q3. both-test (same k WHILE) _ _ _ _ (λ q. at-condition p b n c h)
      (λ q4. both-test (same k PRINT) _ _ _ _ (λ q. at-print p b n c h)
      (λ q5. word-beside p b n c k h)))))

  else-beside : (p : List ℕ) (b : Blocks) (c : Braces) → BesideBlocks b c → Kept (else_step (length p) b) (else_move p c)
  else-beside [] b c h = tt
  else-beside (n ∷ p) b c h = at_body p b n c h

  list-beside : (p : List ℕ) (q : Bool) (b : Blocks) (c : Braces) (k : Kind) → BesideBlocks b c → Kept (list_step edition (length p) q b k) (list_move edition p q c k)
  unfolding list_step list_move
  list-beside p q b c k h =
      both-test (same k newline) _ _ _ _ (λ r. at-list p q b c h)
      (λ r1. both-test (same k close_brace) _ _ _ _ (λ r. closed-beside b c h)
      (λ r2. both-test (same k ELSE) _ _ _ _ (λ r. else-beside p b c h)
      (λ r3. both-test (same k semicolon && not q) _ _ _ _ (λ r. at-list p true b c h) (λ r. begin-beside [] b (level_of c) c k h))))

  item-beside : (k : Kind) → Kept (item_step edition k) (item_move edition k)
  unfolding item_step item_move
  item-beside k =
      both-test (same k text_end) _ _ _ _ (λ q. at_done)
      (λ q1. both-test (among (BEGIN ∷ END ∷ []) k) _ _ _ _ (λ q. at-action)
      (λ q2. both-test (same k open_brace) _ _ _ _ (λ q. at-list [] false (action-blocks true) action (in-action true))
      (λ q3. operand-beside fresh pattern-of 0 0 pattern k in-pattern)))

  opened-beside : (l : List Shape) (m : Mode) (c : Context) (d e : ℕ) (a : Around) → BesideContext c a → Kept (opened l m c) (moves (suc d) (operand (suc d) (suc d) (paren (suc d) e a)))
  opened-beside [] m c d e a h = tt
  opened-beside (an_expression ∷ l) m c d e a h = at-operand fresh (call l m c) (suc d) (suc d) (paren (suc d) e a) (in-call l m c (suc d) e a h)
  opened-beside (an_ere ∷ l) m c d e a h = at-ere-argument l m c (suc d) (suc d) (suc d) e a h

  argument-beside : (x : Shape) (l : List Shape) (m : Mode) (c : Context) (d e f g : ℕ) (a : Around) (k : Kind) → BesideContext c a → Kept (argument_step edition x l m c k) (operand_move edition d e (paren f g a) k)
  unfolding argument_step among rank
  argument-beside an_expression l m c d e f g a k h = operand-beside fresh (call l m c) d e (paren f g a) k (in-call l m c f g a h)
  argument-beside an_ere l m c d e f g a k h =
      by-test (λ o. Kept o (operand_move edition d e (paren f g a) k)) (same k ERE) _ _
      (λ q. to-move (some (argument-end l m c)) (operand_move edition d e (paren f g a) k) (moves 0 (after e (paren f g a))) (ap (operand_move edition d e (paren f g a)) (same-is k ERE q) ∙ token-move edition d e (paren f g a) ERE refl)
      (at-argument-end l m c e f g a h)) (λ q. tt)

  -- what goes beside the machine goes on beside it
  pub beside : (x : State) (n : Count) (k : Kind) → Beside x n → Kept (step edition x k) (move edition n k)
  unfolding step move exit among rank
  beside x n k at-start =
      by-test (λ o. Kept o (move edition between k)) (same k newline) _ _
      (λ q. to-move (some start) (move edition between k) (moves 0 between) (ap (move edition between) (same-is k newline q)) at-start)
      (λ q. by-test (λ m. Kept (item_step edition k) m) (among enders k) _ _ (λ r. subst (λ (o : Option State). Kept o (moves 0 between)) (sym (idle-item edition k r)) tt) (λ r. item-beside k))
  beside x n k at-between = both-test (among enders k) _ _ _ _ (λ q. at-between) (λ q. item-beside k)
  beside x n k at_done = tt
  beside x n k at-action = by-test (λ o. Kept o (moves 1 (list [] false action))) (same k open_brace) _ _ (λ q. at-list [] false (action-blocks false) action (in-action false)) (λ q. tt)
  beside x n k (at-operand m c d e a h) = operand-beside m c d e a k h
  beside x n k (at-line m c d e a h) =
      by-test (λ o. Kept o (operand_move edition d e a k)) (same k newline) _ _
      (λ q. to-move (some (operand_line m c)) (operand_move edition d e a k) (moves 0 (operand d e a)) (line-move d e a k q) (at-line m c d e a h)) (λ q. operand-beside m c d e a k h)
  beside x n k (at_field m c d e a h) = field-beside m m c d e a k h
  beside x n k (at-ere c d e a h) =
      by-test (λ o. Kept o (operand_move edition d e a k)) (same k ERE) _ _
      (λ q. to-move (some (after-state _ c)) (operand_move edition d e a k) (moves 0 (after e a)) (ap (operand_move edition d e a) (same-is k ERE q) ∙ token-move edition d e a ERE refl) (at_after _ c e a h)) (λ q. tt)
  beside x n k (at_after m c e a h) = after-beside m c e a k h
  beside x n k (at_open l m c d e a h) = by-test (λ o. Kept o (moves (suc d) (operand (suc d) (suc d) (paren (suc d) e a)))) (same k open_paren) _ _ (λ q. opened-beside l m c d e a h) (λ q. tt)
  beside x n k (at-ere-argument l m c d e f g a h) = argument-beside an_ere l m c d e f g a k h
  beside x n k (at-argument y l m c d e f g a h) =
      by-test (λ o. Kept o (operand_move edition d e (paren f g a) k)) (same k newline) _ _
      (λ q. to-move (some (argument_line y l m c)) (operand_move edition d e (paren f g a) k) (moves 0 (operand d e (paren f g a))) (line-move d e (paren f g a) k q) (at-argument y l m c d e f g a h)) (λ q. argument-beside y l m c d e f g a k h)
  beside x n k (at-argument-end l m c e f g a h) = exit-after (call l m c) e (paren f g a) k (in-call l m c f g a h)
  beside x n k (at-condition p b t c h) =
      by-test (λ o. Kept o (moves (suc t) (operand (suc t) (suc t) (condition t p c)))) (same k open_paren) _ _ (λ q. at-operand fresh (condition-of (length p) b) (suc t) (suc t) (condition t p c) (in-condition p b t c h)) (λ q. tt)
  beside x n k (at_body p b t c h) = both-test (same k newline) _ _ _ _ (λ q. at_body p b t c h)
      (λ q. raised-beside (suc t) (begin_step edition (length p) b k) (begin_move edition (suc t) p c k) (begin-beside p b (suc t) c k h))
  beside x n k (at-print p b t c h) =
      both-test (starts_expression edition k) _ _ _ _ (λ q. operand-beside fresh (listed (length p) b) t t (statement t p c) k (in_list p b t c h)) (λ q. finish-beside p b t c k h)
  beside x n k (at-finished p b e t c h) = exit-after (value (length p) b) e (statement t p c) k (in-value p b t c h)
  beside x n k (at-list p q b c h) = list-beside p q b c k h

  -- ---- where an operand may be

  pub expected : (x : State) (n : Count) (y : State) → Beside x n → step edition x ERE ≡ some y → expects n ≡ true
  unfolding step rank
  expected x n y at-start e = refl
  expected x n y at-between e = refl
  expected x n y at_done e = absurd (none-some e)
  expected x n y at-action e = absurd (none-some e)
  expected x n y (at-operand m c d f a h) e = refl
  expected x n y (at-line m c d f a h) e = refl
  expected x n y (at_field m c d f a h) e = refl
  expected x n y (at-ere c d f a h) e = refl
  expected x n y (at_after m c f a h) e = absurd (none-some (sym (after-ere edition m c) ∙ e))
  expected x n y (at_open l m c d f a h) e = absurd (none-some (sym (open-ere edition l m c) ∙ e))
  expected x n y (at-ere-argument l m c d f g i a h) e = refl
  expected x n y (at-argument z l m c d f g i a h) e = refl
  expected x n y (at-argument-end l m c f g i a h) e = absurd (none-some (sym (argument-end-ere edition l m c) ∙ e))
  expected x n y (at-condition p b t c h) e = absurd (none-some (sym (condition-ere edition (length p) b) ∙ e))
  expected x n y (at_body p b t c h) e = refl
  expected x n y (at-print p b t c h) e = refl
  expected x n y (at-finished p b f t c h) e = absurd (none-some (sym (finished-ere edition (length p) b) ∙ e))
  expected x n y (at-list p q b c h) e = refl

  pub unexpected : (x : State) (n : Count) → Beside x n → step edition x ERE ≡ none → expects n ≡ false
  unfolding step
  unexpected x n at-start e = absurd (none-some (sym e ∙ ere-start edition))
  unexpected x n at-between e = absurd (none-some (sym e ∙ ere-between edition))
  unexpected x n at_done e = refl
  unexpected x n at-action e = refl
  unexpected x n (at-operand m c d f a h) e = absurd (none-some (sym e ∙ ere-operand edition m c))
  unexpected x n (at-line m c d f a h) e = absurd (none-some (sym e ∙ ere-line edition m c))
  unexpected x n (at_field m c d f a h) e = absurd (none-some (sym e ∙ ere-field edition m c))
  unexpected x n (at-ere c d f a h) e = absurd (none-some (sym e ∙ ere-next-takes edition c))
  unexpected x n (at_after m c f a h) e = refl
  unexpected x n (at_open l m c d f a h) e = refl
  unexpected x n (at-ere-argument l m c d f g i a h) e = absurd (none-some (sym e ∙ ere-argument-takes edition l m c))
  unexpected x n (at-argument z l m c d f g i a h) e = absurd (none-some (sym e ∙ (ere-argument-line edition z l m c).1))
  unexpected x n (at-argument-end l m c f g i a h) e = refl
  unexpected x n (at-condition p b t c h) e = refl
  unexpected x n (at_body p b t c h) e = absurd (none-some (sym e ∙ ere-body edition (length p) b))
  unexpected x n (at-print p b t c h) e = absurd (none-some (sym e ∙ ere-print edition (length p) b))
  unexpected x n (at-finished p b f t c h) e = refl
  unexpected x n (at-list p q b c h) e = absurd (none-some (sym e ∙ ere-list edition (length p) q b))

  -- ---- the text's end opens no level

  leave-end : (a : Around) → (leave a text_end).level ≡ 0
  unfolding leave among rank
  leave-end (paren f g a) = refl
  leave-end (condition n p b) = refl
  leave-end (statement n p b) = refl
  leave-end pattern = refl

  operand-end : (d e : ℕ) (a : Around) → (operand_move edition d e a text_end).level ≡ 0
  unfolding operand_move among rank
  operand-end d e a = rw (no-function edition text_end refl)

  after_end : (e : ℕ) (a : Around) → (after_move edition e a text_end).level ≡ 0
  unfolding among rank
  after_end e a = ap (λ (m : Move). m.level) (quiet-move edition e a text_end refl) ∙ leave-end a

  body_end : (n : ℕ) (b : Blocks) → step edition (body-state n b) text_end ≡ none
  unfolding step begin_step among rank
  body_end n b = idle-operand edition fresh (value n b) text_end refl

  print-end : (n : ℕ) (p : List ℕ) (b : Braces) → (move edition (print_next n p b) text_end).level ≡ 0
  unfolding move among rank
  print-end n p b = rw (quiet-starts edition text_end refl) (leave-end (statement n p b))

  list-end : (p : List ℕ) (q : Bool) (b : Braces) → (move edition (list p q b) text_end).level ≡ 0
  unfolding move list_move begin_move among rank
  list-end p q b = operand-end (level_of b) (level_of b) (statement (level_of b) [] b)

  pub end-level : (x : State) (n : Count) (y : State) → Beside x n → step edition x text_end ≡ some y → (move edition n text_end).level ≡ 0
  unfolding step move item_move among rank
  end-level x n y at-start e = refl
  end-level x n y at-between e = refl
  end-level x n y at_done e = refl
  end-level x n y at-action e = absurd (none-some e)
  end-level x n y (at-operand m c d f a h) e = operand-end d f a
  end-level x n y (at-line m c d f a h) e = operand-end d f a
  end-level x n y (at_field m c d f a h) e = operand-end d f a
  end-level x n y (at-ere c d f a h) e = operand-end d f a
  end-level x n y (at_after m c f a h) e = after_end f a
  end-level x n y (at_open l m c d f a h) e = absurd (none-some e)
  end-level x n y (at-ere-argument l m c d f g i a h) e = operand-end d f (paren g i a)
  end-level x n y (at-argument z l m c d f g i a h) e = operand-end d f (paren g i a)
  end-level x n y (at-argument-end l m c f g i a h) e = after_end f (paren g i a)
  end-level x n y (at-condition p b t c h) e = absurd (none-some e)
  end-level x n y (at_body p b t c h) e = absurd (none-some (sym (body_end (length p) b) ∙ e))
  end-level x n y (at-print p b t c h) e = print-end t p c
  end-level x n y (at-finished p b f t c h) e = after_end f (statement t p c)
  end-level x n y (at-list p q b c h) e = list-end p q c
