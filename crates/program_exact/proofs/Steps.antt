-- What the states say is kept by each step of the machine; so what it takes can be completed, and what it takes to the
-- end is a sentence.
use mathlib.Core.Path.{◌≡◌, refl, sym, subst}
use mathlib.Core.Bool.{Bool, true, false, not, ◌&&◌}
use mathlib.Core.List.{List, [], ◌∷◌, ◌++◌, append_assoc, append-nil}
use mathlib.Core.Option.{Option}
use Prim.Native.Nat.{ℕ, zero, suc}
use Rattle.lists.proofs.Tests.{clash, and-true}
use Rattle.program_tokens.specs.Kinds.{Kind, text_end, newline, ERE, BEGIN, END, IF, ELSE, WHILE, PRINT, NEXT, EXIT, open_brace, close_brace, open_paren, close_paren, comma, semicolon, same, among, rank}
use Rattle.program_tokens.proofs.Ranks.{same-is}
use Rattle.program_tree.specs.Functions.{Shape, an_expression, an_ere}
use Rattle.program_grammar.specs.Sets.{enders, starts_expression}
use Rattle.program_grammar.specs.Grammar.{one, Newlines, none as no-newline, more as newline-more, none as no-separator, more as separator-more, elsewhere, expression, argument, Form, last_argument, next_argument, expression_argument, ere_argument as ere-form, last as last-element, next as next-element, End, needs_end, ended, Else, takes_else, whole, BeforeElse, newlines, ending_newline, one_semicolon, Statement, value as value-statement, print, print-list, if, if-else, while, block, next, exit as exit-statement, empty, braces, none as no-statement, blank_line, after_ended, after_end, last, Item, begin, end, pattern as pattern-block, always, none as no_item, item, pattern as pattern-item, last_pattern, Sentence, program}
use Rattle.program_exact.specs.Machine.{Mode, fresh, tested, Blocks, action, nested, Context, group, call, condition, value, listed, pattern, State, start, between, done, action_next, operand, operand_line, operand_field, ere_next, after, Open-next, ere_argument, argument_line, argument-end, condition_next, body, print_next, finished, list, main_of, printed, closed, else_step, opened, argument_end, finished_step, exit, argument_step, begin_step, list_step, item_step, step}
use Rattle.program_exact.proofs.Facts.{each, by-test}
use Rattle.program_exact.proofs.Meaning.{place_of, Plain, OnlyIf, ElsePart, Standing, Begun, Body, Finished, ElseMarked, Listed, Between, ItemHole, Closes, Leaves, AfterIn, OperandIn, Argument, Means, Kept}
use Rattle.program_exact.proofs.Kept.{shift, leave, operand-field-kept, operand-kept, after_kept}

-- a kind that is known
given : (k j : Kind) (P : Kind → Type 0) → same k j ≡ true → P j → P k
given k j P e h = subst P (sym (same-is k j e)) h

wrapped : (l x : List Kind) (j i : Kind) → l ++ (j ∷ (x ++ (i ∷ []))) ≡ ((l ++ (j ∷ [])) ++ x) ++ (i ∷ [])
wrapped l x j i = simp append_assoc

no_more : (o : Else) → OnlyIf o Unit
no_more takes_else = tt
no_more whole = tt

module _ (edition : ℕ) where
  -- ---- statements

  module _ (in_main : Bool) (C : List Kind → Type 0) where
    plain_of : (l : List Kind) → Plain edition in_main C ended l → (e : End) (o : Else) (a : List Kind) → Statement edition in_main e o a → Plain edition in_main C e (l ++ a)
    plain_of l h ended o a d = λ r t. subst (λ (x : List Kind). C (x ++ (close_brace ∷ []))) (sym (append_assoc l a r)) (h (a ++ r) (after_ended d t))
    plain_of l h needs_end o a d =
        ((λ k r t u. subst (λ (x : List Kind). C (x ++ (close_brace ∷ []))) (sym (append_assoc l a (k ∷ r))) (h (a ++ (k ∷ r)) (after_end d (one t) u))), h a (last d))

    begun-of : (l : List Kind) → Plain edition in_main C ended l → Begun edition in_main C 0 l
    begun-of l h = λ e o a d. (plain_of l h e o a d, no_more o)

    blank : (l : List Kind) → Plain edition in_main C ended l → Plain edition in_main C ended (l ++ (newline ∷ []))
    blank l h = λ r t. subst (λ (x : List Kind). C (x ++ (close_brace ∷ []))) (sym (shift l newline r)) (h (newline ∷ r) (blank_line t))

    -- what comes before an `else`, one kind more
    moved-else : (n : ℕ) (l b m : List Kind) (k : Kind) → Begun edition in_main C n (l ++ ((k ∷ b) ++ (ELSE ∷ m))) → Begun edition in_main C n ((l ++ (k ∷ [])) ++ (b ++ (ELSE ∷ m)))
    moved-else n l b m k h = subst (Begun edition in_main C n) (sym (shift l k (b ++ (ELSE ∷ m)))) h

    line_before : (b : List Kind) → BeforeElse ended b → BeforeElse ended (newline ∷ b)
    line_before b (newlines h) = newlines (newline-more h)
    line_before b (one_semicolon h k) = one_semicolon (newline-more h) k

    end_before : (b : List Kind) → BeforeElse ended b → BeforeElse needs_end (newline ∷ b)
    end_before b (newlines h) = ending_newline h
    end_before b (one_semicolon h k) = one_semicolon (newline-more h) k

    line-else : (n : ℕ) (l : List Kind) → ElsePart edition in_main C n ended l → ElsePart edition in_main C n ended (l ++ (newline ∷ []))
    line-else zero l h = tt
    line-else (suc n) l h = λ b m t s. moved-else n l b m newline (h (newline ∷ b) m (line_before b t) s)

    end-else : (n : ℕ) (l : List Kind) → ElsePart edition in_main C n needs_end l → ElsePart edition in_main C n ended (l ++ (newline ∷ []))
    end-else zero l h = tt
    end-else (suc n) l h = λ b m t s. moved-else n l b m newline (h (newline ∷ b) m (end_before b t) s)

    mark-else : (n : ℕ) (e : End) (l : List Kind) → ElsePart edition in_main C n e l → ElseMarked edition in_main C n (l ++ (semicolon ∷ []))
    mark-else zero e l h = tt
    mark-else (suc n) e l h = λ b m t s. moved-else n l b m semicolon (h (semicolon ∷ b) m (one_semicolon no-newline t) s)

    line_marked : (n : ℕ) (l : List Kind) → ElseMarked edition in_main C n l → ElseMarked edition in_main C n (l ++ (newline ∷ []))
    line_marked zero l h = tt
    line_marked (suc n) l h = λ b m t s. moved-else n l b m newline (h (newline ∷ b) m (newline-more t) s)

    line-listed : (n : ℕ) (p : Bool) (l : List Kind) → Listed edition in_main C n p l → Listed edition in_main C n p (l ++ (newline ∷ []))
    line-listed n false l h = (blank l h.0, line-else n l h.1)
    line-listed n true l h = (blank l h.0, line_marked n l h.1)

    pub plain-listed : (n : ℕ) (p : Bool) (l : List Kind) → Listed edition in_main C n p l → Plain edition in_main C ended l
    plain-listed n false l h = h.0
    plain-listed n true l h = h.0

    mark-listed : (n : ℕ) (l : List Kind) → Listed edition in_main C n false l → Listed edition in_main C n true (l ++ (semicolon ∷ []))
    mark-listed n l h =
        ((λ r t. subst (λ (x : List Kind). C (x ++ (close_brace ∷ []))) (sym (shift l semicolon r)) (h.0 (semicolon ∷ r) (after_ended empty t))), mark-else n ended l h.1)

    else-listed : (n : ℕ) (p : Bool) (l : List Kind) → Listed edition in_main C (suc n) p l → Body edition in_main C n (l ++ (ELSE ∷ []))
    else-listed n false l h = λ s t. subst (Begun edition in_main C n) (sym (shift l ELSE s)) (h.1 [] s (newlines no-newline) t)
    else-listed n true l h = λ s t. subst (Begun edition in_main C n) (sym (shift l ELSE s)) (h.1 [] s no-newline t)

    ends-finished : (n : ℕ) (k : Kind) (l : List Kind) → among enders k ≡ true → Finished edition in_main C n l → Listed edition in_main C n (same k semicolon) (l ++ (k ∷ []))
    unfolding among rank
    ends-finished n k l e h =
        let ends : (k : Kind) → among enders k ≡ true → Plain edition in_main C ended (l ++ (k ∷ [])) =
        λ k e r t. subst (λ (x : List Kind). C (x ++ (close_brace ∷ []))) (sym (shift l k r)) (h.0.0 k r e t) in
        each (λ k. Listed edition in_main C n (same k semicolon) (l ++ (k ∷ []))) enders
        ((ends newline refl, end-else n l h.1), ((ends semicolon refl, mark-else n needs_end l h.1), tt)) k e

  close-means : (b : Blocks) (l : List Kind) → Closes edition b l → Means edition (closed b) l
  close-means (action x) l h = h
  close-means (nested n b) l h = h

  finished-kept : (n : ℕ) (b : Blocks) (k : Kind) (l : List Kind) → Means edition (finished n b) l → Kept edition l k (finished_step n b k)
  unfolding finished_step
  finished-kept n b k l h =
      by-test (Kept edition l k) (among enders k) _ _ (λ e. ends-finished (main_of b) (Closes edition b) n k l e h)
      (λ e. by-test (Kept edition l k) (same k close_brace) _ _
      (λ e. given k close_brace (λ j. Means edition (closed b) (l ++ (j ∷ []))) e (close-means b (l ++ (close_brace ∷ [])) h.0.1)) (λ e. tt))

  -- ---- conditions

  if-list : (l x s a : List Kind) → l ++ (IF ∷ open_paren ∷ (x ++ (close_paren ∷ (s ++ a)))) ≡ (((l ++ (IF ∷ [])) ++ (open_paren ∷ (x ++ (close_paren ∷ [])))) ++ s) ++ a
  if-list l x s a = simp append_assoc

  while-list : (l x s a : List Kind) → l ++ (WHILE ∷ open_paren ∷ (x ++ (close_paren ∷ (s ++ a)))) ≡ (((l ++ (WHILE ∷ [])) ++ (open_paren ∷ (x ++ (close_paren ∷ [])))) ++ s) ++ a
  while-list l x s a = simp append_assoc

  else-list : (l x s a b m d : List Kind)
      → l ++ (IF ∷ open_paren ∷ (x ++ (close_paren ∷ (s ++ (a ++ (b ++ (ELSE ∷ (m ++ d))))))))
      ≡ (((((l ++ (IF ∷ [])) ++ (open_paren ∷ (x ++ (close_paren ∷ [])))) ++ s) ++ a) ++ (b ++ (ELSE ∷ m))) ++ d
  else-list l x s a b m d = simp append_assoc

  module _ (n : ℕ) (b : Blocks) (l : List Kind) (h : Begun edition (main_of b) (Closes edition b) n l) where
    if-means : Means edition (condition_next (suc n) b) (l ++ (IF ∷ []))
    if-means x dx s ns e o a d = (
      subst (Plain edition (main_of b) (Closes edition b) e) (if-list l x s a) (h e takes_else (IF ∷ open_paren ∷ (x ++ (close_paren ∷ (s ++ a)))) (if dx ns d)).0,
      only o d,
    )
      where
        only : (o : Else) → Statement edition (main_of b) e o a → OnlyIf o (ElsePart edition (main_of b) (Closes edition b) (suc n) e ((((l ++ (IF ∷ [])) ++ (open_paren ∷ (x ++ (close_paren ∷ [])))) ++ s) ++ a))
        only takes_else d = tt
        only whole d = λ t m w q f o z u. subst (Standing edition (main_of b) (Closes edition b) f o n) (else-list l x s a t m z)
            (h f o (IF ∷ open_paren ∷ (x ++ (close_paren ∷ (s ++ (a ++ (t ++ (ELSE ∷ (m ++ z)))))))) (if-else dx ns d w q u))

    while-means : Means edition (condition_next n b) (l ++ (WHILE ∷ []))
    while-means x dx s ns e o a d =
        subst (Standing edition (main_of b) (Closes edition b) e o n) (while-list l x s a) (h e o (WHILE ∷ open_paren ∷ (x ++ (close_paren ∷ (s ++ a)))) (while dx ns d))

    block-means : Means edition (list 0 false (nested n b)) (l ++ (open_brace ∷ []))
    block-means =
        ((λ r t. subst (Listed edition (main_of b) (Closes edition b) n false) (wrapped l r open_brace close_brace) (h ended whole (open_brace ∷ (r ++ (close_brace ∷ []))) (block (braces t)))), tt)

    print-means : Means edition (print_next n b) (l ++ (PRINT ∷ []))
    print-means =
        (h needs_end whole (PRINT ∷ []) print, λ r d. subst (Finished edition (main_of b) (Closes edition b) n) (sym (shift l PRINT r)) (h needs_end whole (PRINT ∷ r) (print-list d)))

    begin-kept : (k : Kind) → Kept edition l k (begin_step edition n b k)
    unfolding begin_step
    begin-kept k =
        let K : Option State → Type 0 = Kept edition l k in
        by-test K (same k semicolon) _ _ (λ e. given k semicolon (λ j. Means edition (list n false b) (l ++ (j ∷ []))) e (h ended whole (semicolon ∷ []) empty))
        (λ e. by-test K (same k open_brace) _ _ (λ e. given k open_brace (λ j. Means edition (list 0 false (nested n b)) (l ++ (j ∷ []))) e block-means)
        (λ e. by-test K (same k IF) _ _ (λ e. given k IF (λ j. Means edition (condition_next (suc n) b) (l ++ (j ∷ []))) e if-means)
        (λ e. by-test K (same k WHILE) _ _ (λ e. given k WHILE (λ j. Means edition (condition_next n b) (l ++ (j ∷ []))) e while-means)
        (λ e. by-test K (same k PRINT) _ _ (λ e. given k PRINT (λ j. Means edition (print_next n b) (l ++ (j ∷ []))) e print-means)
        (λ e. by-test K (same k EXIT) _ _ (λ e. given k EXIT (λ j. Means edition (finished n b) (l ++ (j ∷ []))) e (h needs_end whole (EXIT ∷ []) exit-statement))
        (λ e. by-test K (same k NEXT && main_of b) _ _
        (λ e. let both = and-true (same k NEXT) (main_of b) e in
        given k NEXT (λ j. Means edition (finished n b) (l ++ (j ∷ []))) both.0 (h needs_end whole (NEXT ∷ []) (next both.1)))
        (λ e. operand-kept edition fresh (value n b) k l (λ x f. h needs_end whole x (value-statement f)))))))))

  list-kept : (n : ℕ) (p : Bool) (b : Blocks) (k : Kind) (l : List Kind) → Means edition (list n p b) l → Kept edition l k (list_step edition n p b k)
  unfolding list_step
  list-kept n p b k l h =
      let K : Option State → Type 0 = Kept edition l k in
      let ends : Plain edition (main_of b) (Closes edition b) ended l = plain-listed (main_of b) (Closes edition b) n p l h in
      by-test K (same k newline) _ _ (λ e. given k newline (λ j. Means edition (list n p b) (l ++ (j ∷ []))) e (line-listed (main_of b) (Closes edition b) n p l h))
      (λ e. by-test K (same k close_brace) _ _
      (λ e. given k close_brace (λ j. Means edition (closed b) (l ++ (j ∷ []))) e
      (close-means b (l ++ (close_brace ∷ [])) (subst (λ (x : List Kind). Closes edition b (x ++ (close_brace ∷ []))) (append-nil l) (ends [] no-statement))))
      (λ e. by-test K (same k ELSE) _ _ (λ e. elses n h e)
      (λ e. by-test K (same k semicolon && not p) _ _ (λ e. marks p h (and-true (same k semicolon) (not p) e).0 (and-true (same k semicolon) (not p) e).1)
      (λ e. begin-kept 0 b l (begun-of (main_of b) (Closes edition b) l ends) k))))
    where
      elses : (n : ℕ) → Means edition (list n p b) l → same k ELSE ≡ true → Kept edition l k (else_step n b)
      elses zero h e = tt
      elses (suc n) h e = given k ELSE (λ j. Means edition (body n b) (l ++ (j ∷ []))) e (else-listed (main_of b) (Closes edition b) n p l h)

      marks : (p : Bool) → Means edition (list n p b) l → same k semicolon ≡ true → not p ≡ true → Means edition (list n true b) (l ++ (k ∷ []))
      marks false h e f = given k semicolon (λ j. Means edition (list n true b) (l ++ (j ∷ []))) e (mark-listed (main_of b) (Closes edition b) n l h)
      marks true h e f = absurd (clash (sym f))

  -- ---- expressions in their contexts

  next-list : (l s a : List Kind) → (l ++ (comma ∷ (s ++ a))) ++ (close_paren ∷ []) ≡ (((l ++ (comma ∷ [])) ++ s) ++ a) ++ (close_paren ∷ [])
  next-list l s a = simp append_assoc

  argument-end-kept : (xs : List Shape) (m : Mode) (c : Context) (k : Kind) (l : List Kind) → Leaves edition (call xs m c) l → Kept edition l k (argument_end xs m c k)
  unfolding argument_end
  argument-end-kept [] m c k l h =
      by-test (Kept edition l k) (same k close_paren) _ _ (λ e. given k close_paren (λ j. AfterIn edition m c (l ++ (j ∷ []))) e h) (λ e. tt)
  argument-end-kept (x ∷ xs) m c k l h =
      by-test (Kept edition l k) (same k comma) _ _
      (λ e. given k comma (λ j. Means edition (argument_line x xs m c) (l ++ (j ∷ []))) e (λ s n a f. subst (AfterIn edition m c) (next-list l s a) (h s a n f))) (λ e. tt)

  exit-kept : (c : Context) (k : Kind) (l : List Kind) → Leaves edition c l → Kept edition l k (exit c k)
  unfolding exit
  exit-kept (group m c) k l h =
      by-test (Kept edition l k) (same k close_paren) _ _ (λ e. given k close_paren (λ j. AfterIn edition m c (l ++ (j ∷ []))) e h) (λ e. tt)
  exit-kept (call xs m c) k l h = argument-end-kept xs m c k l h
  exit-kept (condition n b) k l h =
      by-test (Kept edition l k) (same k close_paren) _ _ (λ e. given k close_paren (λ j. Means edition (body n b) (l ++ (j ∷ []))) e h) (λ e. tt)
  exit-kept (value n b) k l h = finished-kept n b k l h
  exit-kept (listed n b) k l h =
      by-test (Kept edition l k) (same k comma) _ _
      (λ e. given k comma (λ j. Means edition (operand_line fresh (listed n b)) (l ++ (j ∷ []))) e more) (λ e. finished-kept n b k l h.0)
    where
      once : (l s x : List Kind) → l ++ (comma ∷ (s ++ x)) ≡ ((l ++ (comma ∷ [])) ++ s) ++ x
      once l s x = simp append_assoc

      twice : (l s x t r : List Kind) → l ++ (comma ∷ (s ++ (x ++ (comma ∷ (t ++ r))))) ≡ (((l ++ (comma ∷ [])) ++ s) ++ x) ++ (comma ∷ (t ++ r))
      twice l s x t r = simp append_assoc

      more : Means edition (operand_line fresh (listed n b)) (l ++ (comma ∷ []))
      more s ns x f = (
        subst (Finished edition (main_of b) (Closes edition b) n) (once l s x) (h.1 s x ns (last-element f)),
        λ t r nt d. subst (Finished edition (main_of b) (Closes edition b) n) (twice l s x t r) (h.1 s (x ++ (comma ∷ (t ++ r))) ns (next-element f nt d)),
      )
  exit-kept pattern k l h =
      by-test (Kept edition l k) (same k open_brace) _ _
      (λ e. given k open_brace (λ j. Means edition (list 0 false (action true)) (l ++ (j ∷ []))) e
      ((λ r t. subst (Between edition) (wrapped l r open_brace close_brace) (h.0 (open_brace ∷ (r ++ (close_brace ∷ []))) (braces t))), tt))
      (λ e. by-test (Kept edition l k) (among enders k) _ _ (λ e. h.1 k e)
      (λ e. by-test (Kept edition l k) (same k text_end) _ _ (λ e. given k text_end (λ j. Sentence edition (l ++ (j ∷ []))) e h.2) (λ e. tt)))

  -- ---- arguments

  argument-leaves : (x : Shape) (xs : List Shape) (m : Mode) (c : Context) (l y : List Kind) → Argument edition x xs m c l → Form edition (argument x) y
      → Leaves edition (call xs m c) (l ++ y)
  argument-leaves x [] m c l y h f = h y (last_argument f)
  argument-leaves x (z ∷ zs) m c l y h f =
      λ s a n g. subst (AfterIn edition m c) (listing l y s a) (h (y ++ (comma ∷ (s ++ a))) (next_argument f n g))
    where
      listing : (l y s a : List Kind) → (l ++ (y ++ (comma ∷ (s ++ a)))) ++ (close_paren ∷ []) ≡ ((l ++ y) ++ (comma ∷ (s ++ a))) ++ (close_paren ∷ [])
      listing l y s a = simp append_assoc

  argument-kept : (x : Shape) (xs : List Shape) (m : Mode) (c : Context) (k : Kind) (l : List Kind) → Argument edition x xs m c l
      → Kept edition l k (argument_step edition x xs m c k)
  unfolding argument_step
  argument-kept an_expression xs m c k l h = operand-kept edition fresh (call xs m c) k l (λ y f. argument-leaves an_expression xs m c l y h (expression_argument f))
  argument-kept an_ere xs m c k l h =
      by-test (Kept edition l k) (same k ERE) _ _
      (λ e. given k ERE (λ j. Leaves edition (call xs m c) (l ++ (j ∷ []))) e (argument-leaves an_ere xs m c l (ERE ∷ []) h ere-form)) (λ e. tt)

  opening : (l a : List Kind) → l ++ (open_paren ∷ (a ++ (close_paren ∷ []))) ≡ ((l ++ (open_paren ∷ [])) ++ a) ++ (close_paren ∷ [])
  opening l a = wrapped l a open_paren close_paren

  opened-kept : (xs : List Shape) (m : Mode) (c : Context) (k : Kind) (l : List Kind) → Means edition (Open-next xs m c) l → same k open_paren ≡ true
      → Kept edition l k (opened xs m c)
  opened-kept [] m c k l h e = tt
  opened-kept (an_expression ∷ xs) m c k l h e =
      given k open_paren (λ j. Means edition (operand fresh (call xs m c)) (l ++ (j ∷ []))) e
      (λ y f. argument-leaves an_expression xs m c (l ++ (open_paren ∷ [])) y (λ a g. subst (AfterIn edition m c) (opening l a) (h.1 a g)) (expression_argument f))
  opened-kept (an_ere ∷ xs) m c k l h e =
      given k open_paren (λ j. Means edition (ere_argument xs m c) (l ++ (j ∷ []))) e (λ a g. subst (AfterIn edition m c) (opening l a) (h.1 a g))

  -- ---- items

  module _ (l : List Kind) (h : ItemHole edition l) where
    item-between : (i : List Kind) → Item edition i → Between edition (l ++ i)
    item-between i d s r u v = subst (λ (x : List Kind). Sentence edition (x ++ (text_end ∷ []))) (sym (append_assoc l i (s ++ r))) (h (i ++ (s ++ r)) (item d u v))

    pattern-leaves : (x : List Kind) → Form edition (expression elsewhere) x → Leaves edition pattern (l ++ x)
    pattern-leaves x f = (
      (λ a d. subst (Between edition) (sym (append_assoc l x a)) (item-between (x ++ a) (pattern-block f d))),
      (λ k e s r u v. subst (λ (y : List Kind). Sentence edition (y ++ (text_end ∷ []))) (ending l x s r k) (h (x ++ (k ∷ (s ++ r))) (pattern-item f (one e) u v))),
      h x (last_pattern f),
    )
      where
        ending : (l x s r : List Kind) (k : Kind) → l ++ (x ++ (k ∷ (s ++ r))) ≡ ((l ++ x) ++ (k ∷ [])) ++ (s ++ r)
        ending l x s r k = simp append_assoc

    item-kept : (k : Kind) → Kept edition l k (item_step edition k)
    unfolding item_step
    item-kept k =
        by-test (Kept edition l k) (same k text_end) _ _
        (λ e. given k text_end (λ j. Sentence edition (l ++ (j ∷ []))) e (subst (λ (x : List Kind). Sentence edition (x ++ (text_end ∷ []))) (append-nil l) (h [] no_item)))
        (λ e. by-test (Kept edition l k) (among (BEGIN ∷ END ∷ []) k) _ _
        (λ e. each (λ j. Means edition action_next (l ++ (j ∷ []))) (BEGIN ∷ END ∷ [])
        ((λ a d. subst (Between edition) (sym (shift l BEGIN a)) (item-between (BEGIN ∷ a) (begin d))), ((λ a d. subst (Between edition) (sym (shift l END a)) (item-between (END ∷ a) (end d))), tt)) k e)
        (λ e. by-test (Kept edition l k) (same k open_brace) _ _
        (λ e. given k open_brace (λ j. Means edition (list 0 false (action true)) (l ++ (j ∷ []))) e
        ((λ r t. subst (Between edition) (wrapped l r open_brace close_brace) (item-between (open_brace ∷ (r ++ (close_brace ∷ []))) (always (braces t)))), tt))
        (λ e. operand-kept edition fresh pattern k l pattern-leaves)))

  one_more : (l : List Kind) → Newlines l → Newlines (l ++ (newline ∷ []))
  one_more _ no-newline = newline-more no-newline
  one_more _ (newline-more {l = l} h) = newline-more (one_more l h)

  start-hole : (l : List Kind) → Newlines l → ItemHole edition l
  start-hole l n r d = subst (Sentence edition) (sym (append_assoc l r (text_end ∷ []))) (program n d)

  -- ---- every step

  pub step_kept : (x : State) (k : Kind) (l : List Kind) → Means edition x l → Kept edition l k (step edition x k)
  unfolding step
  step_kept start k l h =
      by-test (Kept edition l k) (same k newline) _ _ (λ e. given k newline (λ j. Newlines (l ++ (j ∷ []))) e (one_more l h)) (λ e. item-kept l (start-hole l h) k)
  step_kept between k l h =
      by-test (Kept edition l k) (among enders k) _ _
      (λ e s r u v. subst (λ (x : List Kind). Sentence edition (x ++ (text_end ∷ []))) (sym (shift l k (s ++ r))) (h (k ∷ s) r (separator-more (one e) u) v))
      (λ e. item-kept l (λ r d. h [] r no-separator d) k)
  step_kept done k l h = tt
  step_kept action_next k l h =
      by-test (Kept edition l k) (same k open_brace) _ _
      (λ e. given k open_brace (λ j. Means edition (list 0 false (action false)) (l ++ (j ∷ []))) e
      ((λ r t. subst (Between edition) (wrapped l r open_brace close_brace) (h (open_brace ∷ (r ++ (close_brace ∷ []))) (braces t))), tt)) (λ e. tt)
  step_kept (operand m c) k l h = operand-kept edition m c k l h
  step_kept (operand_line m c) k l h =
      by-test (Kept edition l k) (same k newline) _ _
      (λ e. given k newline (λ j. Means edition (operand_line m c) (l ++ (j ∷ []))) e (λ s n. subst (OperandIn edition m c) (sym (shift l newline s)) (h (newline ∷ s) (newline-more n))))
      (λ e. operand-kept edition m c k l (subst (OperandIn edition m c) (append-nil l) (h [] no-newline)))
  step_kept (operand_field m c) k l h = operand-field-kept edition m c k l h
  step_kept (ere_next c) k l h =
      by-test (Kept edition l k) (same k ERE) _ _ (λ e. given k ERE (λ j. AfterIn edition tested c (l ++ (j ∷ []))) e h) (λ e. tt)
  step_kept (after m c) k l h = after_kept edition m c k l h (exit-kept c k l (leave edition (Leaves edition c) (place_of (printed c)) m l h))
  step_kept (Open-next xs m c) k l h = by-test (Kept edition l k) (same k open_paren) _ _ (λ e. opened-kept xs m c k l h e) (λ e. tt)
  step_kept (ere_argument xs m c) k l h = argument-kept an_ere xs m c k l h
  step_kept (argument_line x xs m c) k l h =
      by-test (Kept edition l k) (same k newline) _ _
      (λ e. given k newline (λ j. Means edition (argument_line x xs m c) (l ++ (j ∷ []))) e (λ s n. subst (Argument edition x xs m c) (sym (shift l newline s)) (h (newline ∷ s) (newline-more n))))
      (λ e. argument-kept x xs m c k l (subst (Argument edition x xs m c) (append-nil l) (h [] no-newline)))
  step_kept (argument-end xs m c) k l h = argument-end-kept xs m c k l h
  step_kept (condition_next n b) k l h =
      by-test (Kept edition l k) (same k open_paren) _ _
      (λ e. given k open_paren (λ j. Means edition (operand fresh (condition n b)) (l ++ (j ∷ []))) e
      (λ x f. subst (Body edition (main_of b) (Closes edition b) n) (opening l x) (h x f))) (λ e. tt)
  step_kept (body n b) k l h =
      by-test (Kept edition l k) (same k newline) _ _
      (λ e. given k newline (λ j. Means edition (body n b) (l ++ (j ∷ []))) e
      (λ s t. subst (Begun edition (main_of b) (Closes edition b) n) (sym (shift l newline s)) (h (newline ∷ s) (newline-more t))))
      (λ e. begin-kept n b l (subst (Begun edition (main_of b) (Closes edition b) n) (append-nil l) (h [] no-newline)) k)
  step_kept (print_next n b) k l h =
      by-test (Kept edition l k) (starts_expression edition k) _ _
      (λ e. operand-kept edition fresh (listed n b) k l (λ x f.
      (h.1 x (last-element f), λ s r t d. subst (Finished edition (main_of b) (Closes edition b) n) (sym (append_assoc l x (comma ∷ (s ++ r)))) (h.1 (x ++ (comma ∷ (s ++ r))) (next-element f t d)))))
      (λ e. finished-kept n b k l h.0)
  step_kept (finished n b) k l h = finished-kept n b k l h
  step_kept (list n p b) k l h = list-kept n p b k l h
