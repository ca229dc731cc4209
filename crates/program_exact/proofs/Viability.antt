-- What the machine takes is what can be completed: viable kinds are told by running it.
use mathlib.Core.Path.{◌≡◌, refl, sym, subst}
use mathlib.Core.List.{List, [], ◌∷◌, ◌++◌, append_assoc, append-nil}
use mathlib.Core.Option.{Option, some, none}
use Prim.Native.Nat.{ℕ}
use Rattle.program_tokens.specs.Kinds.{Kind, text_end, NUMBER, ERE, open_paren, close_paren, open_brace, close_brace, comma, semicolon, among, rank}
use Rattle.program_tree.specs.Functions.{Shape, an_expression, an_ere}
use Rattle.program_grammar.specs.Grammar.{one, none as no-newline, none as no-separator, Place, expression, field, argument, arguments, Form, value as value-form, no_or, no_and, no_ere, no_compare, no_join, no_add, no_multiply, no_prefix, no_field, one_token, last_argument, next_argument, expression_argument, ere_argument as ere-form, ended, whole, empty, braces, none as no-statement, none as no_item, Sentence, program}
use Rattle.program_grammar.specs.Viable.{Viable}
use Rattle.program_exact.specs.Machine.{Mode, fresh, plain, against, tested, Blocks, action, nested, Context, group, call, condition, value, listed, pattern, State, start, between, done, action_next, operand, operand_line, operand_field, ere_next, after, Open-next, ere_argument, argument_line, argument-end, condition_next, body, print_next, finished, list, main_of, printed, step, step_in, run}
use Rattle.program_exact.proofs.Meaning.{place_of, Plain, Body, Finished, Between, Closes, Leaves, AfterIn, OperandIn, Argument, Means, Kept}
use Rattle.program_exact.proofs.Kept.{leave}
use Rattle.program_exact.proofs.Sentences.{not-viable}
use Rattle.program_exact.proofs.Steps.{plain-listed, step_kept}

module _ (edition : ℕ) where
  -- ---- each state can be completed

  shorter : (l r : List Kind) → Viable edition (l ++ r) → Viable edition l
  shorter l r v = record { rest = r ++ v.rest; complete = subst (Sentence edition) (append_assoc l r v.rest) v.complete }

  a-number : Form edition field (NUMBER ∷ [])
  unfolding among rank
  a-number = no_field (one_token (one refl))

  a-value : (p : Place) → Form edition (expression p) (NUMBER ∷ [])
  a-value p = value-form (no_or (no_and (no_ere (no_compare (no_join (no_add (no_multiply (no_prefix a-number))))))))

  an-argument : (x : Shape) → (a : List Kind) × (Form edition (argument x) a)
  an-argument an_expression = (NUMBER ∷ [], expression_argument (a-value Place.elsewhere))
  an-argument an_ere = (ERE ∷ [], ere-form)

  all-arguments : (x : Shape) (xs : List Shape) → (a : List Kind) × (Form edition (arguments (x ∷ xs)) a)
  all-arguments x [] = let i = an-argument x in (i.0, last_argument i.1)
  all-arguments x (y ∷ xs) =
      let i = an-argument x in
      let j = all-arguments y xs in
      (i.0 ++ (comma ∷ ([] ++ j.0)), next_argument i.1 no-newline j.1)

  between-viable : (l : List Kind) → Between edition l → Viable edition l
  between-viable l h = shorter l [] (record { rest = text_end ∷ []; complete = h [] [] no-separator no_item })

  closes-viable : (b : Blocks) (l : List Kind) → Closes edition b l → Viable edition l
  closes-viable (action x) l h = between-viable l h
  closes-viable (nested n b) l h = shorter l [] (shorter (l ++ []) (close_brace ∷ []) (closes-viable b ((l ++ []) ++ (close_brace ∷ [])) (h.0 [] no-statement)))

  plain-viable : (b : Blocks) (l : List Kind) → Plain edition (main_of b) (Closes edition b) ended l → Viable edition l
  plain-viable b l h = shorter l [] (shorter (l ++ []) (close_brace ∷ []) (closes-viable b ((l ++ []) ++ (close_brace ∷ [])) (h [] no-statement)))

  finished-viable : (n : ℕ) (b : Blocks) (l : List Kind) → Finished edition (main_of b) (Closes edition b) n l → Viable edition l
  finished-viable n b l h = shorter l (close_brace ∷ []) (closes-viable b (l ++ (close_brace ∷ [])) h.0.1)

  body-viable : (n : ℕ) (b : Blocks) (l : List Kind) → Body edition (main_of b) (Closes edition b) n l → Viable edition l
  body-viable n b l h =
      shorter l [] (shorter (l ++ []) (semicolon ∷ []) (plain-viable b ((l ++ []) ++ (semicolon ∷ [])) (h [] no-newline ended whole (semicolon ∷ []) empty).0))

  leaves-viable : (c : Context) (l : List Kind) → Leaves edition c l → Viable edition l
  leaves-viable (group m c) l h =
      shorter l (close_paren ∷ []) (leaves-viable c (l ++ (close_paren ∷ [])) (leave edition (Leaves edition c) (place_of (printed c)) m (l ++ (close_paren ∷ [])) h))
  leaves-viable (call [] m c) l h =
      shorter l (close_paren ∷ []) (leaves-viable c (l ++ (close_paren ∷ [])) (leave edition (Leaves edition c) (place_of (printed c)) m (l ++ (close_paren ∷ [])) h))
  leaves-viable (call (x ∷ xs) m c) l h =
      let i = all-arguments x xs in
      let r : List Kind = comma ∷ ([] ++ i.0) in
      shorter l r (shorter (l ++ r) (close_paren ∷ []) (leaves-viable c ((l ++ r) ++ (close_paren ∷ []))
      (leave edition (Leaves edition c) (place_of (printed c)) m ((l ++ r) ++ (close_paren ∷ [])) (h [] i.0 no-newline i.1))))
  leaves-viable (condition n b) l h = shorter l (close_paren ∷ []) (body-viable n b (l ++ (close_paren ∷ [])) h)
  leaves-viable (value n b) l h = finished-viable n b l h
  leaves-viable (listed n b) l h = finished-viable n b l h.0
  leaves-viable pattern l h = record { rest = text_end ∷ []; complete = h.2 }

  after-viable : (m : Mode) (c : Context) (l : List Kind) → AfterIn edition m c l → Viable edition l
  after-viable m c l h = leaves-viable c l (leave edition (Leaves edition c) (place_of (printed c)) m l h)

  operand-viable : (m : Mode) (c : Context) (l : List Kind) → OperandIn edition m c l → Viable edition l
  operand-viable fresh c l h = shorter l (NUMBER ∷ []) (leaves-viable c (l ++ (NUMBER ∷ [])) (h (NUMBER ∷ []) (a-value (place_of (printed c)))))
  operand-viable plain c l h = shorter l (NUMBER ∷ []) (after-viable plain c (l ++ (NUMBER ∷ [])) (h (NUMBER ∷ []) (no_prefix a-number)))
  operand-viable against c l h = shorter l (NUMBER ∷ []) (after-viable against c (l ++ (NUMBER ∷ [])) (h (NUMBER ∷ []) (no_prefix a-number)))
  operand-viable tested c l h = shorter l (NUMBER ∷ []) (after-viable tested c (l ++ (NUMBER ∷ [])) (h (NUMBER ∷ []) (no_prefix a-number)))

  argument-viable : (x : Shape) (xs : List Shape) (m : Mode) (c : Context) (l : List Kind) → Argument edition x xs m c l → Viable edition l
  argument-viable x xs m c l h =
      let i = all-arguments x xs in
      shorter l i.0 (shorter (l ++ i.0) (close_paren ∷ []) (after-viable m c ((l ++ i.0) ++ (close_paren ∷ [])) (h i.0 i.1)))

  called-viable : (xs : List Shape) (m : Mode) (c : Context) (l : List Kind) → Means edition (Open-next xs m c) l → Viable edition l
  called-viable [] m c l h = absurd h.0
  called-viable (x ∷ xs) m c l h =
      let i = all-arguments x xs in
      shorter l (open_paren ∷ (i.0 ++ (close_paren ∷ []))) (after-viable m c (l ++ (open_paren ∷ (i.0 ++ (close_paren ∷ [])))) (h.1 i.0 i.1))

  pub means-viable : (x : State) (l : List Kind) → Means edition x l → Viable edition l
  means-viable start l h = record { rest = [] ++ (text_end ∷ []); complete = program h no_item }
  means-viable between l h = between-viable l h
  means-viable done l h = record { rest = []; complete = subst (Sentence edition) (sym (append-nil l)) h }
  means-viable action_next l h =
      shorter l (open_brace ∷ ([] ++ (close_brace ∷ []))) (between-viable (l ++ (open_brace ∷ ([] ++ (close_brace ∷ [])))) (h (open_brace ∷ ([] ++ (close_brace ∷ []))) (braces no-statement)))
  means-viable (operand m c) l h = operand-viable m c l h
  means-viable (operand_line m c) l h = shorter l [] (operand-viable m c (l ++ []) (h [] no-newline))
  means-viable (operand_field m c) l h = shorter l (NUMBER ∷ []) (after-viable m c (l ++ (NUMBER ∷ [])) (h (NUMBER ∷ []) a-number))
  means-viable (ere_next c) l h = shorter l (ERE ∷ []) (after-viable tested c (l ++ (ERE ∷ [])) h)
  means-viable (after m c) l h = after-viable m c l h
  means-viable (Open-next xs m c) l h = called-viable xs m c l h
  means-viable (ere_argument xs m c) l h = argument-viable an_ere xs m c l h
  means-viable (argument_line x xs m c) l h = shorter l [] (argument-viable x xs m c (l ++ []) (h [] no-newline))
  means-viable (argument-end xs m c) l h = leaves-viable (call xs m c) l h
  means-viable (condition_next n b) l h =
      let r : List Kind = open_paren ∷ ((NUMBER ∷ []) ++ (close_paren ∷ [])) in
      shorter l r (body-viable n b (l ++ r) (h (NUMBER ∷ []) (a-value Place.elsewhere)))
  means-viable (body n b) l h = body-viable n b l h
  means-viable (print_next n b) l h = finished-viable n b l h.0
  means-viable (finished n b) l h = finished-viable n b l h
  means-viable (list n p b) l h = plain-viable b l (plain-listed edition (main_of b) (Closes edition b) n p l h)

  -- ---- runs

  abbrev MeansIn : Option State → List Kind → Type 0
  MeansIn none l = Unit
  MeansIn (some x) l = Means edition x l

  kept_in : (l : List Kind) (k : Kind) (o : Option State) → Kept edition l k o → MeansIn o (l ++ (k ∷ []))
  kept_in l k none h = tt
  kept_in l k (some x) h = h

  step_in_lem : (o : Option State) (l : List Kind) (k : Kind) → MeansIn o l → MeansIn (step_in edition o k) (l ++ (k ∷ []))
  step_in_lem none l k h = tt
  step_in_lem (some x) l k h = kept_in l k (step edition x k) (step_kept edition x k l h)

  run_in : (ks l : List Kind) (o : Option State) → MeansIn o l → MeansIn (run edition ks o) (l ++ ks)
  unfolding run
  run_in [] l o h = subst (MeansIn o) (sym (append-nil l)) h
  run_in (k ∷ ks) l o h =
      subst (MeansIn (run edition ks (step_in edition o k))) (append_assoc l (k ∷ []) ks) (run_in ks (l ++ (k ∷ [])) (step_in edition o k) (step_in_lem o l k h))

  pub run-means : (l : List Kind) (x : State) → run edition l (some start) ≡ some x → Means edition x l
  run-means l x e = subst (λ (o : Option State). MeansIn o l) e (run_in l [] (some start) no-newline)

  -- kinds can be completed exactly if the machine takes them, and are a sentence exactly if it takes them to the end
  pub run-viable : (l : List Kind) (x : State) → run edition l (some start) ≡ some x → Viable edition l
  run-viable l x e = means-viable x l (run-means l x e)

  pub viable-run : (l : List Kind) → Viable edition l → (x : State) × (run edition l (some start) ≡ some x)
  viable-run l v = go (run edition l (some start)) refl
    where
      go : (o : Option State) → run edition l (some start) ≡ o → (x : State) × (run edition l (some start) ≡ some x)
      go none e = absurd (not-viable edition l e v)
      go (some x) e = (x, e)

  pub run-sentence : (l : List Kind) → run edition l (some start) ≡ some done → Sentence edition l
  run-sentence l e = run-means l done e
