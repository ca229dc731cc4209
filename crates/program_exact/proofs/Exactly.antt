-- The reader means what document 01 says: a tree exactly for the sentences of the grammar, a refusal exactly at the
-- first token that can't continue any program, and `/` as an ERE exactly where one can be.
use mathlib.Core.Path.{◌≡◌, refl, sym, ap, subst, subst₂, ◌∙◌}
use mathlib.Core.Bool.{Bool, true, false, cond}
use mathlib.Core.List.{List, [], ◌∷◌, ◌++◌, append_assoc, append-nil}
use mathlib.Core.Option.{Option, some, none}
use mathlib.Core.Logic.{◌⊎◌, inl, inr, ⊎_elim}
use Prim.Native.Nat.{ℕ, zero, suc, ◌+◌, ◌-◌, ◌<◌}
use native.Mathlib.Omega.{arith}
use lib.Dec.{ltb}
use lib.ListN.{length}
use borrow.Author.Tests.{ltb-true, ltb-false}
use Rattle.lists.proofs.Options.{none-some, some_one}
use Rattle.edition.specs.Outcomes.{size_passed, bad_token, bad_ere, misplaced_token}
use Rattle.program_tokens.specs.Kinds.{Kind, text_end, bad, bad-ere, ERE, among, rank}
use Rattle.program_tokens.specs.Tokens.{Token, is, token_at, token_after, as_operand}
use Rattle.program_tree.specs.Functions.{an_expression, an_ere}
use Rattle.program_tree.specs.Tree.{Program}
use Rattle.program_grammar.specs.Grammar.{Sentence}
use Rattle.program_grammar.specs.Viable.{Viable, Taken, operand as taken-operand, operator as taken-operator, Reached, first, after as reached-after, Refused}
use Rattle.program_reader.specs.Read.{Read, ok, no, refuse}
use Rattle.program_reader.specs.Programs.{read_program}
use Rattle.program_parser.specs.Reading.{refused_by}
use Rattle.program_exact.specs.Claims.{Accepted, Deep, TooDeep, ReadsExactly, RefusedExactly, SlashExactly}
use Rattle.program_exact.specs.Machine.{fresh, plain, Blocks, Context, group, call, condition, value, listed, pattern, State, start, between, done, action_next, operand, operand_line, operand_field, ere_next, after, Open-next, ere_argument, argument_line, argument-end, condition_next, body, print_next, finished, list, argument_end, finished_step, exit, call_step, primary_step, field_step, argument_step, begin_step, list_step, item_step, step, step_in, run}
use Rattle.program_exact.proofs.Facts.{by-test, no-function, run_none, run-append, after-quiet, idle-operand, quiet-starts}
use Rattle.program_exact.proofs.Sentences.{sentence-run, not-viable}
use Rattle.program_exact.proofs.Viability.{run-viable, viable-run, run-sentence}
use Rattle.program_exact.proofs.Walks.{Live, read_again, Here, reaches, begins, walk-live}
use Rattle.program_exact.proofs.Readings.{ere-start, Refusal}
use Rattle.program_exact.proofs.Operands.{is_some}
use Rattle.program_exact.proofs.Whole.{Finishes, program-reads}

-- a sum that computes on its first number
abbrev plus : ℕ → ℕ → ℕ
plus zero n = n
plus (suc d) n = suc (plus d n)

plus-sum : (d n : ℕ) → plus d n ≡ d + n
plus-sum zero n = omega arith
plus-sum (suc d) n = omega (arith, plus-sum d n)

abbrev Order : ℕ → ℕ → Type 0
Order n m = (n ≡ m) ⊎ (((d : ℕ) × (m ≡ plus d (suc n))) ⊎ ((d : ℕ) × (n ≡ plus d (suc m))))

order : (n m : ℕ) → Order n m
order n m = decide (ltb n m) refl (ltb m n) refl
  where
    over : (n m : ℕ) → n < m → (d : ℕ) × (m ≡ plus d (suc n))
    over n m h = (m - suc n, omega (arith, h, plus-sum (m - suc n) (suc n)))

    decide : (a : Bool) → ltb n m ≡ a → (b : Bool) → ltb m n ≡ b → Order n m
    decide true e b f = inr (inl (over n m (ltb-true n m e)))
    decide false e true f = inr (inr (over m n (ltb-true m n f)))
    decide false e false f = inl (omega (arith, ltb-false n m e, ltb-false m n f))

-- nothing is longer than itself
never-longer : (l r : List Kind) (k : Kind) → l ≡ (l ++ (k ∷ [])) ++ r → ⊥
never-longer l r k e =
    let counted : length l ≡ length ((l ++ (k ∷ [])) ++ r) = ap length e in
    omega (arith, counted, sizes l r k)
  where
    sizes : (l r : List Kind) (k : Kind) → length ((l ++ (k ∷ [])) ++ r) ≡ suc (length l + length r)
    sizes [] r k = omega arith
    sizes (x ∷ l) r k = omega (arith, sizes l r k)

answers : (o q p l : ℕ) → o ≡ q → p ≡ l → ◌≡◌ {A = Read Program} (no o p) (no q l)
answers o q p l e f = rw (e, f)

pub record Place : Type 0 where
  pub before : List Kind
  pub token : Token

abbrev pub place : List Kind → Token → Place
place l t = record { before = l; token = t }

module _ (edition : ℕ) where
  pub viable-more : (l r : List Kind) → Viable edition (l ++ r) → Viable edition l
  viable-more l r v = record { rest = r ++ v.rest; complete = subst (Sentence edition) (append_assoc l r v.rest) v.complete }

  sentence-viable : (l : List Kind) → Sentence edition l → Viable edition l
  sentence-viable l h = record { rest = []; complete = subst (Sentence edition) (sym (append-nil l)) h }

  -- after a sentence nothing is taken
  over_done : (l : List Kind) (x : State) → run edition l (some done) ≡ some x → Live x → ⊥
  unfolding run step
  over_done [] x e h = subst Live (sym (some_one refl e)) h
  over_done (k ∷ l) x e h = none-some (sym (run_none edition l) ∙ e)

  -- ---- the text's end

  exit-end : (c : Context) → (exit c text_end ≡ none) ⊎ (exit c text_end ≡ some done)
  unfolding exit argument_end finished_step among rank
  exit-end (group m c) = inl refl
  exit-end (call [] m c) = inl refl
  exit-end (call (x ∷ l) m c) = inl refl
  exit-end (condition n b) = inl refl
  exit-end (value n b) = inl refl
  exit-end (listed n b) = inl refl
  exit-end pattern = inr refl

  begin-end : (n : ℕ) (b : Blocks) → begin_step edition n b text_end ≡ none
  unfolding begin_step among rank
  begin-end n b = idle-operand edition fresh (value n b) text_end refl

  print-end : (n : ℕ) (b : Blocks) → step edition (print_next n b) text_end ≡ none
  unfolding step finished_step among rank
  print-end n b = rw (quiet-starts edition text_end refl)

  -- the text's end is taken at the end alone
  pub end_step : (x : State) → (step edition x text_end ≡ none) ⊎ (step edition x text_end ≡ some done)
  unfolding step item_step list_step field_step primary_step argument_step argument_end finished_step among rank
  end_step start = inr refl
  end_step between = inr refl
  end_step done = inl refl
  end_step action_next = inl refl
  end_step (operand m c) = inl (idle-operand edition m c text_end refl)
  end_step (operand_line m c) = inl (idle-operand edition m c text_end refl)
  end_step (operand_field m c) = inl (ap (call_step edition m c) (no-function edition text_end refl))
  end_step (ere_next c) = inl refl
  end_step (after m c) =
      let e = after-quiet edition m c text_end refl in
      ⊎_elim (λ z. inl (e ∙ z)) (λ z. inr (e ∙ z)) (exit-end c)
  end_step (Open-next l m c) = inl refl
  end_step (ere_argument l m c) = inl refl
  end_step (argument_line an_expression l m c) = inl (idle-operand edition fresh (call l m c) text_end refl)
  end_step (argument_line an_ere l m c) = inl refl
  end_step (argument-end [] m c) = inl refl
  end_step (argument-end (x ∷ l) m c) = inl refl
  end_step (condition_next n b) = inl refl
  end_step (body n b) = inl (begin-end n b)
  end_step (print_next n b) = inl (print-end n b)
  end_step (finished n b) = inl refl
  end_step (list n p b) = inl (begin-end 0 b)

  -- what can be completed after the text's end is complete
  end-sentence : (l : List Kind) → Viable edition (l ++ (text_end ∷ [])) → Sentence edition (l ++ (text_end ∷ []))
  unfolding run
  end-sentence l v =
      let i = viable-run edition l (viable-more l (text_end ∷ []) v) in
      let j = viable-run edition (l ++ (text_end ∷ [])) v in
      let last : run edition (l ++ (text_end ∷ [])) (some start) ≡ step edition i.0 text_end =
      run-append edition l (text_end ∷ []) (some start) ∙ ap (λ o. step_in edition o text_end) i.1 in
      ⊎_elim (λ z. absurd (none-some (sym z ∙ (sym last ∙ j.1)))) (λ z. run-sentence edition (l ++ (text_end ∷ [])) (last ∙ z)) (end_step i.0)

  module _ (s : List ℕ) where
    -- ---- the tokens of a text, one after the other

    read-in : List Kind → Token → Token
    read-in l t = cond (is_some (run edition (l ++ (ERE ∷ [])) (some start))) (as_operand edition s t) t

    next : Place → Place
    next p = let l = p.before ++ (p.token.kind ∷ []) in place l (read-in l (token_after edition s p.token))

    chain : ℕ → Place
    chain zero = place [] (read-in [] (token_at edition s 0))
    chain (suc n) = next (chain n)

    taken_is : (l : List Kind) (t u : Token) → Taken edition s l t u → u ≡ read-in l t
    unfolding read-in
    taken_is l t u (taken-operand v) =
        let i = viable-run edition (l ++ (ERE ∷ [])) v in
        sym (ap (λ o. cond (is_some o) (as_operand edition s t) t) i.1)
    taken_is l t u (taken-operator n) = decide (run edition (l ++ (ERE ∷ [])) (some start)) refl
      where
        decide : (o : Option State) → run edition (l ++ (ERE ∷ [])) (some start) ≡ o → t ≡ cond (is_some (run edition (l ++ (ERE ∷ [])) (some start))) (as_operand edition s t) t
        decide none e = sym (ap (λ o. cond (is_some o) (as_operand edition s t) t) e)
        decide (some x) e = absurd (n (run-viable edition (l ++ (ERE ∷ [])) x e))

    in-chain : (l : List Kind) (t : Token) → Reached edition s l t → (n : ℕ) × (place l t ≡ chain n)
    unfolding chain next
    in-chain l t (first {t = u} h) = (zero, ap (place []) (taken_is [] (token_at edition s 0) u h))
    in-chain l t (reached-after {before = b} {t = u} {u = v} r h) =
        let i = in-chain b u r in
        (suc i.0, ap (place (b ++ (u.kind ∷ []))) (taken_is (b ++ (u.kind ∷ [])) (token_after edition s u) v h) ∙ ap next i.1)

    -- a place is before another
    abbrev pub Sooner : Place → Place → Type 0
    Sooner p q = (r : List Kind) × (q.before ≡ (p.before ++ (p.token.kind ∷ [])) ++ r)

    sooner : (n d : ℕ) → Sooner (chain n) (chain (plus d (suc n)))
    unfolding chain next
    sooner n zero = ([], sym (append-nil ((chain n).before ++ ((chain n).token.kind ∷ []))))
    sooner n (suc d) =
        let i = sooner n d in
        let q = chain (plus d (suc n)) in
        let l = (chain n).before ++ ((chain n).token.kind ∷ []) in
        (i.0 ++ (q.token.kind ∷ []), ap (λ (x : List Kind). x ++ (q.token.kind ∷ [])) i.1 ∙ append_assoc l i.0 (q.token.kind ∷ []))

    pub compare : (l m : List Kind) (t u : Token) → Reached edition s l t → Reached edition s m u
        → (place l t ≡ place m u) ⊎ ((Sooner (place l t) (place m u)) ⊎ (Sooner (place m u) (place l t)))
    compare l m t u a b =
        let i = in-chain l t a in
        let j = in-chain m u b in
        let moved : (x y : ℕ) (p q : Place) → p ≡ chain x → q ≡ chain y → (d : ℕ) × (y ≡ plus d (suc x)) → Sooner p q =
        λ x y p q e f h. subst₂ Sooner (sym e) (ap chain (sym h.1) ∙ sym f) (sooner x h.0) in
        ⊎_elim (λ e. inl (i.1 ∙ (ap chain e ∙ sym j.1)))
        (λ h. inr (⊎_elim (λ z. inl (moved i.0 j.0 (place l t) (place m u) i.1 j.1 z)) (λ z. inr (moved j.0 i.0 (place m u) (place l t) j.1 i.1 z)) h))
        (order i.0 j.0)

    pub one_way : (l : List Kind) (t u : Token) → Reached edition s l t → Reached edition s l u → t ≡ u
    one_way l t u a b =
        ⊎_elim (λ e. ap (λ (p : Place). p.token) e)
        (λ h. absurd (⊎_elim (λ z. never-longer l z.0 t.kind z.1) (λ z. never-longer l z.0 u.kind z.1) h)) (compare l l t u a b)

    -- ---- what the reader's answer says

    from_start : Here edition s start (as_operand edition s (token_at edition s 0))
    from_start = begins edition s (as_operand edition s (token_at edition s 0)) (read_again (after plain pattern) (ere-start edition))

    accepted : (p : Program) (t : Token) → Finishes edition s start (as_operand edition s (token_at edition s 0)) (ok p t) → Accepted edition s
    unfolding run
    accepted p t f =
        let h = reaches edition s start (as_operand edition s (token_at edition s 0)) f.0 t from_start f.1 in
        record {
          before = h.before;
          last = t;
          reached = h.reached;
          at-end = f.2;
          sentence = run-sentence edition (h.before ++ (text_end ∷ []))
              (run-append edition h.before (text_end ∷ []) (some start) ∙ (ap (λ o. step_in edition o text_end) h.ran ∙ f.3));
        }

    module _ (o p : ℕ) (r : Refusal edition s start (as_operand edition s (token_at edition s 0)) o p) where
      here : Here edition s r.state r.token
      here = reaches edition s start (as_operand edition s (token_at edition s 0)) r.state r.token from_start r.walk

      live : Live r.state
      live = walk-live edition s start (as_operand edition s (token_at edition s 0)) r.state r.token tt r.walk

      with-token : (y : Option State) → step edition r.state r.token.kind ≡ y → run edition (here.before ++ (r.token.kind ∷ [])) (some start) ≡ y
      unfolding run
      with-token y e = run-append edition here.before (r.token.kind ∷ []) (some start) ∙ (ap (λ x. step_in edition x r.token.kind) here.ran ∙ e)

      refused-token : step edition r.state r.token.kind ≡ none → Refused edition s r.token
      refused-token e =
          record {
            before = here.before;
            reached = here.reached;
            viable = run-viable edition here.before r.state here.ran;
            stuck = not-viable edition (here.before ++ (r.token.kind ∷ [])) (with-token none e);
          }

      deep-token : (y : State) → step edition r.state r.token.kind ≡ some y → Deep edition s p
      deep-token y e =
          record {
            before = here.before;
            opener = r.token;
            reached = here.reached;
            viable = run-viable edition (here.before ++ (r.token.kind ∷ [])) y (with-token (some y) e);
            at = r.at;
          }

      -- what was refused is no sentence
      not-accepted : step edition r.state r.token.kind ≡ none → Accepted edition s → ⊥
      unfolding refused-token here
      not-accepted e a =
          let k = refused-token e in
          let here-now : List Kind = here.before in
          let all-viable : Viable edition (a.before ++ (text_end ∷ [])) = sentence-viable (a.before ++ (text_end ∷ [])) a.sentence in
          ⊎_elim
          (λ q. k.stuck (subst (λ (z : Place). Viable edition (z.before ++ (z.token.kind ∷ []))) (sym q)
          (subst (λ (j : Kind). Viable edition (a.before ++ (j ∷ []))) (sym a.at-end) all-viable)))
          (λ h. ⊎_elim
          (λ z. k.stuck (viable-more ((here-now) ++ (r.token.kind ∷ [])) z.0 (subst (Viable edition) z.1 (viable-more a.before (text_end ∷ []) all-viable))))
          (λ z.
          let whole : here-now ≡ (a.before ++ (text_end ∷ [])) ++ z.0 = subst (λ (j : Kind). here-now ≡ (a.before ++ (j ∷ [])) ++ z.0) a.at-end z.1 in
          over_done z.0 r.state
          (ap (run edition z.0) (sym (sentence-run edition (a.before ++ (text_end ∷ [])) a.sentence))
          ∙ (sym (run-append edition (a.before ++ (text_end ∷ [])) z.0 (some start)) ∙ (ap (λ (x : List Kind). run edition x (some start)) (sym whole) ∙ here.ran))) live) h)
          (compare here.before a.before r.token a.last here.reached a.reached)

    -- two first tokens that can't go on are one
    refused-one : (t u : Token) → Refused edition s t → Refused edition s u → t ≡ u
    refused-one t u a b =
        ⊎_elim (λ e. ap (λ (z : Place). z.token) e)
        (λ h. absurd (⊎_elim
        (λ z. a.stuck (viable-more (a.before ++ (t.kind ∷ [])) z.0 (subst (Viable edition) z.1 b.viable)))
        (λ z. b.stuck (viable-more (b.before ++ (u.kind ∷ [])) z.0 (subst (Viable edition) z.1 a.viable))) h))
        (compare a.before b.before t u a.reached b.reached)

    pub no-level : (t : Token) → refused_by t ≡ size_passed → ⊥
    no-level t =
        by-test (λ (n : ℕ). n ≡ size_passed → ⊥) (is bad t) bad_token (cond (is bad-ere t) bad_ere misplaced_token) (λ q e. omega (arith, e))
        (λ q. by-test (λ (n : ℕ). n ≡ size_passed → ⊥) (is bad-ere t) bad_ere misplaced_token (λ q e. omega (arith, e)) (λ q e. omega (arith, e)))

    pub answer : (r : Read Program) → read_program edition s ≡ r → Finishes edition s start (as_operand edition s (token_at edition s 0)) r
    answer r e = subst (Finishes edition s start (as_operand edition s (token_at edition s 0))) e (program-reads edition s)

    -- ---- the claims

    -- "the reader gives a tree .. exactly if the tokens are a sentence"
    pub reads-exactly : ReadsExactly edition s
    reads-exactly = record { only = λ p t e. accepted p t (answer (ok p t) e); all = λ a. decide a (read_program edition s) refl }
      where
        decide : Accepted edition s → (r : Read Program) → read_program edition s ≡ r → ((p : Program) × (t : Token) × (read_program edition s ≡ ok p t)) ⊎ (TooDeep edition s)
        decide a (ok p t) e = inl (p, t, e)
        decide a (no o p) e =
            let r = answer (no o p) e in
            ⊎_elim (λ z. absurd (not-accepted o p r z.0 a)) (λ z. inr (p, e ∙ ap (λ (n : ℕ). no n p) z.1)) r.why

    -- "the first token that .. can't continue any program (4)"
    pub refused-exactly : RefusedExactly edition s
    refused-exactly =
        record {
          stuck = λ o p e n.
              let r = answer (no o p) e in
              ⊎_elim (λ z. (r.token, refused-token o p r z.0, answers o (refused_by r.token) p r.token.start z.1 r.at)) (λ z. absurd (n z.1)) r.why;
          deep = λ p e.
              let r = answer (no size_passed p) e in
              ⊎_elim (λ z. absurd (no-level r.token (sym z.1))) (λ z. deep-token size_passed p r z.0.0 z.0.1) r.why;
          refuses = λ t f n. decide t f n (read_program edition s) refl;
          at-end = λ l t r k v n. record {
            before = l;
            reached = r;
            viable = v;
            stuck = λ w. n (end-sentence l (subst (λ (j : Kind). Viable edition (l ++ (j ∷ []))) k w));
          };
          no_sentence = λ t r k h. r.stuck (subst (λ (j : Kind). Viable edition (r.before ++ (j ∷ []))) (sym k) (sentence-viable (r.before ++ (text_end ∷ [])) h));
        }
      where
        decide : (t : Token) → Refused edition s t → (Accepted edition s → ⊥) → (r : Read Program) → read_program edition s ≡ r
            → (read_program edition s ≡ refuse {A = Program} t) ⊎ (TooDeep edition s)
        decide t f n (ok p u) e = absurd (n (accepted p u (answer (ok p u) e)))
        decide t f n (no o p) e =
            let r = answer (no o p) e in
            ⊎_elim
            (λ z. inl (e ∙ (answers o (refused_by r.token) p r.token.start z.1 r.at ∙ ap (λ (u : Token). refuse {A = Program} u) (refused-one r.token t (refused-token o p r z.0) f))))
            (λ z. inr (p, e ∙ ap (λ (n : ℕ). no n p) z.1)) r.why

    -- "`/` starts an ERE where the grammar below allows one, else it divides"
    pub slash-exactly : SlashExactly edition s
    slash-exactly = record { told = told; one_way = one_way }
      where
        told : (l : List Kind) → (Viable edition (l ++ (ERE ∷ []))) ⊎ (Viable edition (l ++ (ERE ∷ [])) → ⊥)
        told l = decide (run edition (l ++ (ERE ∷ [])) (some start)) refl
          where
            decide : (o : Option State) → run edition (l ++ (ERE ∷ [])) (some start) ≡ o → (Viable edition (l ++ (ERE ∷ []))) ⊎ (Viable edition (l ++ (ERE ∷ [])) → ⊥)
            decide none e = inr (not-viable edition (l ++ (ERE ∷ [])) e)
            decide (some x) e = inl (run-viable edition (l ++ (ERE ∷ [])) x e)
