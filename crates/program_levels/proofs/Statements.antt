-- The reader of statements, beside the count of levels.
use mathlib.Core.Path.{◌≡◌, refl, sym, ap, subst, ◌∙◌}
use mathlib.Core.Bool.{Bool, true, false, not, cond, ◌&&◌}
use mathlib.Core.List.{List, [], ◌∷◌, ◌++◌}
use mathlib.Core.Option.{Option, some, none}
use mathlib.Core.Logic.{◌⊎◌, inl, inr, ⊎_elim}
use Prim.Native.Nat.{ℕ, zero, suc, ◌+◌, ◌≤◌, ◌<◌}
use native.Mathlib.Omega.{arith}
use lib.ListN.{length, take}
use lib.Dec.{eqb}
use Rattle.lists.proofs.Tests.{clash, and-true, and-false}
use Rattle.lists.proofs.Options.{none-some, some_one}
use Rattle.edition.specs.Limits.{nesting_depth}
use Rattle.ere_meaning.specs.Tree.{Class, Ere}
use Rattle.ere_grammar.specs.Read.{read_ere}
use Rattle.program_tokens.specs.Kinds.{Kind, text_end, newline, NUMBER, STRING, ERE, IF, ELSE, WHILE, PRINT, NEXT, EXIT, open_brace, close_brace, open_paren, close_paren, comma, semicolon, dollar, same, among, rank}
use Rattle.program_tokens.specs.Tokens.{Token, is, is_one_of, token_after, as_operand, ere_token, ere_read}
use Rattle.program_tokens.proofs.Ranks.{same-is}
use Rattle.program_tree.specs.Functions.{function_of}
use Rattle.program_tree.specs.Tree.{Expression, Statement, expression, print, if-else, while, block, next, exit as exit-tree, empty, sequence}
use Rattle.program_grammar.specs.Sets.{names, prefixes, enders, is_function, starts_expression, starts_statement}
use Rattle.program_reader.specs.Read.{Read, ok, no, map, bind, refuse, too_deep, operand_after, past_newlines}
use Rattle.program_reader.specs.Operators.{prefixed, matched, expressions}
use Rattle.program_reader.specs.Expressions.{Inner, turns, closed, primary, calling, field_form, prefix_form, more, matching, assignment, step_tier, tier, inside, expression_at}
use Rattle.program_reader.specs.Statements.{ended, no_body, listed, print_at, condition_at, else_after, body_at, else_at, then_at, if_at, while_at, statement_of, followed, statements, block_of, statement_at}
use Rattle.program_parser.specs.Reading.{refused_by}
use Rattle.program_parser.proofs.Tokens.{Slashes}
use Rattle.program_exact.proofs.Facts.{each, by-test, words, no-function, quiet-starts}
use Rattle.program_exact.proofs.Sentences.{stops}
use Rattle.program_exact.proofs.Walks.{operand-test}
use Rattle.program_exact.proofs.Bodies.{unread}
use Rattle.program_levels.specs.Levels.{at_least}
use Rattle.program_exact.proofs.Operands.{known}
use Rattle.program_exact.proofs.Exactly.{no-level}
use Rattle.program_levels.proofs.Count.{Braces, action, nested, Around, condition, statement, Count, operand, after, condition_next, body, print_next, list, Move, moves, level_of, closed as closed-count, expects, leave, operand_move, begin_move, list_move, move}
use Rattle.program_levels.proofs.Derivations.{quiet-move, after_is, operand-is, plain-move}
use Rattle.program_levels.proofs.Sentences.{finish, stands-value, stands-print, list-first, lone, body-first}
use Rattle.program_levels.proofs.Steps.{Steps, stay, join, pass, quietly, Refusal, Reads, refused, too-deep, later, earlier, reads-map, Like, likely, like-opens, like-to, passed, lines}
use Rattle.program_levels.proofs.Expressions.{Whole, to-line, inside-reads, expression-reads}

module _ (edition : ℕ) where
  -- ---- what begins a statement

  value-begins : (n : ℕ) (p : List ℕ) (b : Braces) (k : Kind) → same k semicolon ≡ false → same k open_brace ≡ false → same k IF ≡ false → same k WHILE ≡ false → same k PRINT ≡ false
      → begin_move edition n p b k ≡ operand_move edition n n (statement n p b) k
  unfolding begin_move among rank
  value-begins n p b k q1 q2 q3 q4 q5 =
      rw (q1, q2, q3, q4, q5) (by-test (λ (m : Move). m ≡ operand_move edition n n (statement n p b) k) (among (NEXT ∷ EXIT ∷ []) k) _ _
      (λ q. sym (each (λ k. operand_move edition n n (statement n p b) k ≡ moves 0 (after n (statement n p b))) (NEXT ∷ EXIT ∷ [])
      (plain-move edition n n (statement n p b) NEXT refl refl refl (no-function edition NEXT refl), (plain-move edition n n (statement n p b) EXIT refl refl refl (no-function edition EXIT refl), tt)) k q))
      (λ q. refl))

  -- a statement opens no level at its first token, or the next one
  abbrev Next : ℕ → Move → Type 0
  Next n m = (m.level ≡ 0) ⊎ (m.level ≡ suc n)

  operand-level : (d e : ℕ) (c : Around) (k : Kind) → Next d (operand_move edition d e c k)
  unfolding operand_move
  operand-level d e c k =
      by-test (Next d) (same k newline) _ _ (λ q. inl refl)
      (λ q. by-test (Next d) (among (dollar ∷ prefixes) k) _ _ (λ q. inr refl)
      (λ q. by-test (Next d) (same k open_paren) _ _ (λ q. inr refl)
      (λ q. by-test (Next d) (is_function (function_of edition k)) _ _ (λ q. inl refl) (λ q. inl refl))))

  begin-level : (n : ℕ) (p : List ℕ) (b : Braces) (k : Kind) → Next n (begin_move edition n p b k)
  unfolding begin_move
  begin-level n p b k =
      by-test (Next n) (same k semicolon) _ _ (λ q. inl refl)
      (λ q. by-test (Next n) (same k open_brace) _ _ (λ q. inr refl)
      (λ q. by-test (Next n) (same k IF) _ _ (λ q. inl refl)
      (λ q. by-test (Next n) (same k WHILE) _ _ (λ q. inl refl)
      (λ q. by-test (Next n) (same k PRINT) _ _ (λ q. inl refl)
      (λ q. by-test (Next n) (among (NEXT ∷ EXIT ∷ []) k) _ _ (λ q. inl refl) (λ q. operand-level n n (statement n p b) k))))))

  body-level : (n : ℕ) (p : List ℕ) (b : Braces) (k : Kind) → n ≡ nesting_depth → same k newline ≡ false → nesting_depth < (move edition (body n p b) k).level
  body-level n p b k e q =
      let L : ℕ = (begin_move edition (suc n) p b k).level in
      let at : (move edition (body n p b) k).level ≡ at_least (suc n) L = ap (λ (m : Move). m.level) (body-first edition n p b k q) in
      ⊎_elim (λ z. let w : at_least (suc n) L ≡ suc n = ap (at_least (suc n)) z in omega (arith, at, w, e))
      (λ z. let w : at_least (suc n) L ≡ suc (suc n) = ap (at_least (suc n)) z in omega (arith, at, w, e)) (begin-level (suc n) p b k)

  list-line : (p : List ℕ) (q : Bool) (b : Braces) → move edition (list p q b) newline ≡ moves 0 (list p q b)
  unfolding move list_move rank
  list-line p q b = refl

  list-mark : (p : List ℕ) (q : Bool) (b : Braces) → not q ≡ true → move edition (list p q b) semicolon ≡ moves 0 (list p true b)
  unfolding move list_move rank
  list-mark p q b e = rw e

  list-else : (n : ℕ) (p : List ℕ) (q : Bool) (b : Braces) → move edition (list (n ∷ p) q b) ELSE ≡ moves 0 (body n p b)
  unfolding move list_move rank
  list-else n p q b = refl

  list_close : (p : List ℕ) (q : Bool) (b : Braces) → move edition (list p q b) close_brace ≡ moves 0 (closed-count b)
  unfolding move list_move rank
  list_close p q b = refl

  body-line : (n : ℕ) (p : List ℕ) (b : Braces) → move edition (body n p b) newline ≡ moves 0 (body n p b)
  unfolding move rank
  body-line n p b = refl

  condition-is : (n : ℕ) (p : List ℕ) (b : Braces) (k : Kind) → move edition (condition_next n p b) k ≡ moves (suc n) (operand (suc n) (suc n) (condition n p b))
  unfolding move
  condition-is n p b k = refl

  condition-close : (f n : ℕ) (p : List ℕ) (b : Braces) → move edition (after f (condition n p b)) close_paren ≡ moves 0 (body n p b)
  unfolding leave among rank
  condition-close f n p b = after_is edition f (condition n p b) close_paren ∙ quiet-move edition f (condition n p b) close_paren refl

  list-comma : (f n : ℕ) (p : List ℕ) (b : Braces) → move edition (after f (statement n p b)) comma ≡ moves 0 (operand n n (statement n p b))
  unfolding leave among rank
  list-comma f n p b = after_is edition f (statement n p b) comma ∙ quiet-move edition f (statement n p b) comma refl

  print-starts : (n : ℕ) (p : List ℕ) (b : Braces) (k : Kind) → starts_expression edition k ≡ true → move edition (print_next n p b) k ≡ operand_move edition n n (statement n p b) k
  unfolding move
  print-starts n p b k e = rw e

  module _ (s : List ℕ) where
    -- ---- tokens that begin no expression

    abbrev pub Dead : Token → Type 0
    Dead t = among (newline ∷ semicolon ∷ ELSE ∷ []) t.kind ≡ true

    abbrev Inert : Kind → Type 0
    Inert k = (same k NUMBER ≡ false) × (same k STRING ≡ false) × (same k ERE ≡ false) × (among names k ≡ false) × (same k open_paren ≡ false) × (same k dollar ≡ false)
        × (among prefixes k ≡ false) × (among words k ≡ false)

    inert : (t : Token) → Dead t → Inert t.kind
    unfolding among rank
    inert t h =
        each Inert (newline ∷ semicolon ∷ ELSE ∷ []) ((refl, refl, refl, refl, refl, refl, refl, refl), ((refl, refl, refl, refl, refl, refl, refl, refl), ((refl, refl, refl, refl, refl, refl, refl, refl), tt))) t.kind h

    more-dead : (p : Bool) (k : ℕ) (below : Token → Read Expression) (n o q : ℕ) → more edition s p k below n (no o q) ≡ no o q
    unfolding more
    more-dead p k below zero o q = refl
    more-dead p k below (suc n) o q = refl

    field-dead : (inner : Inner) (t : Token) → Dead t → field_form edition s inner t ≡ refuse t
    unfolding field_form primary calling
    field-dead inner t h =
        let z = inert t h in
        let f = no-function edition t.kind z.7 in
        rw (z.0, z.1, z.2, z.3, z.4, z.5, f)

    pub dead-tier : (inner : Inner) (p : Bool) (t : Token) → Dead t → (k : ℕ) → tier edition s inner p k t ≡ refuse t
    unfolding tier step_tier prefix_form matching assignment
    dead-tier inner p t h zero = field-dead inner t h
    dead-tier inner p t h (suc k) =
        let P : Read Expression → Type 0 = λ r. r ≡ refuse t in
        let below : Token → Read Expression = tier edition s inner p k in
        let e : below t ≡ refuse t = dead-tier inner p t h k in
        by-test P (eqb (suc k) prefixed) _ _ (λ q. by-test P (is_one_of prefixes t) _ _ (λ r. absurd (clash (sym r ∙ (inert t h).6))) (λ r. e))
        (λ q. by-test P (eqb (suc k) matched) _ _ (λ r. ap (matching edition s) e)
        (λ r. by-test P (eqb (suc k) expressions) _ _ (λ u. ap (assignment edition s inner p) e)
        (λ u. ap (more edition s p (suc k) below (turns s (suc k))) e ∙ more-dead p (suc k) below (turns s (suc k)) _ _)))

    dead-statement : (in_main : Bool) (levels : ℕ) (t : Token) → among (newline ∷ ELSE ∷ []) t.kind ≡ true → statement_at edition s in_main levels t ≡ refuse t
    unfolding statement_at statement_of among rank
    dead-statement in_main levels t h =
        let z = each (λ k. (same k semicolon ≡ false) × (same k open_brace ≡ false) × (same k IF ≡ false) × (same k WHILE ≡ false) × (same k PRINT ≡ false) × (same k EXIT ≡ false) × (same k NEXT ≡ false)
        × (among (newline ∷ semicolon ∷ ELSE ∷ []) k ≡ true)) (newline ∷ ELSE ∷ []) ((refl, refl, refl, refl, refl, refl, refl, refl), ((refl, refl, refl, refl, refl, refl, refl, refl), tt)) t.kind h in
        by levels z
      where
        by : (levels : ℕ) → (is semicolon t ≡ false) × (is open_brace t ≡ false) × (is IF t ≡ false) × (is WHILE t ≡ false) × (is PRINT t ≡ false) × (is EXIT t ≡ false) × (is NEXT t ≡ false)
            × (among (newline ∷ semicolon ∷ ELSE ∷ []) t.kind ≡ true) → statement_at edition s in_main levels t ≡ refuse t
        by zero z = rw (z.0, z.1, z.2, z.3, z.4, z.5, z.6) (ap (map expression) (dead-tier (inside edition s zero) false t z.7 expressions))
        by (suc levels) z = rw (z.0, z.1, z.2, z.3, z.4, z.5, z.6) (ap (map expression) (dead-tier (inside edition s (suc levels)) false t z.7 expressions))

    read_at : (a n : ℕ) (m : Option (Ere Class)) → (ere_read a n m).start ≡ a
    unfolding ere_read
    read_at a n none = refl
    read_at a n (some e) = refl

    ere-at : (a : ℕ) (l : List ℕ) (n : Option ℕ) → (ere_token edition a l n).start ≡ a
    unfolding ere_token
    ere-at a l none = refl
    ere-at a l (some n) = read_at a (2 + n) (read_ere edition (take n l))

    operand_at : (t : Token) → (as_operand edition s t).start ≡ t.start
    unfolding as_operand
    operand_at t = by-test (λ (u : Token). u.start ≡ t.start) (is_one_of Slashes t) _ t (λ q. ere-at t.start _ _) (λ q. refl)

    -- ---- what is said of a statement

    abbrev Stands : Bool → List ℕ → Braces → Count → Type 0
    Stands true p b y = y ≡ list p false b
    Stands false p b y = (k : Kind) → among stops k ≡ true → move edition y k ≡ finish p b k

    pub record StatementRead (p : List ℕ) (b : Braces) (x : Count) (t : Token) (a : Statement) (u : Token) : Type 0 where
      pub pending : List ℕ
      pub state : Count
      pub steps : Steps edition s x t state (cond (ended a) (as_operand edition s u) u)
      pub stands : Stands (ended a) pending b state
      pub own : (pending ≡ p) ⊎ (else_after edition s (length s) (ended a) false u ≡ none)

    abbrev SReads : List ℕ → Braces → Count → Token → Read Statement → Type 0
    SReads p b x t (ok a u) = StatementRead p b x t a u
    SReads p b x t (no outcome place) = Refusal edition s x t outcome place

    abbrev StatementReads : (Token → Read Statement) → ℕ → Type 0
    StatementReads f n = (p : List ℕ) (b : Braces) (x : Count) (t : Token) → Like edition s x t.kind (begin_move edition n p b t.kind) → SReads p b x t (f t)

    abbrev BodyReads : (Token → Read Statement) → ℕ → Type 0
    BodyReads f n = (p : List ℕ) (b : Braces) (t : Token) → SReads p b (body n p b) t (f t)

    s-earlier : (p : List ℕ) (b : Braces) (x : Count) (t : Token) (y : Count) (u : Token) (r : Read Statement) → Steps edition s x t y u → SReads p b y u r → SReads p b x t r
    s-earlier p b x t y u (ok a v) w g =
        record { pending = g.pending; state = g.state; steps = join edition s x t y u g.state (cond (ended a) (as_operand edition s v) v) w g.steps; stands = g.stands; own = g.own }
    s-earlier p b x t y u (no outcome place) w g = later edition s x t y u outcome place w g

    -- steps to where an operand may be: the token after what was read is read again
    abbrev pub Pauses : {A : Type 0} → Count → Count → Token → Read A → Type 0
    Pauses z x t (ok a u) = Steps edition s x t z (as_operand edition s u)
    Pauses z x t (no outcome place) = Refusal edition s x t outcome place

    pub pauses-map : {A B : Type 0} (f : A → B) (z x : Count) (t : Token) (r : Read A) → Pauses z x t r → Pauses z x t (map f r)
    pauses-map f z x t (ok a u) g = g
    pauses-map f z x t (no outcome place) g = g

    -- ---- `print`

    as-statement : {A : Type 0} (f : A → Statement) → ((a : A) → ended (f a) ≡ false) → (n : ℕ) (p : List ℕ) (b : Braces) (x : Count) (t : Token) (r : Read A)
        → Reads edition s (Whole edition s (statement n p b)) x t r → SReads p b x t (map f r)
    as-statement f e n p b x t (no outcome place) g = g
    as-statement f e n p b x t (ok a u) g =
        record {
          pending = p;
          state = g.0;
          steps = subst (λ (z : Bool). Steps edition s x t g.0 (cond z (as_operand edition s u) u)) (sym (e a)) g.1;
          stands = subst (λ (z : Bool). Stands z p b g.0) (sym (e a)) (subst (Stands false p b) (sym g.2.1) (stands-value edition g.2.0 n p b));
          own = inl refl;
        }

    listed-reads : (levels n : ℕ) → n + levels ≡ nesting_depth → (p : List ℕ) (b : Braces) (i : ℕ) (x : Count) (t : Token) (r : Read (List Expression)) → Reads edition s (Whole edition s (statement n p b)) x t r
        → Reads edition s (Whole edition s (statement n p b)) x t (listed edition s levels i r)
    unfolding listed rank
    listed-reads levels n m p b zero x t r g = g
    listed-reads levels n m p b (suc i) x t (no outcome place) g = g
    listed-reads levels n m p b (suc i) x t (ok es u) g =
        let c : Around = statement n p b in
        let v : Token = past_newlines edition s (token_after edition s u) in
        let element : Read Expression = expression_at edition s levels true v in
        let r : Read (List Expression) = map (λ e. es ++ (e ∷ [])) element in
        by-test (Reads edition s (Whole edition s c) x t) (is comma u) (listed edition s levels i r) (ok es u)
        (λ q. listed-reads levels n m p b i x t r
        (earlier edition s (Whole edition s c) x t g.0 u r g.1
        (earlier edition s (Whole edition s c) g.0 u (operand n n c) v r (to-line edition s g.0 u comma n n c q refl (ap (λ (y : Count). move edition y comma) g.2.1 ∙ list-comma g.2.0 n p b))
        (reads-map edition s (Whole edition s c) (Whole edition s c) (λ e. es ++ (e ∷ [])) (operand n n c) v element (λ a w y z. z)
        (expression-reads edition s levels n m true (operand n n c) v c (likely edition s (operand n n c) v.kind (operand_move edition n n c v.kind) (operand-is edition n n c v.kind)))))))
        (λ q. g)

    print-reads : (levels n : ℕ) → n + levels ≡ nesting_depth → (p : List ℕ) (b : Braces) (u : Token) → SReads p b (print_next n p b) u (print_at edition s levels u)
    unfolding print_at ended
    print-reads levels n m p b u =
        let c : Around = statement n p b in
        let one : Read (List Expression) = map (λ e. e ∷ []) (expression_at edition s levels true u) in
        by-test (SReads p b (print_next n p b) u) (starts_expression edition u.kind) (map print (listed edition s levels (length s) one)) (ok (print []) u)
        (λ q. as-statement print (λ a. refl) n p b (print_next n p b) u (listed edition s levels (length s) one)
        (listed-reads levels n m p b (length s) (print_next n p b) u one
        (reads-map edition s (Whole edition s c) (Whole edition s c) (λ e. e ∷ []) (print_next n p b) u (expression_at edition s levels true u) (λ a w y z. z)
        (expression-reads edition s levels n m true (print_next n p b) u c (likely edition s (print_next n p b) u.kind (operand_move edition n n c u.kind) (print-starts n p b u.kind q))))))
        (λ q. record { pending = p; state = print_next n p b; steps = stay (print_next n p b) u; stands = stands-print edition n p b; own = inl refl })

    -- ---- conditions and bodies

    closed-pauses : (n : ℕ) (p : List ℕ) (b : Braces) (x : Count) (o : Token) (r : Read Expression) → Reads edition s (Whole edition s (condition n p b)) x o r → Pauses (body n p b) x o (closed edition s r)
    unfolding closed rank
    closed-pauses n p b x o (no outcome place) g = g
    closed-pauses n p b x o (ok e t) g =
        by-test (Pauses (body n p b) x o) (is close_paren t) (ok e (token_after edition s t)) (refuse t)
        (λ q. join edition s x o g.0 t (body n p b) (operand_after edition s t) g.1
        (quietly edition s g.0 t close_paren (body n p b) q refl (ap (λ (y : Count). move edition y close_paren) g.2.1 ∙ condition-close g.2.0 n p b)))
        (λ q. later edition s x o g.0 t _ _ g.1 (refused edition s g.0 t))

    condition-reads : (levels n : ℕ) → n + levels ≡ nesting_depth → (p : List ℕ) (b : Braces) (u : Token) → Pauses (body n p b) (condition_next n p b) u (condition_at edition s levels u)
    unfolding condition_at rank
    condition-reads levels n m p b u =
        let r : Read Expression = inside edition s levels false expressions u (operand_after edition s u) in
        by-test (Pauses (body n p b) (condition_next n p b) u) (is open_paren u) (closed edition s r) (refuse u)
        (λ q. closed-pauses n p b (condition_next n p b) u r
        ((inside-reads edition s levels n m).whole false (condition_next n p b) u (condition n p b) (condition-is n p b u.kind) (known edition s (λ k. same k text_end ≡ false) u.kind open_paren q refl)))
        (λ q. refused edition s (condition_next n p b) u)

    body_reads : (f : Token → Read Statement) (n : ℕ) → BodyReads f n → (p : List ℕ) (b : Braces) (x : Count) (o t : Token) → Steps edition s x o (body n p b) (as_operand edition s t)
        → SReads p b x o (body_at edition s f t)
    body_reads f n h p b x o t w =
        let v : Token = past_newlines edition s t in
        s-earlier p b x o (body n p b) v (f v) (join edition s x o (body n p b) (as_operand edition s t) (body n p b) v w (lines edition s (body n p b) t refl (body-line n p b))) (h p b v)

    -- ---- `else`

    else-found : (i n : ℕ) (p : List ℕ) (q : Bool) (b : Braces) (t w : Token) → else_after edition s i true q t ≡ some w → Steps edition s (list (n ∷ p) q b) (as_operand edition s t) (body n p b) (as_operand edition s w)
    unfolding else_after among rank
    else-found zero n p q b t w = λ h. absurd (none-some h)
    else-found (suc i) n p q b t w =
        let x : Count = list (n ∷ p) q b in
        let E : Option Token → Type 0 = λ o. o ≡ some w → Steps edition s x (as_operand edition s t) (body n p b) (as_operand edition s w) in
        let v : Token = token_after edition s t in
        let back : (j : Kind) → is j t ≡ true → among Slashes j ≡ false → Steps edition s x t (body n p b) (as_operand edition s w) → Steps edition s x (as_operand edition s t) (body n p b) (as_operand edition s w) =
        λ j r e k. subst (λ (z : Token). Steps edition s x z (body n p b) (as_operand edition s w)) (sym (unread edition s j t r e)) k in
        by-test E (is newline t) (else_after edition s i true q v) _
        (λ r e. back newline r refl (join edition s x t x (as_operand edition s v) (body n p b) (as_operand edition s w) (quietly edition s x t newline x r refl (list-line (n ∷ p) q b)) (else-found i n p q b v w e)))
        (λ r. by-test E (is semicolon t && not q) (else_after edition s i true true v) _
        (λ r e.
        let two = and-true (is semicolon t) (not q) r in
        back semicolon two.0 refl (join edition s x t (list (n ∷ p) true b) (as_operand edition s v) (body n p b) (as_operand edition s w)
        (quietly edition s x t semicolon (list (n ∷ p) true b) two.0 refl (list-mark (n ∷ p) q b two.1)) (else-found i n p true b v w e)))
        (λ r. by-test E (is ELSE t && true) (some v) none
        (λ r e.
        let f : is ELSE t ≡ true = (and-true (is ELSE t) true r).0 in
        back ELSE f refl (subst (λ (z : Token). Steps edition s x t (body n p b) (as_operand edition s z)) (some_one refl e) (quietly edition s x t ELSE (body n p b) f refl (list-else n p q b))))
        (λ r e. absurd (none-some e))))

    else-ended : (i n : ℕ) (p : List ℕ) (b : Braces) (y : Count) (t w : Token) → Stands false (n ∷ p) b y → else_after edition s i false false t ≡ some w → Steps edition s y t (body n p b) (as_operand edition s w)
    unfolding else_after among rank
    else-ended zero n p b y t w h = λ e. absurd (none-some e)
    else-ended (suc i) n p b y t w h =
        let E : Option Token → Type 0 = λ o. o ≡ some w → Steps edition s y t (body n p b) (as_operand edition s w) in
        let v : Token = token_after edition s t in
        by-test E (is newline t) (else_after edition s i true false v) _
        (λ q e. join edition s y t (list (n ∷ p) false b) (as_operand edition s v) (body n p b) (as_operand edition s w) (quietly edition s y t newline (list (n ∷ p) false b) q refl (h newline refl)) (else-found i n p false b v w e))
        (λ q. by-test E (is semicolon t && true) (else_after edition s i true true v) _
        (λ q e. join edition s y t (list (n ∷ p) true b) (as_operand edition s v) (body n p b) (as_operand edition s w)
        (quietly edition s y t semicolon (list (n ∷ p) true b) (and-true (is semicolon t) true q).0 refl (h semicolon refl)) (else-found i n p true b v w e))
        (λ q. by-test E (is ELSE t && false) (some v) none (λ q e. absurd (clash (sym (and-true (is ELSE t) false q).1))) (λ q e. absurd (none-some e))))

    else-after : (z : Bool) (n : ℕ) (p : List ℕ) (b : Braces) (y : Count) (t w : Token) → Stands z (n ∷ p) b y → else_after edition s (length s) z false t ≡ some w
        → Steps edition s y (cond z (as_operand edition s t) t) (body n p b) (as_operand edition s w)
    else-after true n p b y t w h e = subst (λ (x : Count). Steps edition s x (as_operand edition s t) (body n p b) (as_operand edition s w)) (sym h) (else-found (length s) n p false b t w e)
    else-after false n p b y t w h e = else-ended (length s) n p b y t w h e

    -- ---- `if`, `while`

    s-map : (f : Statement → Statement) → ((a : Statement) → ended (f a) ≡ ended a) → (p : List ℕ) (b : Braces) (x : Count) (t : Token) (r : Read Statement) → SReads p b x t r → SReads p b x t (map f r)
    s-map f e p b x t (no outcome place) g = g
    s-map f e p b x t (ok a u) g =
        record {
          pending = g.pending;
          state = g.state;
          steps = subst (λ (z : Bool). Steps edition s x t g.state (cond z (as_operand edition s u) u)) (sym (e a)) g.steps;
          stands = subst (λ (z : Bool). Stands z g.pending b g.state) (sym (e a)) g.stands;
          own = subst (λ (z : Bool). (g.pending ≡ p) ⊎ (else_after edition s (length s) z false u ≡ none)) (sym (e a)) g.own;
        }

    module _ (f : Token → Read Statement) (n : ℕ) (h : BodyReads f n) where
      else-reads : (p : List ℕ) (b : Braces) (x : Count) (t : Token) (c : Expression) (a : Statement) (v : Token) (o : Option Token) → else_after edition s (length s) (ended a) false v ≡ o
          → StatementRead (n ∷ p) b x t a v → SReads p b x t (else_at edition s f c a v o)
      unfolding ended
      else-reads p b x t c a v none e g = record { pending = g.pending; state = g.state; steps = g.steps; stands = g.stands; own = inr e }
      else-reads p b x t c a v (some w) e g =
          let counted : g.pending ≡ n ∷ p = ⊎_elim (λ z. z) (λ z. absurd (none-some (sym z ∙ e))) g.own in
          let r = else-after (ended a) n p b g.state v w (subst (λ (k : List ℕ). Stands (ended a) k b g.state) counted g.stands) e in
          s-map (if-else c a) (λ d. refl) p b x t (body_at edition s f w)
          (body_reads f n h p b x t w (join edition s x t g.state (cond (ended a) (as_operand edition s v) v) (body n p b) (as_operand edition s w) g.steps r))

      then-reads : (p : List ℕ) (b : Braces) (x : Count) (t : Token) (c : Expression) (r : Read Statement) → SReads (n ∷ p) b x t r
          → SReads p b x t (bind r (λ a v. else_at edition s f c a v (else_after edition s (length s) (ended a) false v)))
      then-reads p b x t c (ok a v) g = else-reads p b x t c a v (else_after edition s (length s) (ended a) false v) refl g
      then-reads p b x t c (no outcome place) g = g

      if-conditioned : (p : List ℕ) (b : Braces) (x : Count) (t : Token) (r : Read Expression) → Pauses (body n (n ∷ p) b) x t r → SReads p b x t (bind r (then_at edition s f))
      if-conditioned p b x t (ok c u) g = then-reads p b x t c (body_at edition s f u) (body_reads f n h (n ∷ p) b x t u g)
      if-conditioned p b x t (no outcome place) g = g

      while-conditioned : (p : List ℕ) (b : Braces) (x : Count) (t : Token) (r : Read Expression) → Pauses (body n p b) x t r → SReads p b x t (bind r (λ c v. map (while c) (body_at edition s f v)))
      unfolding ended
      while-conditioned p b x t (ok c u) g = s-map (while c) (λ d. refl) p b x t (body_at edition s f u) (body_reads f n h p b x t u g)
      while-conditioned p b x t (no outcome place) g = g

      if-reads : (levels : ℕ) → n + levels ≡ nesting_depth → (p : List ℕ) (b : Braces) (u : Token) → SReads p b (condition_next n (n ∷ p) b) u (if_at edition s f levels u)
      unfolding if_at
      if-reads levels m p b u = if-conditioned p b (condition_next n (n ∷ p) b) u (condition_at edition s levels u) (condition-reads levels n m (n ∷ p) b u)

      while-reads : (levels : ℕ) → n + levels ≡ nesting_depth → (p : List ℕ) (b : Braces) (u : Token) → SReads p b (condition_next n p b) u (while_at edition s f levels u)
      unfolding while_at
      while-reads levels m p b u = while-conditioned p b (condition_next n p b) u (condition_at edition s levels u) (condition-reads levels n m p b u)

      -- ---- a statement

      abbrev BracesRead : (Token → Read Statement) → Type 0
      BracesRead braces = (p : List ℕ) (b : Braces) (x : Count) (t : Token) → is open_brace t ≡ true → move edition x t.kind ≡ moves (suc n) (list [] false (nested n p b)) → SReads p b x t (braces t)

      one-reads : (p : List ℕ) (b : Braces) (x : Count) (t : Token) (a : Statement) → ended a ≡ false → Steps edition s x t (after n (statement n p b)) (token_after edition s t)
          → StatementRead p b x t a (token_after edition s t)
      one-reads p b x t a e w =
          let v : Token = token_after edition s t in
          record {
            pending = p;
            state = after n (statement n p b);
            steps = subst (λ (z : Bool). Steps edition s x t (after n (statement n p b)) (cond z (as_operand edition s v) v)) (sym e) w;
            stands = subst (λ (z : Bool). Stands z p b (after n (statement n p b))) (sym e) (stands-value edition n n p b);
            own = inl refl;
          }

      statement-of-reads : (in_main : Bool) (levels : ℕ) → n + levels ≡ nesting_depth → (braces : Token → Read Statement) → BracesRead braces → StatementReads (statement_of edition s in_main levels f braces) n
      unfolding statement_of begin_move ended among rank
      statement-of-reads in_main levels m braces k p b x t e =
          let R : Read Statement → Type 0 = SReads p b x t in
          let v : Token = token_after edition s t in
          let M : Move = begin_move edition n p b t.kind in
          let begins : (j : Kind) (y : Count) → is j t ≡ true → same j text_end ≡ false → begin_move edition n p b j ≡ moves 0 y → Steps edition s x t y (cond (expects y) (operand_after edition s t) v) =
          λ j y q i z. passed edition s x t M y e (known edition s (λ i. begin_move edition n p b i ≡ moves 0 y) t.kind j q z) (known edition s (λ i. same i text_end ≡ false) t.kind j q i) in
          by-test R (is semicolon t) (ok empty v) _
          (λ q. record { pending = p; state = list p false b; steps = begins semicolon (list p false b) q refl refl; stands = refl; own = inl refl })
          (λ q1. by-test R (is open_brace t) (braces t) _
          (λ q. k p b x t q (like-opens edition s x t.kind M n (list [] false (nested n p b)) e (known edition s (λ i. begin_move edition n p b i ≡ moves (suc n) (list [] false (nested n p b))) t.kind open_brace q refl)))
          (λ q2. by-test R (is IF t) (if_at edition s f levels v) _
          (λ q. s-earlier p b x t (condition_next n (n ∷ p) b) v (if_at edition s f levels v) (begins IF (condition_next n (n ∷ p) b) q refl refl) (if-reads levels m p b v))
          (λ q3. by-test R (is WHILE t) (while_at edition s f levels v) _
          (λ q. s-earlier p b x t (condition_next n p b) v (while_at edition s f levels v) (begins WHILE (condition_next n p b) q refl refl) (while-reads levels m p b v))
          (λ q4. by-test R (is PRINT t) (print_at edition s levels (operand_after edition s t)) _
          (λ q. s-earlier p b x t (print_next n p b) (operand_after edition s t) (print_at edition s levels (operand_after edition s t)) (begins PRINT (print_next n p b) q refl refl) (print-reads levels n m p b (operand_after edition s t)))
          (λ q5. by-test R (is EXIT t) (ok exit-tree v) _ (λ q. one-reads p b x t exit-tree refl (begins EXIT (after n (statement n p b)) q refl refl))
          (λ q6. by-test R (is NEXT t && in_main) (ok next v) _ (λ q. one-reads p b x t next refl (begins NEXT (after n (statement n p b)) (and-true (is NEXT t) in_main q).0 refl refl))
          (λ q7. as-statement expression (λ a. refl) n p b x t (expression_at edition s levels false t)
          (expression-reads edition s levels n m false x t (statement n p b) (like-to edition s x t.kind M (operand_move edition n n (statement n p b) t.kind) e (value-begins n p b t.kind q1 q2 q3 q4 q5))))))))))

    -- ---- lists of statements

    -- a token that is refused as it was before it was read again
    pub refused-again : (x : Count) (o : Token) (y : Count) (t : Token) → Steps edition s x o y (as_operand edition s t) → Refusal edition s x o (refused_by t) t.start
    refused-again x o y t w = record { state = y; token = as_operand edition s t; steps = w; at = sym (operand_at t); why = λ e. absurd (no-level edition s t e) }

    closing : (y : Count) (t : Token) (b : Braces) → is close_brace t ≡ true → move edition y close_brace ≡ moves 0 (closed-count b) → Steps edition s y t (closed-count b) (operand_after edition s t)
    unfolding rank
    closing y t action q e = quietly edition s y t close_brace (closed-count action) q refl e
    closing y t (nested n p b) q e = quietly edition s y t close_brace (closed-count (nested n p b)) q refl e

    no_slash : (among Slashes close_brace ≡ false) × (among Slashes newline ≡ false) × (among Slashes semicolon ≡ false) × (among Slashes ELSE ≡ false)
    unfolding among rank
    no_slash = (refl, refl, refl, refl)

    lone-followed : (rest : Token → Read Statement) (z x : Count) (o v : Token) → Pauses z x o (rest v) → Pauses z x o (followed edition s rest (ok empty v))
    unfolding followed ended
    lone-followed rest z x o v g = pauses-map (sequence empty) z x o (rest v) g

    dead-followed : (rest : Token → Read Statement) (z x : Count) (o t : Token) → Steps edition s x o z t → (y : Count) → Pauses y x o (followed edition s rest (refuse t))
    unfolding followed
    dead-followed rest z x o t w y = later edition s x o z t _ _ w (refused edition s z t)

    as-block : (p : List ℕ) (b : Braces) (x : Count) (t : Token) (r : Read Statement) → Pauses (list p false b) x t r → SReads p b x t (map block r)
    unfolding ended
    as-block p b x t (ok a u) g = record { pending = p; state = list p false b; steps = g; stands = refl; own = inl refl }
    as-block p b x t (no outcome place) g = g

    ends-list : (p : List ℕ) (b : Braces) (k : Kind) → among enders k ≡ true → (finish p b k ≡ moves 0 (list p (same k semicolon) b)) × (among stops k ≡ true) × (same k text_end ≡ false)
    unfolding among rank
    ends-list p b k q = each (λ k. (finish p b k ≡ moves 0 (list p (same k semicolon) b)) × (among stops k ≡ true) × (same k text_end ≡ false)) enders ((refl, refl, refl), ((refl, refl, refl), tt)) k q

    module _ (n : ℕ) (reader : Token → Read Statement) (h : StatementReads reader n) (semi : (t : Token) → is semicolon t ≡ true → reader t ≡ ok empty (token_after edition s t))
        (dead : (t : Token) → is ELSE t ≡ true → reader t ≡ refuse t) where
      abbrev ListReads : ℕ → Type 0
      ListReads i = (p : List ℕ) (q : Bool) (b : Braces) (x : Count) (o t : Token) → level_of b ≡ n → Steps edition s x o (list p q b) (as_operand edition s t)
          → Pauses (closed-count b) x o (statements edition s reader i t)

      brace-reads : (i : ℕ) (b : Braces) (x : Count) (o : Token) (y : Count) (t : Token) → is close_brace t ≡ true → Steps edition s x o y t → move edition y close_brace ≡ moves 0 (closed-count b)
          → Pauses (closed-count b) x o (statements edition s reader i t)
      unfolding statements
      brace-reads zero b x o y t q w e = later edition s x o y t _ _ w (refused edition s y t)
      brace-reads (suc i) b x o y t q w e =
          by-test (Pauses (closed-count b) x o) (is close_brace t) (ok empty (token_after edition s t)) _
          (λ q. join edition s x o y t (closed-count b) (operand_after edition s t) w (closing y t b q e)) (λ r. absurd (clash (sym q ∙ r)))

      followed-reads : (i : ℕ) → ListReads i → (b : Braces) (x : Count) (o : Token) (r : Read Statement) → level_of b ≡ n → SReads [] b x o r
          → Pauses (closed-count b) x o (followed edition s (statements edition s reader i) r)
      unfolding followed among rank
      followed-reads i rest b x o (no outcome place) m g = g
      followed-reads i rest b x o (ok c u) m g =
          let P : Read Statement → Type 0 = Pauses (closed-count b) x o in
          let v : Token = token_after edition s u in
          by-test P (ended c) (map (sequence c) (statements edition s reader i u)) _
          (λ e.
          let w : Steps edition s x o g.state (as_operand edition s u) = subst (λ (z : Bool). Steps edition s x o g.state (cond z (as_operand edition s u) u)) e g.steps in
          let y : g.state ≡ list g.pending false b = subst (λ (z : Bool). Stands z g.pending b g.state) e g.stands in
          pauses-map (sequence c) (closed-count b) x o (statements edition s reader i u) (rest g.pending false b x o u m (subst (λ (q : Count). Steps edition s x o q (as_operand edition s u)) y w)))
          (λ e.
          let w : Steps edition s x o g.state u = subst (λ (z : Bool). Steps edition s x o g.state (cond z (as_operand edition s u) u)) e g.steps in
          let y : Stands false g.pending b g.state = subst (λ (z : Bool). Stands z g.pending b g.state) e g.stands in
          by-test P (is_one_of enders u) (map (sequence c) (statements edition s reader i v)) _
          (λ q.
          let z : Count = list g.pending (same u.kind semicolon) b in
          let k = ends-list g.pending b u.kind q in
          pauses-map (sequence c) (closed-count b) x o (statements edition s reader i v)
          (rest g.pending (same u.kind semicolon) b x o v m
          (join edition s x o g.state u z (operand_after edition s u) w (pass edition s g.state u 0 z (y u.kind k.1 ∙ k.0) (omega arith) k.2))))
          (λ q. by-test P (is close_brace u) (map (sequence c) (statements edition s reader i u)) (refuse u)
          (λ r. pauses-map (sequence c) (closed-count b) x o (statements edition s reader i u) (brace-reads i b x o g.state u r w (y close_brace refl)))
          (λ r. later edition s x o g.state u _ _ w (refused edition s g.state u))))

      stated-reads : (i : ℕ) → ListReads i → (p : List ℕ) (q : Bool) (b : Braces) (x : Count) (o t : Token) → level_of b ≡ n → Steps edition s x o (list p q b) (as_operand edition s t)
          → is close_brace t ≡ false → is newline t ≡ false → (c : Bool) → is semicolon t ≡ c → (e : Bool) → is ELSE t ≡ e
          → Pauses (closed-count b) x o (followed edition s (statements edition s reader i) (reader (as_operand edition s t)))
      unfolding rank
      stated-reads i rest p q b x o t m w q1 q2 true c e f =
          let v : Token = token_after edition s t in
          let own : as_operand edition s t ≡ t = unread edition s semicolon t c no_slash.2 in
          let z = lone edition p q b in
          subst (λ (r : Read Statement). Pauses (closed-count b) x o (followed edition s (statements edition s reader i) r)) (sym (ap reader own ∙ semi t c))
          (lone-followed (statements edition s reader i) (closed-count b) x o v (rest z.0 z.1 b x o v m
          (join edition s x o (list p q b) t (list z.0 z.1 b) (operand_after edition s t) (subst (λ (u : Token). Steps edition s x o (list p q b) u) own w) (quietly edition s (list p q b) t semicolon (list z.0 z.1 b) c refl z.2))))
      stated-reads i rest p q b x o t m w q1 q2 false c true f =
          let own : as_operand edition s t ≡ t = unread edition s ELSE t f no_slash.3 in
          subst (λ (r : Read Statement). Pauses (closed-count b) x o (followed edition s (statements edition s reader i) r)) (sym (ap reader own ∙ dead t f))
          (dead-followed (statements edition s reader i) (list p q b) x o t (subst (λ (u : Token). Steps edition s x o (list p q b) u) own w) (closed-count b))
      stated-reads i rest p q b x o t m w q1 q2 false c false f =
          let u : Token = as_operand edition s t in
          followed-reads i rest b x o (reader u) m
          (s-earlier [] b x o (list p q b) u (reader u) w
          (h [] b (list p q b) u (likely edition s (list p q b) u.kind (begin_move edition n [] b u.kind)
          (list-first edition p q b u.kind (operand-test edition s newline t (refl, refl, refl, refl, refl) ∙ q2) (operand-test edition s close_brace t (refl, refl, refl, refl, refl) ∙ q1)
          (operand-test edition s ELSE t (refl, refl, refl, refl, refl) ∙ f) (operand-test edition s semicolon t (refl, refl, refl, refl, refl) ∙ c)
          ∙ ap (λ (k : ℕ). begin_move edition k [] b u.kind) m))))

      statements-read : (i : ℕ) → ListReads i
      unfolding statements rank
      statements-read zero p q b x o t m w = refused-again x o (list p q b) t w
      statements-read (suc i) p q b x o t m w =
          let P : Read Statement → Type 0 = Pauses (closed-count b) x o in
          let z : Count = list p q b in
          let v : Token = token_after edition s t in
          let at : (j : Kind) → is j t ≡ true → among Slashes j ≡ false → Steps edition s x o z t = λ j r k. subst (λ (u : Token). Steps edition s x o z u) (unread edition s j t r k) w in
          by-test P (is close_brace t) (ok empty v) _
          (λ r. join edition s x o z t (closed-count b) (operand_after edition s t) (at close_brace r no_slash.0) (closing z t b r (list_close p q b)))
          (λ r1. by-test P (is newline t) (statements edition s reader i v) _
          (λ r. statements-read i p q b x o v m (join edition s x o z t z (operand_after edition s t) (at newline r no_slash.1) (quietly edition s z t newline z r refl (list-line p q b))))
          (λ r2. stated-reads i (statements-read i) p q b x o t m w r1 r2 (is semicolon t) refl (is ELSE t) refl))

      -- a block from its `{` on
      pub block_reads : (b : Braces) (x : Count) (t : Token) → level_of b ≡ n → n ≤ nesting_depth → is open_brace t ≡ true → move edition x t.kind ≡ moves n (list [] false b)
          → Pauses (closed-count b) x t (block_of edition s reader t)
      unfolding block_of rank
      block_reads b x t m i q e =
          pauses-map block (closed-count b) x t (statements edition s reader (suc (length s)) (token_after edition s t))
          (statements-read (suc (length s)) [] false b x t (token_after edition s t) m
          (pass edition s x t n (list [] false b) e i (known edition s (λ c. same c text_end ≡ false) t.kind open_brace q refl)))

      braces-read : (o : ℕ) → n ≡ suc o → n ≤ nesting_depth → (p : List ℕ) (b : Braces) (x : Count) (t : Token) → is open_brace t ≡ true → move edition x t.kind ≡ moves (suc o) (list [] false (nested o p b))
          → SReads p b x t (block_of edition s reader t)
      unfolding block_of rank
      braces-read o e i p b x t q h =
          as-block p b x t (statements edition s reader (suc (length s)) (token_after edition s t))
          (statements-read (suc (length s)) [] false (nested o p b) x t (token_after edition s t) (sym e)
          (pass edition s x t (suc o) (list [] false (nested o p b)) h (omega (arith, i, e)) (known edition s (λ c. same c text_end ≡ false) t.kind open_brace q refl)))

    -- ---- levels

    starts-line : (in_main : Bool) → starts_statement edition in_main newline ≡ false
    unfolding starts_statement among rank
    starts-line in_main = rw (quiet-starts edition newline refl, and-false in_main)

    no-body-reads : (in_main : Bool) (n : ℕ) → n ≡ nesting_depth → BodyReads (no_body edition in_main) n
    unfolding no_body
    no-body-reads in_main n e p b t =
        by-test (SReads p b (body n p b) t) (starts_statement edition in_main t.kind) (too_deep t) (refuse t)
        (λ q. too-deep edition s (body n p b) t (body-level n p b t.kind e (decide q (is newline t) refl))) (λ q. refused edition s (body n p b) t)
      where
        decide : starts_statement edition in_main t.kind ≡ true → (c : Bool) → is newline t ≡ c → is newline t ≡ false
        decide q false r = r
        decide q true r = absurd (clash (sym q ∙ (ap (starts_statement edition in_main) (same-is t.kind newline r) ∙ starts-line in_main)))

    statement-semi : (in_main : Bool) (levels : ℕ) (t : Token) → is semicolon t ≡ true → statement_at edition s in_main levels t ≡ ok empty (token_after edition s t)
    unfolding statement_at statement_of
    statement-semi in_main zero t q = rw q
    statement-semi in_main (suc levels) t q = rw q

    statement-else : (in_main : Bool) (levels : ℕ) (t : Token) → is ELSE t ≡ true → statement_at edition s in_main levels t ≡ refuse t
    unfolding among rank
    statement-else in_main levels t q = dead-statement in_main levels t (known edition s (λ k. among (newline ∷ ELSE ∷ []) k ≡ true) t.kind ELSE q refl)

    line-body : (in_main : Bool) (levels : ℕ) (p : List ℕ) (b : Braces) (x : Count) (t : Token) → is newline t ≡ true → SReads p b x t (statement_at edition s in_main levels t)
    unfolding among rank
    line-body in_main levels p b x t q =
        subst (SReads p b x t) (sym (dead-statement in_main levels t (known edition s (λ k. among (newline ∷ ELSE ∷ []) k ≡ true) t.kind newline q refl))) (refused edition s x t)

    body_of : (in_main : Bool) (levels n : ℕ) → suc n ≤ nesting_depth → StatementReads (statement_at edition s in_main levels) (suc n) → BodyReads (statement_at edition s in_main levels) n
    body_of in_main levels n i h p b t = decide (is newline t) refl
      where
        decide : (c : Bool) → is newline t ≡ c → SReads p b (body n p b) t (statement_at edition s in_main levels t)
        decide true q = line-body in_main levels p b (body n p b) t q
        decide false q = h p b (body n p b) t (suc n, i, body-first edition n p b t.kind q)

    pub statement-reads : (in_main : Bool) (levels n : ℕ) → n + levels ≡ nesting_depth → StatementReads (statement_at edition s in_main levels) n
    unfolding statement_at
    statement-reads in_main zero n m p b x t h =
        statement-of-reads (no_body edition in_main) n (no-body-reads in_main n (omega (arith, m))) in_main zero m too_deep
        (λ p b x t q e. too-deep edition s x t (over x t (list [] false (nested n p b)) e)) p b x t h
      where
        over : (x : Count) (o : Token) (y : Count) → move edition x o.kind ≡ moves (suc n) y → nesting_depth < (move edition x o.kind).level
        over x o y h = let e : (move edition x o.kind).level ≡ suc n = ap (λ (m : Move). m.level) h in omega (arith, e, m)
    statement-reads in_main (suc levels) n m p b x t h =
        let j : suc n + levels ≡ nesting_depth = omega (arith, m) in
        let inner : StatementReads (statement_at edition s in_main levels) (suc n) = statement-reads in_main levels (suc n) j in
        statement-of-reads (statement_at edition s in_main levels) n (body_of in_main levels n (omega (arith, j)) inner) in_main (suc levels) m (block_of edition s (statement_at edition s in_main levels))
        (braces-read (suc n) (statement_at edition s in_main levels) inner (statement-semi in_main levels) (statement-else in_main levels) n refl (omega (arith, j))) p b x t h

    -- an action's block
    pub action-reads : (in_main : Bool) (levels : ℕ) → 1 + levels ≡ nesting_depth → (x : Count) (t : Token) → is open_brace t ≡ true → move edition x t.kind ≡ moves 1 (list [] false action)
        → Pauses (closed-count action) x t (block_of edition s (statement_at edition s in_main levels) t)
    action-reads in_main levels m x t q e =
        block_reads 1 (statement_at edition s in_main levels) (statement-reads in_main levels 1 m) (statement-semi in_main levels) (statement-else in_main levels) action x t refl (omega (arith, m)) q e
