-- The reader of statements, beside the machine.
use mathlib.Core.Path.{◌≡◌, refl, sym, ap, subst, ◌∙◌}
use mathlib.Core.Bool.{Bool, true, false, not, cond, ◌&&◌, ◌||◌}
use mathlib.Core.List.{List, [], ◌∷◌, ◌++◌}
use mathlib.Core.Option.{Option, some, none}
use mathlib.Core.Logic.{◌⊎◌, inl, inr, ⊎_elim}
use Prim.Native.Nat.{ℕ, zero, suc, ◌+◌, ◌≤◌, ◌<◌}
use native.Mathlib.Omega.{arith}
use lib.ListN.{length}
use Rattle.lists.proofs.Tests.{clash, and-true, or-false, or_cases}
use Rattle.lists.proofs.Options.{none-some, some_one}
use Rattle.program_tokens.specs.Kinds.{Kind, text_end, newline, ERE, IF, ELSE, WHILE, PRINT, NEXT, EXIT, open_brace, close_brace, open_paren, close_paren, comma, semicolon, same, among, rank}
use Rattle.program_tokens.specs.Tokens.{Token, is, is_one_of, token_after, as_operand}
use Rattle.program_tokens.proofs.Ranks.{same-is}
use Rattle.program_tree.specs.Tree.{Expression, Statement, expression, print, if-else, while, block, next, exit as exit-tree, empty, sequence}
use Rattle.program_grammar.specs.Sets.{enders, starts_expression, starts_statement}
use Rattle.program_reader.specs.Read.{Read, ok, no, map, bind, too_deep, operand_after, past_newlines}
use Rattle.program_reader.specs.Operators.{expressions}
use Rattle.program_reader.specs.Expressions.{closed, inside, expression_at}
use Rattle.program_reader.specs.Statements.{ended, no_body, listed as listed_of, print_at, condition_at, else_after, body_at, else_at, then_at, if_at, while_at, statement_of, followed, statements, block_of, statement_at}
use Rattle.program_parser.specs.Reading.{Good as InText}
use Rattle.program_parser.proofs.Tokens.{Slashes, good-operand}
use Rattle.program_exact.specs.Machine.{Mode, fresh, plain, Blocks, action, nested, Context, condition, value, listed, pattern, State, between, operand, operand_line, after, condition_next, body, print_next, finished, list, main_of, closed as closed-state, else_step, finished_step, exit, operand_step, begin_step, list_step, step}
use Rattle.program_exact.proofs.Facts.{each, by-test, idle-operand, operand-starts, nothing-starts}
use Rattle.program_exact.proofs.Walks.{Walk, stay, walk-join, pass, pass-operand, after-in, operand_in, operand-after-in, onward-after, onward-operand, at-end, operand-still, operand-test}
use Rattle.program_exact.proofs.Readings.{ere-operand, ere-body, ere-list, ere-print, ere-between, condition-ere, finished-ere, Refusal, Reads, refused, too-deep, later, earlier, reads-map, reads-weaken, single, lines-in}
use Rattle.program_exact.proofs.Operands.{Whole, known}
use Rattle.program_exact.proofs.Tiers.{Enough, enough-map, enough-all, line_reads, inside-reads, expression-reads}

and-swap : (a b : Bool) → (a && b) ≡ (b && a)
and-swap true true = refl
and-swap true false = refl
and-swap false true = refl
and-swap false false = refl

module _ (edition : ℕ) (s : List ℕ) where
  -- a walk to a state where an operand may be: the token after what was read is read again
  pub record Paused (z x : State) (t : Token) (p : ℕ) (u : Token) : Type 0 where
    pub walk : Walk edition s x t z (as_operand edition s u)
    pub good : InText edition s 0 u
    pub onward : p ≤ u.start

  abbrev pub Pauses : {A : Type 0} → State → State → Token → ℕ → Read A → Type 0
  Pauses z x t p (ok a u) = Paused z x t p u
  Pauses z x t p (no outcome place) = Refusal edition s x t outcome place

  pub pauses-map : {A B : Type 0} (f : A → B) (z x : State) (t : Token) (p : ℕ) (r : Read A) → Pauses z x t p r → Pauses z x t p (map f r)
  pauses-map f z x t p (ok a u) g = g
  pauses-map f z x t p (no outcome place) g = g

  -- a token of a known kind is not read again
  pub unread : (j : Kind) (t : Token) → is j t ≡ true → among Slashes j ≡ false → as_operand edition s t ≡ t
  unread j t e h = operand-still edition s t (known edition s (λ k. among Slashes k ≡ false) t.kind j e h)

  -- ---- what is said of a statement

  abbrev Stands : Bool → ℕ → Blocks → State → Kind → Type 0
  Stands true n b y k = y ≡ list n false b
  Stands false n b y k = step edition y k ≡ finished_step n b k

  pub record StatementRead (n : ℕ) (b : Blocks) (x : State) (t : Token) (p : ℕ) (a : Statement) (u : Token) : Type 0 where
    pub pending : ℕ
    pub state : State
    pub walk : Walk edition s x t state (cond (ended a) (as_operand edition s u) u)
    pub good : InText edition s 0 u
    pub onward : p ≤ u.start
    pub stands : Stands (ended a) pending b state u.kind
    -- the `if`s before it that can have an `else` are those before the statement, or no `else` follows
    pub own : (pending ≡ n) ⊎ (else_after edition s (length s) (ended a) false u ≡ none)

  abbrev pub SReads : ℕ → Blocks → State → Token → ℕ → Read Statement → Type 0
  SReads n b x t p (ok a u) = StatementRead n b x t p a u
  SReads n b x t p (no outcome place) = Refusal edition s x t outcome place

  abbrev pub StatementReads : Bool → (Token → Read Statement) → Type 0
  StatementReads in_main f = (n : ℕ) (b : Blocks) (x : State) (t : Token) → main_of b ≡ in_main → InText edition s 0 t → step edition x t.kind ≡ begin_step edition n b t.kind
      → SReads n b x t (suc t.start) (f t)

  s-earlier : (n : ℕ) (b : Blocks) (x : State) (t : Token) (y : State) (u : Token) (p q : ℕ) (r : Read Statement) → Walk edition s x t y u → p ≤ q → SReads n b y u q r → SReads n b x t p r
  s-earlier n b x t y u p q (ok a v) w h g =
      record {
        pending = g.pending;
        state = g.state;
        walk = walk-join edition s x t y u g.state (cond (ended a) (as_operand edition s v) v) w g.walk;
        good = g.good;
        onward = omega (arith, g.onward);
        stands = g.stands;
        own = g.own;
      }
  s-earlier n b x t y u p q (no outcome place) w h g = later edition s x t y u outcome place w g

  -- ---- `print`

  whole-finished : (n : ℕ) (b : Blocks) (k : Kind) → same k comma ≡ false → exit (listed n b) k ≡ finished_step n b k
  unfolding exit
  whole-finished n b k e = rw e

  comma-step : (n : ℕ) (b : Blocks) (k : Kind) → same k comma ≡ true → exit (listed n b) k ≡ some (operand_line fresh (listed n b))
  unfolding exit
  comma-step n b k e = rw e

  -- after a print list
  abbrev Listing : ℕ → Blocks → List Expression → Token → State → Type 0
  Listing n b es u y = step edition y u.kind ≡ finished_step n b u.kind

  listed-reads : (levels n : ℕ) (b : Blocks) (i : ℕ) (x : State) (t : Token) (p : ℕ) (r : Read (List Expression)) → Enough edition s i r
      → Reads edition s (λ es u y. step edition y u.kind ≡ exit (listed n b) u.kind) x t p r → Reads edition s (Listing n b) x t p (listed_of edition s levels i r)
  unfolding listed_of rank
  listed-reads levels n b zero x t p (no outcome place) h g = g
  listed-reads levels n b zero x t p (ok es u) h g =
      let last : same u.kind text_end ≡ true = at-end edition s u g.good (omega (arith, h)) in
      record { state = g.state; walk = g.walk; good = g.good; onward = g.onward; fact = g.fact ∙ whole-finished n b u.kind (known edition s (λ k. same k comma ≡ false) u.kind text_end last refl) }
  listed-reads levels n b (suc i) x t p (no outcome place) h g = g
  listed-reads levels n b (suc i) x t p (ok es u) h g =
      let v : Token = past_newlines edition s (token_after edition s u) in
      let below : Token → Read Expression = λ w. expression_at edition s levels true w in
      let more : Read (List Expression) = map (λ e. es ++ (e ∷ [])) (below v) in
      by-test (Reads edition s (Listing n b) x t p) (is comma u) (listed_of edition s levels i more) (ok es u)
      (λ q.
      let element : Reads edition s (Whole edition s (listed n b)) g.state u (suc u.start) (below v) =
      line_reads edition s (Whole edition s (listed n b)) g.state fresh (listed n b) u below g.good (known edition s (λ k. same k text_end ≡ false) u.kind comma q refl)
      (g.fact ∙ comma-step n b u.kind q) (λ w k z. expression-reads edition s levels true (listed n b) (operand_line fresh (listed n b)) w refl k z) in
      listed-reads levels n b i x t p more (enough-map edition s (Whole edition s (listed n b)) (λ e. es ++ (e ∷ [])) i g.state u (below v) h element)
      (earlier edition s (λ es u y. step edition y u.kind ≡ exit (listed n b) u.kind) x t g.state u p (suc u.start) more g.walk (omega (arith, g.onward))
      (reads-map edition s (Whole edition s (listed n b)) (λ es u y. step edition y u.kind ≡ exit (listed n b) u.kind) (λ e. es ++ (e ∷ [])) g.state u (suc u.start) (below v) (λ a v y f. f) element)))
      (λ q. record { state = g.state; walk = g.walk; good = g.good; onward = g.onward; fact = g.fact ∙ whole-finished n b u.kind q })

  print-starts : (n : ℕ) (b : Blocks) (k : Kind) → starts_expression edition k ≡ true → step edition (print_next n b) k ≡ operand_step edition fresh (listed n b) k
  unfolding step
  print-starts n b k e = rw e

  print-ends : (n : ℕ) (b : Blocks) (k : Kind) → starts_expression edition k ≡ false → step edition (print_next n b) k ≡ finished_step n b k
  unfolding step
  print-ends n b k e = rw e

  as-statement : {A : Type 0} (f : A → Statement) → ((a : A) → ended (f a) ≡ false) → (n : ℕ) (b : Blocks) (x : State) (t : Token) (p : ℕ) (r : Read A)
      → Reads edition s (λ a u y. step edition y u.kind ≡ finished_step n b u.kind) x t p r → SReads n b x t p (map f r)
  as-statement f e n b x t p (no outcome place) g = g
  as-statement f e n b x t p (ok a u) g =
      record {
        pending = n;
        state = g.state;
        walk = subst (λ (z : Bool). Walk edition s x t g.state (cond z (as_operand edition s u) u)) (sym (e a)) g.walk;
        good = g.good;
        onward = g.onward;
        stands = subst (λ (z : Bool). Stands z n b g.state u.kind) (sym (e a)) g.fact;
        own = inl refl;
      }

  print-reads : (levels n : ℕ) (b : Blocks) (u : Token) → InText edition s 0 u → SReads n b (print_next n b) u u.start (print_at edition s levels u)
  unfolding print_at ended
  print-reads levels n b u g =
      let one : Read (List Expression) = map (λ e. e ∷ []) (expression_at edition s levels true u) in
      by-test (SReads n b (print_next n b) u u.start) (starts_expression edition u.kind) (map print (listed_of edition s levels (length s) one)) (ok (print []) u)
      (λ q.
      as-statement print (λ a. refl) n b (print_next n b) u u.start (listed_of edition s levels (length s) one)
      (listed-reads levels n b (length s) (print_next n b) u u.start one (enough-all edition s one)
      (reads-map edition s (Whole edition s (listed n b)) (λ es v y. step edition y v.kind ≡ exit (listed n b) v.kind) (λ e. e ∷ []) (print_next n b) u u.start (expression_at edition s levels true u) (λ a v y f. f)
      (reads-weaken edition s (Whole edition s (listed n b)) (Whole edition s (listed n b)) (print_next n b) u u.start (suc u.start) (expression_at edition s levels true u) (λ a v y f. f) (omega arith)
      (expression-reads edition s levels true (listed n b) (print_next n b) u refl g (print-starts n b u.kind q))))))
      (λ q. record { pending = n; state = print_next n b; walk = stay (print_next n b) u; good = g; onward = omega arith; stands = print-ends n b u.kind q; own = inl refl })

  -- ---- conditions and bodies

  pub operand-start : (t : Token) → InText edition s 0 t → t.start ≤ (as_operand edition s t).start
  operand-start t g =
      (good-operand edition s t.start t (record { after = omega arith; ordered = g.ordered; within = g.within; longer = g.longer; placed = g.placed })).after

  closed-pauses : (c : Context) (x z v : State) (o : Token) (p : ℕ) (r : Read Expression) → ((k : Kind) → exit c k ≡ cond (same k close_paren) (some z) none)
      → step edition z ERE ≡ some v → Reads edition s (Whole edition s c) x o p r → Pauses z x o p (closed edition s r)
  unfolding closed rank
  closed-pauses c x z v o p (no outcome place) h n g = g
  closed-pauses c x z v o p (ok e t) h n g =
      let at : step edition g.state t.kind ≡ cond (same t.kind close_paren) (some z) none = g.fact ∙ h t.kind in
      by-test (Pauses z x o p) (is close_paren t) (ok e (token_after edition s t)) (no _ _)
      (λ q.
      let on : t.start < (token_after edition s t).start = onward-after edition s t g.good (known edition s (λ k. same k text_end ≡ false) t.kind close_paren q refl) in
      record {
        walk = walk-join edition s x o g.state t z (operand_after edition s t) g.walk (pass-operand edition s g.state t z v (at ∙ rw q) n);
        good = after-in edition s t g.good;
        onward = omega (arith, g.onward, on);
      })
      (λ q. later edition s x o g.state t _ _ g.walk (refused edition s g.state t (at ∙ rw q)))

  pub condition-reads : (levels n : ℕ) (b : Blocks) (u : Token) → InText edition s 0 u → Pauses (body n b) (condition_next n b) u (suc u.start) (condition_at edition s levels u)
  unfolding condition_at step exit rank
  condition-reads levels n b u g =
      let x : State = condition_next n b in
      let y : State = operand fresh (condition n b) in
      let v : Token = operand_after edition s u in
      let r : Read Expression = inside edition s levels false expressions u v in
      by-test (Pauses (body n b) x u (suc u.start)) (is open_paren u) (closed edition s r) (no _ _)
      (λ q.
      let o : step edition x u.kind ≡ some y = rw q in
      let on : u.start < v.start = onward-operand edition s u g (known edition s (λ k. same k text_end ≡ false) u.kind open_paren q refl) in
      closed-pauses (condition n b) x (body n b) (after plain (value n b)) u (suc u.start) r (λ k. refl) (ere-body edition n b)
      (reads-weaken edition s (Whole edition s (condition n b)) (Whole edition s (condition n b)) x u (suc u.start) (suc v.start) r (λ a w z f. f) (omega (arith, on))
      ((inside-reads edition s levels).whole false (condition n b) x u y v refl
      (record { next = y; opens = o; walk = pass-operand edition s x u y (after plain (condition n b)) o (ere-operand edition fresh (condition n b)); opener = g; good = operand-after-in edition s u g }) refl)))
      (λ q. refused edition s x u (rw q))

  body-first : (n : ℕ) (b : Blocks) (k : Kind) → same k newline ≡ false → step edition (body n b) k ≡ begin_step edition n b k
  unfolding step
  body-first n b k e = rw e

  body-line : (n : ℕ) (b : Blocks) → step edition (body n b) newline ≡ some (body n b)
  unfolding step rank
  body-line n b = refl

  body_reads : (in_main : Bool) (f : Token → Read Statement) → StatementReads in_main f → (n : ℕ) (b : Blocks) (x : State) (o : Token) (p : ℕ) (t : Token) → main_of b ≡ in_main
      → Paused (body n b) x o p t → SReads n b x o p (body_at edition s f t)
  body_reads in_main f h n b x o p t m g =
      let i = lines-in edition s (body n b) (after plain (value n b)) (body-line n b) (ere-body edition n b) (length s) t g.good (omega arith) in
      let v : Token = past_newlines edition s t in
      s-earlier n b x o (body n b) v p (suc v.start) (f v) (walk-join edition s x o (body n b) (as_operand edition s t) (body n b) v g.walk i.0)
      (omega (arith, i.2, operand-start t g.good, g.onward)) (h n b (body n b) v m i.1 (body-first n b v.kind i.3))

  -- ---- `else`

  abbrev Elses : State → Token → ℕ → Blocks → Token → Type 0
  Elses y t n b w = (Walk edition s y t (body n b) (as_operand edition s w)) × (InText edition s 0 w) × (t.start ≤ w.start)

  list-line : (n : ℕ) (p : Bool) (b : Blocks) → step edition (list n p b) newline ≡ some (list n p b)
  unfolding step list_step rank
  list-line n p b = refl

  list-mark : (n : ℕ) (p : Bool) (b : Blocks) → not p ≡ true → step edition (list n p b) semicolon ≡ some (list n true b)
  unfolding step list_step rank
  list-mark n p b e = rw e

  list-else : (n : ℕ) (p : Bool) (b : Blocks) → step edition (list (suc n) p b) ELSE ≡ some (body n b)
  unfolding step list_step rank
  list-else n p b = refl

  -- one token of a list, and the next
  list-pass : (x : State) (n : ℕ) (p : Bool) (b : Blocks) (j : Kind) (t : Token) → is j t ≡ true → step edition x j ≡ some (list n p b) → Walk edition s x t (list n p b) (operand_after edition s t)
  list-pass x n p b j t q h =
      pass-operand edition s x t (list n p b) (after plain (value 0 b)) (ap (step edition x) (same-is t.kind j q) ∙ h) (ere-list edition n p b)

  else-found : (i n : ℕ) (p : Bool) (b : Blocks) (t w : Token) → InText edition s 0 t → else_after edition s i true p t ≡ some w → Elses (list (suc n) p b) (as_operand edition s t) n b w
  unfolding else_after among rank
  else-found zero n p b t w g = λ h. absurd (none-some h)
  else-found (suc i) n p b t w g =
      let x : State = list (suc n) p b in
      let E : Option Token → Type 0 = λ o. o ≡ some w → Elses x (as_operand edition s t) n b w in
      let v : Token = token_after edition s t in
      let back : (j : Kind) → is j t ≡ true → among Slashes j ≡ false → Elses x t n b w → Elses x (as_operand edition s t) n b w =
      λ j q e k. subst (λ (z : Token). Elses x z n b w) (sym (unread j t q e)) k in
      let on : (j : Kind) → is j t ≡ true → same j text_end ≡ false → t.start < (operand_after edition s t).start =
      λ j q e. onward-operand edition s t g (known edition s (λ k. same k text_end ≡ false) t.kind j q e) in
      by-test E (is newline t) (else_after edition s i true p v) _
      (λ q e.
      let r = else-found i n p b v w (after-in edition s t g) e in
      back newline q refl (walk-join edition s x t x (as_operand edition s v) (body n b) (as_operand edition s w) (list-pass x (suc n) p b newline t q (list-line (suc n) p b)) r.0, r.1, omega (arith, r.2, on newline q refl)))
      (λ q. by-test E (is semicolon t && not p) (else_after edition s i true true v) _
      (λ q e.
      let two = and-true (is semicolon t) (not p) q in
      let r = else-found i n true b v w (after-in edition s t g) e in
      back semicolon two.0 refl (
        walk-join edition s x t (list (suc n) true b) (as_operand edition s v) (body n b) (as_operand edition s w) (list-pass x (suc n) true b semicolon t two.0 (list-mark (suc n) p b two.1)) r.0,
        r.1,
        omega (arith, r.2, on semicolon two.0 refl),
      ))
      (λ q. by-test E (is ELSE t && true) (some v) none
      (λ q e.
      let f : is ELSE t ≡ true = (and-true (is ELSE t) true q).0 in
      let same-token : v ≡ w = some_one refl e in
      back ELSE f refl (subst (λ (z : Token). Elses x t n b z) same-token (
        pass-operand edition s x t (body n b) (after plain (value n b)) (ap (step edition x) (same-is t.kind ELSE f) ∙ list-else n p b) (ere-body edition n b),
        after-in edition s t g,
        omega (arith, onward-after edition s t g (known edition s (λ k. same k text_end ≡ false) t.kind ELSE f refl)),
      )))
      (λ q e. absurd (none-some e))))

  finished-line : (n : ℕ) (b : Blocks) → finished_step n b newline ≡ some (list n false b)
  unfolding finished_step among rank
  finished-line n b = refl

  finished-mark : (n : ℕ) (b : Blocks) → finished_step n b semicolon ≡ some (list n true b)
  unfolding finished_step among rank
  finished-mark n b = refl

  else-ended : (i n : ℕ) (b : Blocks) (y : State) (t w : Token) → InText edition s 0 t → step edition y t.kind ≡ finished_step (suc n) b t.kind → else_after edition s i false false t ≡ some w
      → Elses y t n b w
  unfolding else_after rank
  else-ended zero n b y t w g h = λ e. absurd (none-some e)
  else-ended (suc i) n b y t w g h =
      let E : Option Token → Type 0 = λ o. o ≡ some w → Elses y t n b w in
      let v : Token = token_after edition s t in
      let on : (j : Kind) → is j t ≡ true → same j text_end ≡ false → t.start < (operand_after edition s t).start =
      λ j q e. onward-operand edition s t g (known edition s (λ k. same k text_end ≡ false) t.kind j q e) in
      let goes : (j : Kind) (p : Bool) → is j t ≡ true → finished_step (suc n) b j ≡ some (list (suc n) p b) → step edition y j ≡ some (list (suc n) p b) =
      λ j p q e. sym (ap (step edition y) (same-is t.kind j q)) ∙ (h ∙ (ap (finished_step (suc n) b) (same-is t.kind j q) ∙ e)) in
      by-test E (is newline t) (else_after edition s i true false v) _
      (λ q e.
      let r = else-found i n false b v w (after-in edition s t g) e in (
        walk-join edition s y t (list (suc n) false b) (as_operand edition s v) (body n b) (as_operand edition s w) (list-pass y (suc n) false b newline t q (goes newline false q (finished-line (suc n) b))) r.0,
        r.1,
        omega (arith, r.2, on newline q refl),
      ))
      (λ q. by-test E (is semicolon t && true) (else_after edition s i true true v) _
      (λ q e.
      let f : is semicolon t ≡ true = (and-true (is semicolon t) true q).0 in
      let r = else-found i n true b v w (after-in edition s t g) e in (
        walk-join edition s y t (list (suc n) true b) (as_operand edition s v) (body n b) (as_operand edition s w) (list-pass y (suc n) true b semicolon t f (goes semicolon true f (finished-mark (suc n) b))) r.0,
        r.1,
        omega (arith, r.2, on semicolon f refl),
      ))
      (λ q. by-test E (is ELSE t && false) (some v) none (λ q e. absurd (clash (sym (and-true (is ELSE t) false q).1))) (λ q e. absurd (none-some e))))

  -- an `else` after a statement
  else-after : (z : Bool) (n : ℕ) (b : Blocks) (y : State) (t w : Token) → InText edition s 0 t → Stands z (suc n) b y t.kind → else_after edition s (length s) z false t ≡ some w
      → (Walk edition s y (cond z (as_operand edition s t) t) (body n b) (as_operand edition s w)) × (InText edition s 0 w) × (t.start ≤ w.start)
  else-after true n b y t w g h e =
      let r = else-found (length s) n false b t w g e in
      (subst (λ (x : State). Walk edition s x (as_operand edition s t) (body n b) (as_operand edition s w)) (sym h) r.0, r.1, omega (arith, r.2, operand-start t g))
  else-after false n b y t w g h e = else-ended (length s) n b y t w g h e

  -- ---- `if`, `while`

  s-map : (f : Statement → Statement) → ((a : Statement) → ended (f a) ≡ ended a) → (n : ℕ) (b : Blocks) (x : State) (t : Token) (p : ℕ) (r : Read Statement) → SReads n b x t p r
      → SReads n b x t p (map f r)
  s-map f e n b x t p (no outcome place) g = g
  s-map f e n b x t p (ok a u) g =
      record {
        pending = g.pending;
        state = g.state;
        walk = subst (λ (z : Bool). Walk edition s x t g.state (cond z (as_operand edition s u) u)) (sym (e a)) g.walk;
        good = g.good;
        onward = g.onward;
        stands = subst (λ (z : Bool). Stands z g.pending b g.state u.kind) (sym (e a)) g.stands;
        own = subst (λ (z : Bool). (g.pending ≡ n) ⊎ (else_after edition s (length s) z false u ≡ none)) (sym (e a)) g.own;
      }

  module _ (in_main : Bool) (f : Token → Read Statement) (h : StatementReads in_main f) where
    else-reads : (n : ℕ) (b : Blocks) (x : State) (t : Token) (p : ℕ) (c : Expression) (a : Statement) (v : Token) (o : Option Token) → main_of b ≡ in_main
        → else_after edition s (length s) (ended a) false v ≡ o → StatementRead (suc n) b x t p a v → SReads n b x t p (else_at edition s f c a v o)
    unfolding ended
    else-reads n b x t p c a v none m e g =
        record { pending = g.pending; state = g.state; walk = g.walk; good = g.good; onward = g.onward; stands = g.stands; own = inr e }
    else-reads n b x t p c a v (some w) m e g =
        let counted : g.pending ≡ suc n = ⊎_elim (λ z. z) (λ z. absurd (none-some (sym z ∙ e))) g.own in
        let r = else-after (ended a) n b g.state v w g.good (subst (λ (k : ℕ). Stands (ended a) k b g.state v.kind) counted g.stands) e in
        s-map (if-else c a) (λ d. refl) n b x t p (body_at edition s f w)
        (body_reads in_main f h n b x t p w m
        (record { walk = walk-join edition s x t g.state (cond (ended a) (as_operand edition s v) v) (body n b) (as_operand edition s w) g.walk r.0; good = r.1; onward = omega (arith, r.2, g.onward) }))

    then-reads : (n : ℕ) (b : Blocks) (x : State) (t : Token) (p : ℕ) (c : Expression) (r : Read Statement) → main_of b ≡ in_main → SReads (suc n) b x t p r
        → SReads n b x t p (bind r (λ a v. else_at edition s f c a v (else_after edition s (length s) (ended a) false v)))
    then-reads n b x t p c (ok a v) m g = else-reads n b x t p c a v (else_after edition s (length s) (ended a) false v) m refl g
    then-reads n b x t p c (no outcome place) m g = g

    if-conditioned : (n : ℕ) (b : Blocks) (x : State) (t : Token) (p : ℕ) (r : Read Expression) → main_of b ≡ in_main → Pauses (body (suc n) b) x t p r → SReads n b x t p (bind r (then_at edition s f))
    if-conditioned n b x t p (ok c u) m g = then-reads n b x t p c (body_at edition s f u) m (body_reads in_main f h (suc n) b x t p u m g)
    if-conditioned n b x t p (no outcome place) m g = g

    while-conditioned : (n : ℕ) (b : Blocks) (x : State) (t : Token) (p : ℕ) (r : Read Expression) → main_of b ≡ in_main → Pauses (body n b) x t p r
        → SReads n b x t p (bind r (λ c v. map (while c) (body_at edition s f v)))
    unfolding ended
    while-conditioned n b x t p (ok c u) m g = s-map (while c) (λ d. refl) n b x t p (body_at edition s f u) (body_reads in_main f h n b x t p u m g)
    while-conditioned n b x t p (no outcome place) m g = g

    if-reads : (levels n : ℕ) (b : Blocks) (u : Token) → main_of b ≡ in_main → InText edition s 0 u → SReads n b (condition_next (suc n) b) u (suc u.start) (if_at edition s f levels u)
    unfolding if_at
    if-reads levels n b u m g = if-conditioned n b (condition_next (suc n) b) u (suc u.start) (condition_at edition s levels u) m (condition-reads levels (suc n) b u g)

    while-reads : (levels n : ℕ) (b : Blocks) (u : Token) → main_of b ≡ in_main → InText edition s 0 u → SReads n b (condition_next n b) u (suc u.start) (while_at edition s f levels u)
    unfolding while_at
    while-reads levels n b u m g = while-conditioned n b (condition_next n b) u (suc u.start) (condition_at edition s levels u) m (condition-reads levels n b u g)

    -- ---- a statement

    abbrev BracesRead : (Token → Read Statement) → Type 0
    BracesRead braces = (n : ℕ) (b : Blocks) (x : State) (t : Token) → main_of b ≡ in_main → InText edition s 0 t → is open_brace t ≡ true
        → step edition x t.kind ≡ some (list 0 false (nested n b)) → SReads n b x t (suc t.start) (braces t)

    value-begins : (n : ℕ) (b : Blocks) (k : Kind) → same k semicolon ≡ false → same k open_brace ≡ false → same k IF ≡ false → same k WHILE ≡ false → same k PRINT ≡ false
        → same k EXIT ≡ false → (same k NEXT && main_of b) ≡ false → begin_step edition n b k ≡ operand_step edition fresh (value n b) k
    unfolding begin_step
    value-begins n b k a1 a2 a3 a4 a5 a6 a7 = rw (a1, a2, a3, a4, a5, a6, a7)

    next-begins : (n : ℕ) (b : Blocks) → main_of b ≡ true → begin_step edition n b NEXT ≡ some (finished n b)
    unfolding begin_step rank
    next-begins n b e = rw e

    -- a statement of one token
    one-reads : (n : ℕ) (b : Blocks) (x : State) (t : Token) (a : Statement) → ended a ≡ false → InText edition s 0 t → same t.kind text_end ≡ false → step edition x t.kind ≡ some (finished n b)
        → StatementRead n b x t (suc t.start) a (token_after edition s t)
    unfolding step
    one-reads n b x t a e g q h =
        let v : Token = token_after edition s t in
        record {
          pending = n;
          state = finished n b;
          walk = subst (λ (z : Bool). Walk edition s x t (finished n b) (cond z (as_operand edition s v) v)) (sym e) (pass edition s x t (finished n b) tt h (finished-ere edition n b));
          good = after-in edition s t g;
          onward = omega (arith, onward-after edition s t g q);
          stands = subst (λ (z : Bool). Stands z n b (finished n b) v.kind) (sym e) refl;
          own = inl refl;
        }

    statement-of-reads : (levels : ℕ) (braces : Token → Read Statement) → BracesRead braces → StatementReads in_main (statement_of edition s in_main levels f braces)
    unfolding statement_of begin_step ended exit rank
    statement-of-reads levels braces k n b x t m g e =
        let R : Read Statement → Type 0 = SReads n b x t (suc t.start) in
        let v : Token = token_after edition s t in
        let begins : (j : Kind) (y : State) → is j t ≡ true → begin_step edition n b j ≡ some y → step edition x t.kind ≡ some y =
        λ j y q z. e ∙ known edition s (λ i. begin_step edition n b i ≡ some y) t.kind j q z in
        let no_end : (j : Kind) → is j t ≡ true → same j text_end ≡ false → same t.kind text_end ≡ false = λ j q z. known edition s (λ i. same i text_end ≡ false) t.kind j q z in
        by-test R (is semicolon t) (ok empty v) _
        (λ q. record {
          pending = n;
          state = list n false b;
          walk = list-pass x n false b semicolon t q (sym (ap (step edition x) (same-is t.kind semicolon q)) ∙ begins semicolon (list n false b) q refl);
          good = after-in edition s t g;
          onward = omega (arith, onward-after edition s t g (no_end semicolon q refl));
          stands = refl;
          own = inl refl;
        })
        (λ q1. by-test R (is open_brace t) (braces t) _ (λ q. k n b x t m g q (begins open_brace (list 0 false (nested n b)) q refl))
        (λ q2. by-test R (is IF t) (if_at edition s f levels v) _
        (λ q. s-earlier n b x t (condition_next (suc n) b) v (suc t.start) (suc v.start) (if_at edition s f levels v)
        (pass edition s x t (condition_next (suc n) b) tt (begins IF (condition_next (suc n) b) q refl) (condition-ere edition (suc n) b))
        (omega (arith, onward-after edition s t g (no_end IF q refl))) (if-reads levels n b v m (after-in edition s t g)))
        (λ q3. by-test R (is WHILE t) (while_at edition s f levels v) _
        (λ q. s-earlier n b x t (condition_next n b) v (suc t.start) (suc v.start) (while_at edition s f levels v)
        (pass edition s x t (condition_next n b) tt (begins WHILE (condition_next n b) q refl) (condition-ere edition n b))
        (omega (arith, onward-after edition s t g (no_end WHILE q refl))) (while-reads levels n b v m (after-in edition s t g)))
        (λ q4. by-test R (is PRINT t) (print_at edition s levels (operand_after edition s t)) _
        (λ q. s-earlier n b x t (print_next n b) (operand_after edition s t) (suc t.start) (operand_after edition s t).start (print_at edition s levels (operand_after edition s t))
        (pass-operand edition s x t (print_next n b) (after plain (listed n b)) (begins PRINT (print_next n b) q refl) (ere-print edition n b))
        (omega (arith, onward-operand edition s t g (no_end PRINT q refl))) (print-reads levels n b (operand_after edition s t) (operand-after-in edition s t g)))
        (λ q5. by-test R (is EXIT t) (ok exit-tree v) _ (λ q. one-reads n b x t exit-tree refl g (no_end EXIT q refl) (begins EXIT (finished n b) q refl))
        (λ q6. by-test R (is NEXT t && in_main) (ok next v) _
        (λ q.
        let two = and-true (is NEXT t) in_main q in
        one-reads n b x t next refl g (no_end NEXT two.0 refl) (begins NEXT (finished n b) two.0 (next-begins n b (m ∙ two.1))))
        (λ q7.
        as-statement expression (λ a. refl) n b x t (suc t.start) (expression_at edition s levels false t)
        (expression-reads edition s levels false (value n b) x t refl g
        (e ∙ value-begins n b t.kind q1 q2 q3 q4 q5 q6 (ap (λ (z : Bool). is NEXT t && z) m ∙ q7))))))))))

  -- ---- lists of statements

  pub else-line : (j : ℕ) (z p : Bool) (t : Token) → is newline t ≡ true → else_after edition s (suc j) z p t ≡ else_after edition s j true p (token_after edition s t)
  unfolding else_after
  else-line j z p t q = rw q

  pub else-mark : (j : ℕ) (z : Bool) (t : Token) → is newline t ≡ false → is semicolon t ≡ true → else_after edition s (suc j) z false t ≡ else_after edition s j true true (token_after edition s t)
  unfolding else_after
  else-mark j z t r q = rw (r, q)

  pub else-here : (j : ℕ) (p : Bool) (t : Token) → is newline t ≡ false → is semicolon t ≡ false → is ELSE t ≡ true → else_after edition s (suc j) true p t ≡ some (token_after edition s t)
  unfolding else_after
  else-here j p t a b q = rw (a, b, q)

  -- no `if` can have an `else` here, or none follows
  abbrev NoElse : ℕ → Bool → Token → Type 0
  NoElse n p t = (n ≡ 0) ⊎ ((j : ℕ) × (length s ≤ j + t.start) × (else_after edition s j true p t ≡ none))

  -- a token that is no text's end is found with one turn more
  pub fuelled : (t : Token) (j : ℕ) → InText edition s 0 t → same t.kind text_end ≡ false → length s ≤ j + t.start → (i : ℕ) × (j ≡ suc i)
  fuelled t zero g e h = absurd (clash (sym (at-end edition s t g (omega arith)) ∙ e))
  fuelled t (suc i) g e h = (i, refl)

  none-after-line : (n : ℕ) (p : Bool) (t : Token) → InText edition s 0 t → is newline t ≡ true → NoElse n p t → NoElse n p (token_after edition s t)
  unfolding rank
  none-after-line n p t g q (inl e) = inl e
  none-after-line n p t g q (inr h) =
      let end : same t.kind text_end ≡ false = known edition s (λ k. same k text_end ≡ false) t.kind newline q refl in
      let i = fuelled t h.0 g end h.1 in
      inr (
        i.0,
        omega (arith, onward-after edition s t g end, h.1, i.1),
        sym (else-line i.0 true p t q) ∙ subst (λ (j : ℕ). else_after edition s j true p t ≡ none) i.1 h.2,
      )

  none-after-mark : (n : ℕ) (t : Token) → InText edition s 0 t → is semicolon t ≡ true → NoElse n false t → NoElse n true (token_after edition s t)
  unfolding rank
  none-after-mark n t g q (inl e) = inl e
  none-after-mark n t g q (inr h) =
      let end : same t.kind text_end ≡ false = known edition s (λ k. same k text_end ≡ false) t.kind semicolon q refl in
      let i = fuelled t h.0 g end h.1 in
      inr (
        i.0,
        omega (arith, onward-after edition s t g end, h.1, i.1),
        sym (else-mark i.0 true t (known edition s (λ k. same k newline ≡ false) t.kind semicolon q refl) q) ∙ subst (λ (j : ℕ). else_after edition s j true false t ≡ none) i.1 h.2,
      )

  -- the same after a statement that needs an end
  none-after-end : (n : ℕ) (k : Kind) (t : Token) → InText edition s 0 t → among enders t.kind ≡ true → (n ≡ 0) ⊎ (else_after edition s (length s) false false t ≡ none)
      → NoElse n (same t.kind semicolon) (token_after edition s t)
  unfolding among rank
  none-after-end n k t g q (inl e) = inl e
  none-after-end n k t g q (inr h) =
      let end : same t.kind text_end ≡ false = each (λ k. same k text_end ≡ false) enders (refl, (refl, tt)) t.kind q in
      let i = fuelled t (length s) g end (omega arith) in
      let on : t.start < (token_after edition s t).start = onward-after edition s t g end in
      let found : else_after edition s (suc i.0) false false t ≡ none = subst (λ (j : ℕ). else_after edition s j false false t ≡ none) i.1 h in
      let counted : length s ≡ suc i.0 = i.1 in
      ⊎_elim
      (λ e. inr (
        i.0,
        omega (arith, on, counted),
        subst (λ (b : Bool). else_after edition s i.0 true b (token_after edition s t) ≡ none) (sym (known edition s (λ k. same k semicolon ≡ false) t.kind newline e refl))
            (sym (else-line i.0 false false t e) ∙ found),
      ))
      (λ e.
      let f : is semicolon t ≡ true = sym (single edition s t.kind semicolon) ∙ e in
      inr (
        i.0,
        omega (arith, on, counted),
        subst (λ (b : Bool). else_after edition s i.0 true b (token_after edition s t) ≡ none) (sym f)
            (sym (else-mark i.0 false t (known edition s (λ k. same k newline ≡ false) t.kind semicolon f refl) f) ∙ found),
      ))
      (or_cases (same t.kind newline) (among (semicolon ∷ []) t.kind) q)

  ere-closed : (b : Blocks) → (z : State) × (step edition (closed-state b) ERE ≡ some z)
  ere-closed (action x) = (after plain pattern, ere-between edition)
  ere-closed (nested n b) = (after plain (value 0 b), ere-list edition n false b)

  list_close : (n : ℕ) (p : Bool) (b : Blocks) → step edition (list n p b) close_brace ≡ some (closed-state b)
  unfolding step list_step rank
  list_close n p b = refl

  finished-close : (n : ℕ) (b : Blocks) → finished_step n b close_brace ≡ some (closed-state b)
  unfolding finished_step among rank
  finished-close n b = refl

  no-else : (b : Blocks) → begin_step edition 0 b ELSE ≡ none
  unfolding begin_step among rank
  no-else b = idle-operand edition fresh (value 0 b) ELSE refl

  list-begin : (n : ℕ) (p : Bool) (b : Blocks) (k : Kind) → same k newline ≡ false → same k close_brace ≡ false → same k semicolon ≡ false → (n ≡ 0) ⊎ (same k ELSE ≡ false)
      → step edition (list n p b) k ≡ begin_step edition 0 b k
  unfolding step list_step
  list-begin n p b k a c d (inr e) = rw (a, c, d, e)
  list-begin n p b k a c d (inl e) =
      rw (a, c, d) (by-test (λ x. x ≡ begin_step edition 0 b k) (same k ELSE) _ _
      (λ q. ap (λ m. else_step m b) e ∙ sym (ap (begin_step edition 0 b) (same-is k ELSE q) ∙ no-else b)) (λ q. refl))

  pub not_end : (k : Kind) → among enders k ≡ true → same k text_end ≡ false
  unfolding among rank
  not_end k q = each (λ k. same k text_end ≡ false) enders (refl, (refl, tt)) k q

  ends-list : (n : ℕ) (b : Blocks) (k : Kind) → among enders k ≡ true → finished_step n b k ≡ some (list n (same k semicolon) b)
  unfolding finished_step
  ends-list n b k q = rw q

  no_finish : (n : ℕ) (b : Blocks) (k : Kind) → among enders k ≡ false → same k close_brace ≡ false → finished_step n b k ≡ none
  unfolding finished_step
  no_finish n b k q r = rw (q, r)

  no-slash-brace : among Slashes close_brace ≡ false
  unfolding among rank
  no-slash-brace = refl

  no-slash-line : among Slashes newline ≡ false
  unfolding among rank
  no-slash-line = refl

  no-slash-mark : among Slashes semicolon ≡ false
  unfolding among rank
  no-slash-mark = refl

  list-lone : (n : ℕ) (b : Blocks) → step edition (list n true b) semicolon ≡ some (list 0 false b)
  unfolding step list_step begin_step rank
  list-lone n b = refl

  lone-followed : (rest : Token → Read Statement) (z x : State) (o : Token) (l : ℕ) (v : Token) → Pauses z x o l (rest v) → Pauses z x o l (followed edition s rest (ok empty v))
  unfolding followed ended
  lone-followed rest z x o l v g = pauses-map (sequence empty) z x o l (rest v) g

  as-block : (n : ℕ) (b : Blocks) (x : State) (t : Token) (p : ℕ) (r : Read Statement) → Pauses (list n false b) x t p r → SReads n b x t p (map block r)
  unfolding ended
  as-block n b x t p (ok a u) g = record { pending = n; state = list n false b; walk = g.walk; good = g.good; onward = g.onward; stands = refl; own = inl refl }
  as-block n b x t p (no outcome place) g = g

  -- what begins no statement, and what begins an expression
  begin-none : (in_main : Bool) (n : ℕ) (b : Blocks) (k : Kind) → main_of b ≡ in_main → starts_statement edition in_main k ≡ false → begin_step edition n b k ≡ none
  unfolding starts_statement begin_step among
  begin-none in_main n b k m h =
      let a = or-false (starts_expression edition k) _ h in
      let d = or-false (among (semicolon ∷ open_brace ∷ IF ∷ WHILE ∷ PRINT ∷ EXIT ∷ []) k) (in_main && same k NEXT) a.1 in
      let e1 = or-false (same k semicolon) _ d.0 in
      let e2 = or-false (same k open_brace) _ e1.1 in
      let e3 = or-false (same k IF) _ e2.1 in
      let e4 = or-false (same k WHILE) _ e3.1 in
      let e5 = or-false (same k PRINT) _ e4.1 in
      let e6 = or-false (same k EXIT) _ e5.1 in
      let e7 : (same k NEXT && main_of b) ≡ false = ap (λ (z : Bool). same k NEXT && z) m ∙ (and-swap (same k NEXT) in_main ∙ d.1) in
      rw (e1.0, e2.0, e3.0, e4.0, e5.0, e6.0, e7) (operand-starts edition fresh (value n b) k a.0)

  only-expression : (in_main : Bool) (b : Blocks) (k : Kind) → main_of b ≡ in_main → same k semicolon ≡ false → same k open_brace ≡ false → same k IF ≡ false → same k WHILE ≡ false
      → same k PRINT ≡ false → same k EXIT ≡ false → (same k NEXT && main_of b) ≡ false → starts_statement edition in_main k ≡ true → starts_expression edition k ≡ true
  unfolding starts_statement among
  only-expression in_main b k m q1 q2 q3 q4 q5 q6 q7 h =
      let last : (in_main && same k NEXT) ≡ false = sym (and-swap (same k NEXT) in_main) ∙ (ap (λ (z : Bool). same k NEXT && z) (sym m) ∙ q7) in
      ⊎_elim (λ e. e) (λ e. absurd (clash (sym e ∙ rw (q1, q2, q3, q4, q5, q6, last))))
      (or_cases (starts_expression edition k) (among (semicolon ∷ open_brace ∷ IF ∷ WHILE ∷ PRINT ∷ EXIT ∷ []) k || (in_main && same k NEXT)) h)

  module _ (in_main : Bool) (statement : Token → Read Statement) (h : StatementReads in_main statement)
      (semi : (t : Token) → is semicolon t ≡ true → statement t ≡ ok empty (token_after edition s t)) where
    abbrev ListReads : ℕ → Type 0
    ListReads i = (n : ℕ) (p : Bool) (b : Blocks) (x : State) (o : Token) (l : ℕ) (t : Token) → main_of b ≡ in_main → suc (length s) ≤ i + t.start → NoElse n p t
        → Paused (list n p b) x o l t → Pauses (closed-state b) x o l (statements edition s statement i t)

    -- a `}` after a statement that needs an end
    brace-reads : (i : ℕ) (b : Blocks) (x : State) (o : Token) (l : ℕ) (y : State) (t : Token) → suc (length s) ≤ i + t.start → InText edition s 0 t → l ≤ t.start → is close_brace t ≡ true
        → Walk edition s x o y t → step edition y t.kind ≡ some (closed-state b) → Pauses (closed-state b) x o l (statements edition s statement i t)
    unfolding statements rank
    brace-reads zero b x o l y t f g a q w e = absurd (omega (arith, f, g.ordered, g.within))
    brace-reads (suc i) b x o l y t f g a q w e =
        by-test (Pauses (closed-state b) x o l) (is close_brace t) (ok empty (token_after edition s t)) _
        (λ q. record {
          walk = walk-join edition s x o y t (closed-state b) (operand_after edition s t) w (pass-operand edition s y t (closed-state b) (ere-closed b).0 e (ere-closed b).1);
          good = after-in edition s t g;
          onward = omega (arith, a, onward-after edition s t g (known edition s (λ k. same k text_end ≡ false) t.kind close_brace q refl));
        })
        (λ r. absurd (clash (sym q ∙ r)))

    followed-reads : (i : ℕ) → ListReads i → (b : Blocks) (x : State) (o : Token) (l : ℕ) (t : Token) (r : Read Statement) → main_of b ≡ in_main → suc (length s) ≤ suc i + t.start → l ≤ t.start
        → SReads 0 b x o (suc t.start) r → Pauses (closed-state b) x o l (followed edition s (statements edition s statement i) r)
    unfolding followed
    followed-reads i rest b x o l t (no outcome place) m f a g = g
    followed-reads i rest b x o l t (ok c u) m f a g =
        let P : Read Statement → Type 0 = Pauses (closed-state b) x o l in
        let v : Token = token_after edition s u in
        by-test P (ended c) (map (sequence c) (statements edition s statement i u)) _
        (λ e.
        let w : Walk edition s x o g.state (as_operand edition s u) = subst (λ (z : Bool). Walk edition s x o g.state (cond z (as_operand edition s u) u)) e g.walk in
        let y : g.state ≡ list g.pending false b = subst (λ (z : Bool). Stands z g.pending b g.state u.kind) e g.stands in
        let own : (g.pending ≡ 0) ⊎ (else_after edition s (length s) true false u ≡ none) = subst (λ (z : Bool). (g.pending ≡ 0) ⊎ (else_after edition s (length s) z false u ≡ none)) e g.own in
        pauses-map (sequence c) (closed-state b) x o l (statements edition s statement i u)
        (rest g.pending false b x o l u m (omega (arith, f, g.onward)) (⊎_elim (λ z. inl z) (λ z. inr (length s, omega arith, z)) own)
        (record { walk = subst (λ (q : State). Walk edition s x o q (as_operand edition s u)) y w; good = g.good; onward = omega (arith, a, g.onward) })))
        (λ e.
        let w : Walk edition s x o g.state u = subst (λ (z : Bool). Walk edition s x o g.state (cond z (as_operand edition s u) u)) e g.walk in
        let y : step edition g.state u.kind ≡ finished_step g.pending b u.kind = subst (λ (z : Bool). Stands z g.pending b g.state u.kind) e g.stands in
        let own : (g.pending ≡ 0) ⊎ (else_after edition s (length s) false false u ≡ none) = subst (λ (z : Bool). (g.pending ≡ 0) ⊎ (else_after edition s (length s) z false u ≡ none)) e g.own in
        by-test P (is_one_of enders u) (map (sequence c) (statements edition s statement i v)) _
        (λ q.
        let on : u.start < v.start = onward-after edition s u g.good (not_end u.kind q) in
        let z : State = list g.pending (same u.kind semicolon) b in
        pauses-map (sequence c) (closed-state b) x o l (statements edition s statement i v)
        (rest g.pending (same u.kind semicolon) b x o l v m (omega (arith, f, g.onward, on)) (none-after-end g.pending u.kind u g.good q own)
        (record {
          walk = walk-join edition s x o g.state u z (operand_after edition s u) w
              (pass-operand edition s g.state u z (after plain (value 0 b)) (y ∙ ends-list g.pending b u.kind q) (ere-list edition g.pending (same u.kind semicolon) b));
          good = after-in edition s u g.good;
          onward = omega (arith, a, g.onward, on);
        })))
        (λ q. by-test P (is close_brace u) (map (sequence c) (statements edition s statement i u)) (no _ _)
        (λ r. pauses-map (sequence c) (closed-state b) x o l (statements edition s statement i u)
        (brace-reads i b x o l g.state u (omega (arith, f, g.onward)) g.good (omega (arith, a, g.onward)) r w
        (y ∙ known edition s (λ k. finished_step g.pending b k ≡ some (closed-state b)) u.kind close_brace r (finished-close g.pending b))))
        (λ r. later edition s x o g.state u _ _ w (refused edition s g.state u (y ∙ no_finish g.pending b u.kind q r)))))

    marked-reads : (i : ℕ) → ListReads i → (n : ℕ) (p : Bool) (b : Blocks) (x : State) (o : Token) (l : ℕ) (t : Token) → main_of b ≡ in_main → suc (length s) ≤ suc i + t.start → NoElse n p t
        → Walk edition s x o (list n p b) t → InText edition s 0 t → l ≤ t.start → is semicolon t ≡ true → Pauses (closed-state b) x o l (statements edition s statement i (token_after edition s t))
    unfolding rank
    marked-reads i rest n false b x o l t m f e w g a q =
        let on : t.start < (token_after edition s t).start = onward-after edition s t g (known edition s (λ k. same k text_end ≡ false) t.kind semicolon q refl) in
        rest n true b x o l (token_after edition s t) m (omega (arith, f, on)) (none-after-mark n t g q e)
        (record {
          walk = walk-join edition s x o (list n false b) t (list n true b) (operand_after edition s t) w (list-pass (list n false b) n true b semicolon t q (list-mark n false b refl));
          good = after-in edition s t g;
          onward = omega (arith, a, on);
        })
    marked-reads i rest n true b x o l t m f e w g a q =
        let on : t.start < (token_after edition s t).start = onward-after edition s t g (known edition s (λ k. same k text_end ≡ false) t.kind semicolon q refl) in
        rest 0 false b x o l (token_after edition s t) m (omega (arith, f, on)) (inl refl)
        (record {
          walk = walk-join edition s x o (list n true b) t (list 0 false b) (operand_after edition s t) w (list-pass (list n true b) 0 false b semicolon t q (list-lone n b));
          good = after-in edition s t g;
          onward = omega (arith, a, on);
        })

    stated-reads : (i : ℕ) → ListReads i → (n : ℕ) (p : Bool) (b : Blocks) (x : State) (o : Token) (l : ℕ) (t : Token) → main_of b ≡ in_main → suc (length s) ≤ suc i + t.start → NoElse n p t
        → Paused (list n p b) x o l t → is close_brace t ≡ false → is newline t ≡ false → (c : Bool) → is semicolon t ≡ c
        → Pauses (closed-state b) x o l (followed edition s (statements edition s statement i) (statement (as_operand edition s t)))
    unfolding rank
    stated-reads i rest n p b x o l t m f e g q1 q2 true q =
        let v : Token = token_after edition s t in
        let same-token : as_operand edition s t ≡ t = unread semicolon t q no-slash-mark in
        subst (λ (r : Read Statement). Pauses (closed-state b) x o l (followed edition s (statements edition s statement i) r)) (sym (ap statement same-token ∙ semi t q))
        (lone-followed (statements edition s statement i) (closed-state b) x o l v (marked-reads i rest n p b x o l t m f e (subst (λ (w : Token). Walk edition s x o (list n p b) w) same-token g.walk) g.good g.onward q))
    stated-reads i rest n p b x o l t m f e g q1 q2 false q =
        let u : Token = as_operand edition s t in
        followed-reads i rest b x o l t (statement u) m f g.onward
        (s-earlier 0 b x o (list n p b) u (suc t.start) (suc u.start) (statement u) g.walk (omega (arith, operand-start t g.good))
        (h 0 b (list n p b) u m (operand_in edition s t g.good)
        (list-begin n p b u.kind (operand-test edition s newline t (refl, refl, refl, refl, refl) ∙ q2) (operand-test edition s close_brace t (refl, refl, refl, refl, refl) ∙ q1)
        (operand-test edition s semicolon t (refl, refl, refl, refl, refl) ∙ q) (elses e (is ELSE t) refl))))
      where
        elses : NoElse n p t → (c : Bool) → is ELSE t ≡ c → (n ≡ 0) ⊎ (same (as_operand edition s t).kind ELSE ≡ false)
        elses (inl z) c r = inl z
        elses (inr z) false r = inr (operand-test edition s ELSE t (refl, refl, refl, refl, refl) ∙ r)
        elses (inr z) true r =
            let k = fuelled t z.0 g.good (known edition s (λ c. same c text_end ≡ false) t.kind ELSE r refl) z.1 in
            absurd (none-some (sym (subst (λ (j : ℕ). else_after edition s j true p t ≡ none) k.1 z.2) ∙ else-here k.0 p t q2 q r))

    statements-reads : (i : ℕ) → ListReads i
    unfolding statements rank
    statements-reads zero n p b x o l t m f e g = absurd (omega (arith, f, g.good.ordered, g.good.within))
    statements-reads (suc i) n p b x o l t m f e g =
        let P : Read Statement → Type 0 = Pauses (closed-state b) x o l in
        let z : State = list n p b in
        let v : Token = token_after edition s t in
        let from : (j : Kind) → is j t ≡ true → among Slashes j ≡ false → Walk edition s x o z t =
        λ j q k. subst (λ (w : Token). Walk edition s x o z w) (unread j t q k) g.walk in
        let on : (j : Kind) → is j t ≡ true → same j text_end ≡ false → t.start < v.start =
        λ j q k. onward-after edition s t g.good (known edition s (λ c. same c text_end ≡ false) t.kind j q k) in
        by-test P (is close_brace t) (ok empty v) _
        (λ q. record {
          walk = walk-join edition s x o z t (closed-state b) (operand_after edition s t) (from close_brace q no-slash-brace)
              (pass-operand edition s z t (closed-state b) (ere-closed b).0 (ap (step edition z) (same-is t.kind close_brace q) ∙ list_close n p b) (ere-closed b).1);
          good = after-in edition s t g.good;
          onward = omega (arith, g.onward, on close_brace q refl);
        })
        (λ q1. by-test P (is newline t) (statements edition s statement i v) _
        (λ q. statements-reads i n p b x o l v m (omega (arith, f, on newline q refl)) (none-after-line n p t g.good q e)
        (record {
          walk = walk-join edition s x o z t z (operand_after edition s t) (from newline q no-slash-line) (list-pass z n p b newline t q (list-line n p b));
          good = after-in edition s t g.good;
          onward = omega (arith, g.onward, on newline q refl);
        }))
        (λ q2. stated-reads i (statements-reads i) n p b x o l t m f e g q1 q2 (is semicolon t) refl))

    -- a block from its `{` on
    pub block-list : (b : Blocks) (x : State) (t : Token) → main_of b ≡ in_main → InText edition s 0 t → is open_brace t ≡ true → step edition x t.kind ≡ some (list 0 false b)
        → Pauses (closed-state b) x t (suc t.start) (statements edition s statement (suc (length s)) (token_after edition s t))
    unfolding rank
    block-list b x t m g q e =
        let on : t.start < (token_after edition s t).start = onward-after edition s t g (known edition s (λ c. same c text_end ≡ false) t.kind open_brace q refl) in
        statements-reads (suc (length s)) 0 false b x t (suc t.start) (token_after edition s t) m (omega arith) (inl refl)
        (record { walk = pass-operand edition s x t (list 0 false b) (after plain (value 0 b)) e (ere-list edition 0 false b); good = after-in edition s t g; onward = omega (arith, on) })

    pub block_reads : (b : Blocks) (x : State) (t : Token) → main_of b ≡ in_main → InText edition s 0 t → is open_brace t ≡ true → step edition x t.kind ≡ some (list 0 false b)
        → Pauses (closed-state b) x t (suc t.start) (block_of edition s statement t)
    unfolding block_of
    block_reads b x t m g q e =
        pauses-map block (closed-state b) x t (suc t.start) (statements edition s statement (suc (length s)) (token_after edition s t)) (block-list b x t m g q e)

    braces-read : BracesRead in_main statement h (block_of edition s statement)
    unfolding block_of
    braces-read n b x t m g q e =
        as-block n b x t (suc t.start) (statements edition s statement (suc (length s)) (token_after edition s t)) (block-list (nested n b) x t m g q e)

  -- ---- levels

  operand-some : (m : Mode) (c : Context) (k : Kind) → starts_expression edition k ≡ true → (y : State) × (operand_step edition m c k ≡ some y)
  operand-some m c k h = decide (operand_step edition m c k) refl
    where
      decide : (o : Option State) → operand_step edition m c k ≡ o → (y : State) × (operand_step edition m c k ≡ some y)
      decide (some y) e = (y, e)
      decide none e = absurd (clash (sym h ∙ nothing-starts edition m c k e))

  begin-some : (in_main : Bool) (n : ℕ) (b : Blocks) (k : Kind) → main_of b ≡ in_main → starts_statement edition in_main k ≡ true → (y : State) × (begin_step edition n b k ≡ some y)
  unfolding begin_step
  begin-some in_main n b k m h =
      let P : Option State → Type 0 = λ o. (y : State) × (o ≡ some y) in
      by-test P (same k semicolon) _ _ (λ q. (list n false b, refl))
      (λ q1. by-test P (same k open_brace) _ _ (λ q. (list 0 false (nested n b), refl))
      (λ q2. by-test P (same k IF) _ _ (λ q. (condition_next (suc n) b, refl))
      (λ q3. by-test P (same k WHILE) _ _ (λ q. (condition_next n b, refl))
      (λ q4. by-test P (same k PRINT) _ _ (λ q. (print_next n b, refl))
      (λ q5. by-test P (same k EXIT) _ _ (λ q. (finished n b, refl))
      (λ q6. by-test P (same k NEXT && main_of b) _ _ (λ q. (finished n b, refl))
      (λ q7. operand-some fresh (value n b) k (only-expression in_main b k m q1 q2 q3 q4 q5 q6 q7 h))))))))

  no-body-reads : (in_main : Bool) → StatementReads in_main (no_body edition in_main)
  unfolding no_body
  no-body-reads in_main n b x t m g e =
      by-test (SReads n b x t (suc t.start)) (starts_statement edition in_main t.kind) (no _ _) (no _ _)
      (λ q. let i = begin-some in_main n b t.kind m q in too-deep edition s x i.0 t (e ∙ i.1))
      (λ q. refused edition s x t (e ∙ begin-none in_main n b t.kind m q))

  statement-semi : (in_main : Bool) (levels : ℕ) (t : Token) → is semicolon t ≡ true → statement_at edition s in_main levels t ≡ ok empty (token_after edition s t)
  unfolding statement_at statement_of
  statement-semi in_main zero t q = rw q
  statement-semi in_main (suc levels) t q = rw q

  pub statement-reads : (in_main : Bool) (levels : ℕ) → StatementReads in_main (statement_at edition s in_main levels)
  unfolding statement_at
  statement-reads in_main zero n b x t m g e =
      statement-of-reads in_main (no_body edition in_main) (no-body-reads in_main) zero too_deep (λ n b x t m g q e. too-deep edition s x (list 0 false (nested n b)) t e) n b x t m g e
  statement-reads in_main (suc levels) n b x t m g e =
      statement-of-reads in_main (statement_at edition s in_main levels) (statement-reads in_main levels) (suc levels) (block_of edition s (statement_at edition s in_main levels))
      (braces-read in_main (statement_at edition s in_main levels) (statement-reads in_main levels) (statement-semi in_main levels)) n b x t m g e

  -- an action's block
  pub action-reads : (in_main : Bool) (levels : ℕ) (x : State) (t : Token) → InText edition s 0 t → is open_brace t ≡ true → step edition x t.kind ≡ some (list 0 false (action in_main))
      → Pauses between x t (suc t.start) (block_of edition s (statement_at edition s in_main levels) t)
  action-reads in_main levels x t g q e =
      block_reads in_main (statement_at edition s in_main levels) (statement-reads in_main levels) (statement-semi in_main levels) (action in_main) x t refl g q e
