-- The machine takes every sentence of the grammar.
use mathlib.Core.Path.{◌≡◌, refl, sym, ap, subst, ◌∙◌}
use mathlib.Core.Bool.{Bool, true, false, not, ◌&&◌}
use mathlib.Core.List.{List, [], ◌∷◌, ◌++◌}
use mathlib.Core.Option.{Option, some, none}
use mathlib.Core.Logic.{◌⊎◌, inl, inr, ⊎_elim}
use Prim.Native.Nat.{ℕ, suc}
use Rattle.lists.proofs.Tests.{clash, and-true}
use Rattle.lists.proofs.Options.{none-some}
use Rattle.program_tokens.specs.Kinds.{Kind, text_end, newline, BEGIN, END, IF, ELSE, WHILE, PRINT, NEXT, EXIT, open_brace, close_brace, open_paren, close_paren, comma, semicolon, same, among, rank}
use Rattle.program_tokens.proofs.Ranks.{same-is}
use Rattle.program_grammar.specs.Sets.{enders, starts_expression}
use Rattle.program_grammar.specs.Grammar.{Newlines, none as no-newline, more as newline-more, Separators, none as no-separator, more as separator-more, elsewhere, expression, Form, PrintList, last as last-element, next as next-element, End, needs_end, ended, Else, takes_else, whole, BeforeElse, newlines, ending_newline, one_semicolon, value as value-statement, print, print-list, if, if-else, while, block, next, exit as exit-statement, empty, Block, braces, none as no-statement, blank_line, after_ended, after_end, last, Item, begin, end, pattern as pattern-block, always, Items, none as no_item, item, pattern as pattern-item, last_pattern, Sentence, program}
use Rattle.program_grammar.specs.Viable.{Viable}
use Rattle.program_exact.specs.Machine.{Mode, fresh, Blocks, action, nested, Context, condition, value, listed, pattern, State, start, between, done, action_next, operand, after, condition_next, body, print_next, finished, list, main_of, closed, finished_step, exit, operand_step, begin_step, list_step, item_step, step, step_in, run}
use Rattle.program_exact.proofs.Facts.{each, by-test, quiet, idle, run_none, run-append, from, from_then, after-quiet, idle-operand, Begins, begun, from-operand, quiet-starts, operand-starts}
use Rattle.program_exact.proofs.Forms.{one_of, line-run, swapped, runs}

-- what ends a statement that needs an end
abbrev pub stops : List Kind
stops = newline ∷ semicolon ∷ close_brace ∷ []

abbrev Needs : End → Type 0
Needs needs_end = Unit
Needs ended = ⊥

module _ (edition : ℕ) where
  pub stop-quiet : (k : Kind) → among stops k ≡ true → among quiet k ≡ true
  unfolding among rank
  stop-quiet k h = each (λ k. among quiet k ≡ true) stops (refl, (refl, (refl, tt))) k h

  -- where the machine is after a statement
  abbrev Stands : End → ℕ → Blocks → State → Type 0
  Stands ended n b x = x ≡ list n false b
  Stands needs_end n b x = (k : Kind) → among stops k ≡ true → step edition x k ≡ finished_step n b k

  abbrev Pending : Else → ℕ → ℕ → Type 0
  Pending whole n k = k ≡ n
  Pending takes_else n k = Unit

  -- a lone `;`, or something that does not begin with one
  abbrev Headed : List Kind → Type 0
  Headed [] = Unit
  Headed (k ∷ l) = same k semicolon ≡ false

  abbrev First : End → List Kind → Type 0
  First e l = (Headed l) ⊎ ((e ≡ ended) × (l ≡ semicolon ∷ []))

  pub record Stated (e : End) (o : Else) (n : ℕ) (b : Blocks) (l : List Kind) : Type 0 where
    pub state : State
    pub pending : ℕ
    pub own : Pending o n pending
    pub run-to : from edition (begin_step edition n b) l ≡ some state
    pub stands : Stands e pending b state
    pub first : First e l

  abbrev RunsStatement : Bool → End → Else → List Kind → Type 0
  RunsStatement in_main e o l = (n : ℕ) (b : Blocks) → main_of b ≡ in_main → Stated e o n b l

  abbrev RunsBlock : Bool → List Kind → Type 0
  RunsBlock in_main l = (f : Kind → Option State) (b : Blocks) → main_of b ≡ in_main → f open_brace ≡ some (list 0 false b)
      → from edition f l ≡ some (closed b)

  abbrev RunsList : Bool → List Kind → Type 0
  RunsList in_main l = (n : ℕ) (p : Bool) (b : Blocks) → main_of b ≡ in_main → step_in edition (run edition l (some (list n p b))) close_brace ≡ some (closed b)

  -- ---- parts

  newlines-body : (n : ℕ) (b : Blocks) (l : List Kind) → Newlines l → run edition l (some (body n b)) ≡ some (body n b)
  unfolding run step rank
  newlines-body n b _ no-newline = refl
  newlines-body n b _ (newline-more {l = l} h) = newlines-body n b l h

  newlines-list : (n : ℕ) (p : Bool) (b : Blocks) (l : List Kind) → Newlines l → run edition l (some (list n p b)) ≡ some (list n p b)
  unfolding run step list_step rank
  newlines-list n p b _ no-newline = refl
  newlines-list n p b _ (newline-more {l = l} h) = newlines-list n p b l h

  idle-begin : (n : ℕ) (b : Blocks) → begin_step edition n b newline ≡ none
  unfolding begin_step among rank
  idle-begin n b = idle-operand edition fresh (value n b) newline refl

  from-body : (n : ℕ) (b : Blocks) → Begins edition (body n b) (begin_step edition n b)
  unfolding step
  from-body n b k =
      by-test (λ x. (begin_step edition n b k ≡ none) ⊎ (x ≡ begin_step edition n b k)) (same k newline) _ _
      (λ e. inl (ap (begin_step edition n b) (same-is k newline e) ∙ idle-begin n b)) (λ e. inr refl)

  body_run : (n : ℕ) (b : Blocks) (a l : List Kind) (x : State) → Newlines a → from edition (begin_step edition n b) l ≡ some x
      → run edition (a ++ l) (some (body n b)) ≡ some x
  body_run n b a l x h e =
      run-append edition a l (some (body n b)) ∙ (ap (run edition l) (newlines-body n b a h) ∙ begun edition (body n b) x (begin_step edition n b) l (from-body n b) e)

  -- an expression where a statement begins
  statement-first : (n : ℕ) (b : Blocks) (k : Kind) → (operand_step edition fresh (value n b) k ≡ none) ⊎ (begin_step edition n b k ≡ operand_step edition fresh (value n b) k)
  unfolding begin_step among rank
  statement-first n b k =
      let P : Option State → Type 0 = λ x. (operand_step edition fresh (value n b) k ≡ none) ⊎ (x ≡ operand_step edition fresh (value n b) k) in
      let off : (j : Kind) → same k j ≡ true → among idle j ≡ true → operand_step edition fresh (value n b) k ≡ none =
      λ j e h. ap (operand_step edition fresh (value n b)) (same-is k j e) ∙ idle-operand edition fresh (value n b) j h in
      by-test P (same k semicolon) _ _ (λ e. inl (off semicolon e refl))
      (λ e. by-test P (same k open_brace) _ _ (λ e. inl (off open_brace e refl))
      (λ e. by-test P (same k IF) _ _ (λ e. inl (off IF e refl))
      (λ e. by-test P (same k WHILE) _ _ (λ e. inl (off WHILE e refl))
      (λ e. by-test P (same k PRINT) _ _ (λ e. inl (off PRINT e refl))
      (λ e. by-test P (same k EXIT) _ _ (λ e. inl (off EXIT e refl))
      (λ e. by-test P (same k NEXT && main_of b) _ _ (λ e. inl (off NEXT (and-true (same k NEXT) (main_of b) e).0 refl)) (λ e. inr refl)))))))

  headed : (m : Mode) (c : Context) (l : List Kind) (x : State) → from edition (operand_step edition m c) l ≡ some x → Headed l
  unfolding among rank
  headed m c [] x h = tt
  headed m c (k ∷ l) x h = go (same k semicolon) refl
    where
      go : (b : Bool) → same k semicolon ≡ b → same k semicolon ≡ false
      go false e = e
      go true e = absurd (none-some (sym (run_none edition l) ∙ (ap (run edition l) (sym (ap (operand_step edition m c) (same-is k semicolon e) ∙ idle-operand edition m c semicolon refl)) ∙ h)))

  -- the elements of a print list
  list-run : (n : ℕ) (b : Blocks) (l : List Kind) → PrintList edition l → (m : Mode) × (from edition (operand_step edition fresh (listed n b)) l ≡ some (after m (listed n b)))
  unfolding run step exit among rank
  list-run n b l (last-element d) = runs edition d (listed n b) refl
  list-run n b l (next-element {l = a} {n = s} {r = r} d h e) =
      let i = runs edition d (listed n b) refl in
      let j = list-run n b r e in (
        j.0,
        from_then edition (operand_step edition fresh (listed n b)) a (comma ∷ (s ++ r)) (after i.0 (listed n b)) i.1
            ∙ (ap (run edition (s ++ r)) (after-quiet edition i.0 (listed n b) comma refl) ∙ line-run edition fresh j.0 (listed n b) s r h j.1),
      )

  -- ---- ends of statements

  from-print : (n : ℕ) (b : Blocks) → Begins edition (print_next n b) (operand_step edition fresh (listed n b))
  unfolding step
  from-print n b k =
      by-test (λ x. (operand_step edition fresh (listed n b) k ≡ none) ⊎ (x ≡ operand_step edition fresh (listed n b) k)) (starts_expression edition k) _ _
      (λ e. inr refl) (λ e. inl (operand-starts edition fresh (listed n b) k e))

  stands-print : (n : ℕ) (b : Blocks) → Stands needs_end n b (print_next n b)
  unfolding step
  stands-print n b k h = rw (quiet-starts edition k (stop-quiet k h))

  stands-value : (n : ℕ) (b : Blocks) (m : Mode) → Stands needs_end n b (after m (value n b))
  unfolding step exit
  stands-value n b m k h = after-quiet edition m (value n b) k (stop-quiet k h)

  stands-list : (n : ℕ) (b : Blocks) (m : Mode) → Stands needs_end n b (after m (listed n b))
  unfolding step exit among rank
  stands-list n b m k h =
      after-quiet edition m (listed n b) k (stop-quiet k h)
      ∙ each (λ k. exit (listed n b) k ≡ finished_step n b k) stops (refl, (refl, (refl, tt))) k h

  stands-finished : (n : ℕ) (b : Blocks) → Stands needs_end n b (finished n b)
  unfolding step
  stands-finished n b k h = refl

  -- ---- `else`

  else-list : (n : ℕ) (p : Bool) (b : Blocks) (l : List Kind) → Newlines l
      → run edition (l ++ (ELSE ∷ [])) (some (list (suc n) p b)) ≡ some (body n b)
  unfolding run step list_step rank
  else-list n p b l h = run-append edition l (ELSE ∷ []) (some (list (suc n) p b)) ∙ ap (λ o. step_in edition o ELSE) (newlines-list (suc n) p b l h)

  mark-list : (n : ℕ) (b : Blocks) (l r : List Kind) → Newlines l → Newlines r
      → run edition ((l ++ (semicolon ∷ r)) ++ (ELSE ∷ [])) (some (list (suc n) false b)) ≡ some (body n b)
  unfolding run step list_step rank
  mark-list n b _ r no-newline k = else-list n true b r k
  mark-list n b _ r (newline-more {l = l} h) k = mark-list n b l r h k

  before-else : (e : End) (n : ℕ) (b : Blocks) (x : State) (l : List Kind) → Stands e (suc n) b x → BeforeElse e l
      → run edition (l ++ (ELSE ∷ [])) (some x) ≡ some (body n b)
  unfolding run finished_step among rank
  before-else e n b x l s (newlines {n = a} h) = ap (λ y. run edition (a ++ (ELSE ∷ [])) (some y)) s ∙ else-list n false b a h
  before-else e n b x l s (ending_newline {n = a} h) = ap (run edition (a ++ (ELSE ∷ []))) (s newline refl) ∙ else-list n false b a h
  before-else e n b x l s (one_semicolon {e = d} {n = a} {m = r} h k) = go d a h s
    where
      go : (e : End) (a : List Kind) → Newlines a → Stands e (suc n) b x → run edition ((a ++ (semicolon ∷ r)) ++ (ELSE ∷ [])) (some x) ≡ some (body n b)
      go ended a h s = ap (λ y. run edition ((a ++ (semicolon ∷ r)) ++ (ELSE ∷ [])) (some y)) s ∙ mark-list n b a r h k
      go needs_end _ no-newline s = ap (run edition (r ++ (ELSE ∷ []))) (s semicolon refl) ∙ else-list n true b r k
      go needs_end _ (newline-more {l = a} h) s = ap (run edition ((a ++ (semicolon ∷ r)) ++ (ELSE ∷ []))) (s newline refl) ∙ mark-list n b a r h k

  else-then : (e : End) (n : ℕ) (b : Blocks) (x y : State) (l r : List Kind) → Stands e (suc n) b x → BeforeElse e l → run edition r (some (body n b)) ≡ some y
      → run edition (l ++ (ELSE ∷ r)) (some x) ≡ some y
  unfolding run
  else-then e n b x y l r s h k =
      let reached : step_in edition (run edition l (some x)) ELSE ≡ some (body n b) = sym (run-append edition l (ELSE ∷ []) (some x)) ∙ before-else e n b x l s h in
      run-append edition l (ELSE ∷ r) (some x) ∙ (ap (run edition r) reached ∙ k)

  condition-run : (n : ℕ) (b : Blocks) (c r : List Kind) (x : State) → Form edition (expression elsewhere) c → run edition r (some (body n b)) ≡ some x
      → run edition (open_paren ∷ (c ++ (close_paren ∷ r))) (some (condition_next n b)) ≡ some x
  unfolding run step exit among rank
  condition-run n b c r x d h =
      let i = runs edition d (condition n b) refl in
      run-append edition c (close_paren ∷ r) (some (operand fresh (condition n b)))
      ∙ (ap (run edition (close_paren ∷ r)) (begun edition (operand fresh (condition n b)) (after i.0 (condition n b)) (operand_step edition fresh (condition n b)) c (from-operand edition fresh (condition n b)) i.1)
      ∙ (ap (run edition r) (after-quiet edition i.0 (condition n b) close_paren refl) ∙ h))

  -- a statement of a list
  list-begins : (n : ℕ) (p : Bool) (b : Blocks) (k : Kind) → same k semicolon ≡ false
      → (begin_step edition 0 b k ≡ none) ⊎ (list_step edition n p b k ≡ begin_step edition 0 b k)
  unfolding list_step begin_step among rank
  list-begins n p b k h =
      let P : Option State → Type 0 = λ x. (begin_step edition 0 b k ≡ none) ⊎ (x ≡ begin_step edition 0 b k) in
      let off : (j : Kind) → same k j ≡ true → begin_step edition 0 b j ≡ none → begin_step edition 0 b k ≡ none =
      λ j e f. ap (begin_step edition 0 b) (same-is k j e) ∙ f in
      by-test P (same k newline) _ _ (λ e. inl (off newline e (idle-operand edition fresh (value 0 b) newline refl)))
      (λ e. by-test P (same k close_brace) _ _ (λ e. inl (off close_brace e (idle-operand edition fresh (value 0 b) close_brace refl)))
      (λ e. by-test P (same k ELSE) _ _ (λ e. inl (off ELSE e (idle-operand edition fresh (value 0 b) ELSE refl)))
      (λ e. by-test P (same k semicolon && not p) _ _ (λ e. absurd (clash (sym (and-true (same k semicolon) (not p) e).0 ∙ h))) (λ e. inr refl))))

  list-first : (n : ℕ) (p : Bool) (b : Blocks) (l : List Kind) (x : State) → Headed l → from edition (begin_step edition 0 b) l ≡ some x
      → run edition l (some (list n p b)) ≡ some x
  unfolding run step
  list-first n p b [] x h e = absurd (none-some e)
  list-first n p b (k ∷ l) x h e =
      ⊎_elim (λ d. absurd (none-some (sym (run_none edition l) ∙ (ap (run edition l) (sym d) ∙ e)))) (λ d. ap (run edition l) d ∙ e) (list-begins n p b k h)

  ended-needs : {A : Type 0} → needs_end ≡ ended → A
  ended-needs {A} e = absurd (subst Needs e tt)

  -- a lone `;` in a list
  lone : (n : ℕ) (p : Bool) (b : Blocks) → (m : ℕ) × (q : Bool) × (run edition (semicolon ∷ []) (some (list n p b)) ≡ some (list m q b))
  unfolding run step list_step begin_step rank
  lone n true b = (0, false, refl)
  lone n false b = (n, true, refl)

  next-run : (n : ℕ) (b : Blocks) → main_of b ≡ true → begin_step edition n b NEXT ≡ some (finished n b)
  unfolding begin_step rank
  next-run n b h = rw h

  ends-run : (n : ℕ) (b : Blocks) (k : Kind) → among enders k ≡ true → finished_step n b k ≡ some (list n (same k semicolon) b)
  unfolding finished_step
  ends-run n b k h = rw h

  pub block_runs : {in_main : Bool} {l : List Kind} → Block edition in_main l → (RunsBlock in_main l) × (Headed l)
  unfolding run begin_step finished_step step list_step among rank
  block_runs {in_main} {l} x =
      elim x as (λ e o l _. RunsStatement in_main e o l) (λ l _. (RunsBlock in_main l) × (Headed l)) (λ l _. RunsList in_main l) [
        | value-statement {l = l} d ↦ (λ n b h.
            let i = runs edition d (value n b) refl in
            record {
              state = after i.0 (value n b);
              pending = n;
              own = refl;
              run-to = swapped edition (begin_step edition n b) (operand_step edition fresh (value n b)) l (after i.0 (value n b)) (statement-first n b) i.1;
              stands = stands-value n b i.0;
              first = inl (headed fresh (value n b) l (after i.0 (value n b)) i.1);
            })
        | print ↦ (λ n b h. record { state = print_next n b; pending = n; own = refl; run-to = refl; stands = stands-print n b; first = inl refl })
        | print-list {l = l} d ↦ (λ n b h.
            let i = list-run n b l d in
            record {
              state = after i.0 (listed n b);
              pending = n;
              own = refl;
              run-to = begun edition (print_next n b) (after i.0 (listed n b)) (operand_step edition fresh (listed n b)) l (from-print n b) i.1;
              stands = stands-list n b i.0;
              first = inl refl;
            })
        | if {c = c} {n = s} {a = a} d h (t → t') ↦ (λ n b g.
            let i = t' (suc n) b g in
            record {
              state = i.state;
              pending = i.pending;
              own = tt;
              run-to = condition-run (suc n) b c (s ++ a) i.state d (body_run (suc n) b s a i.state h i.run-to);
              stands = i.stands;
              first = inl refl;
            })
        | if-else {e = e} {f = f} {c = c} {n = s} {a = a} {b = r} {m = m} {d = z} d h (t → t') w k (u → u') ↦ (λ n b g.
            let i = t' (suc n) b g in
            let j = u' n b g in
            let rest : List Kind = r ++ (ELSE ∷ (m ++ z)) in
            record {
              state = j.state;
              pending = j.pending;
              own = j.own;
              run-to = condition-run (suc n) b c (s ++ (a ++ rest)) j.state d
                  (run-append edition s (a ++ rest) (some (body (suc n) b))
                  ∙ (ap (run edition (a ++ rest)) (newlines-body (suc n) b s h)
                  ∙ (run-append edition a rest (some (body (suc n) b))
                  ∙ (ap (run edition rest) (begun edition (body (suc n) b) i.state (begin_step edition (suc n) b) a (from-body (suc n) b) i.run-to)
                  ∙ else-then e n b i.state j.state r (m ++ z) (subst (λ (q : ℕ). Stands e q b i.state) i.own i.stands) w
                  (body_run n b m z j.state k j.run-to)))));
              stands = j.stands;
              first = inl refl;
            })
        | while {c = c} {n = s} {a = a} d h (t → t') ↦ (λ n b g.
            let i = t' n b g in
            record {
              state = i.state;
              pending = i.pending;
              own = i.own;
              run-to = condition-run n b c (s ++ a) i.state d (body_run n b s a i.state h i.run-to);
              stands = i.stands;
              first = inl refl;
            })
        | block {l = l} (d → d') ↦ (λ n b g.
            record {
              state = list n false b;
              pending = n;
              own = refl;
              run-to = d'.0 (begin_step edition n b) (nested n b) g refl;
              stands = refl;
              first = inl d'.1;
            })
        | next e ↦ (λ n b g.
            record { state = finished n b; pending = n; own = refl; run-to = next-run n b (g ∙ e); stands = stands-finished n b; first = inl refl })
        | exit-statement ↦ (λ n b g. record { state = finished n b; pending = n; own = refl; run-to = refl; stands = stands-finished n b; first = inl refl })
        | empty ↦ (λ n b g. record { state = list n false b; pending = n; own = refl; run-to = refl; stands = refl; first = inr (refl, refl) })
        | braces {l = l} (d → d') ↦
            ((λ f b g e. ap (run edition (l ++ (close_brace ∷ []))) e ∙ (run-append edition l (close_brace ∷ []) (some (list 0 false b)) ∙ d' 0 false b g)), refl)
        | no-statement ↦ (λ n p b g. refl)
        | blank_line (d → d') ↦ (λ n p b g. d' n p b g)
        | after_ended {a = a} {l = l} (d → d') (r → r') ↦ (λ n p b g.
            let i = d' 0 b g in
            let then-list : (m : ℕ) (q : Bool) → run edition a (some (list n p b)) ≡ some (list m q b)
            → step_in edition (run edition (a ++ l) (some (list n p b))) close_brace ≡ some (closed b) =
            λ m q e. ap (λ o. step_in edition o close_brace) (run-append edition a l (some (list n p b)) ∙ ap (run edition l) e) ∙ r' m q b g in
            ⊎_elim
            (λ h. then-list i.pending false (list-first n p b a i.state h i.run-to ∙ ap {B = Option State} some i.stands))
            (λ h. let x = lone n p b in then-list x.0 x.1 (ap (λ y. run edition y (some (list n p b))) h.1 ∙ x.2)) i.first)
        | after_end {k = k} {a = a} {l = l} (d → d') t (r → r') ↦ (λ n p b g.
            let i = d' 0 b g in
            let stop : among stops k ≡ true = each (λ k. among stops k ≡ true) enders (refl, (refl, tt)) k (one_of t) in
            ⊎_elim
            (λ h.
            ap (λ o. step_in edition o close_brace) (run-append edition a (k ∷ l) (some (list n p b)) ∙ (ap (run edition (k ∷ l)) (list-first n p b a i.state h i.run-to)
            ∙ ap (run edition l) (i.stands k stop ∙ ends-run i.pending b k (one_of t)))) ∙ r' i.pending (same k semicolon) b g)
            (λ h. ended-needs h.0) i.first)
        | last {a = a} (d → d') ↦ (λ n p b g.
            let i = d' 0 b g in
            ⊎_elim
            (λ h. ap (λ o. step_in edition o close_brace) (list-first n p b a i.state h i.run-to) ∙ i.stands close_brace refl)
            (λ h. ended-needs h.0) i.first)
      ]

  -- ---- items

  item-first : (k : Kind) → (operand_step edition fresh pattern k ≡ none) ⊎ (item_step edition k ≡ operand_step edition fresh pattern k)
  unfolding item_step among rank
  item-first k =
      let P : Option State → Type 0 = λ x. (operand_step edition fresh pattern k ≡ none) ⊎ (x ≡ operand_step edition fresh pattern k) in
      by-test P (same k text_end) _ _ (λ e. inl (ap (operand_step edition fresh pattern) (same-is k text_end e) ∙ idle-operand edition fresh pattern text_end refl))
      (λ e. by-test P (among (BEGIN ∷ END ∷ []) k) _ _
      (λ e. inl (each (λ k. operand_step edition fresh pattern k ≡ none) (BEGIN ∷ END ∷ []) (idle-operand edition fresh pattern BEGIN refl, (idle-operand edition fresh pattern END refl, tt)) k e))
      (λ e. by-test P (same k open_brace) _ _ (λ e. inl (ap (operand_step edition fresh pattern) (same-is k open_brace e) ∙ idle-operand edition fresh pattern open_brace refl)) (λ e. inr refl)))

  pattern-run : (l : List Kind) → Form edition (expression elsewhere) l → (m : Mode) × (from edition (item_step edition) l ≡ some (after m pattern))
  pattern-run l d =
      let i = runs edition d pattern refl in
      (i.0, swapped edition (item_step edition) (operand_step edition fresh pattern) l (after i.0 pattern) item-first i.1)

  item-run : (l : List Kind) → Item edition l → from edition (item_step edition) l ≡ some between
  unfolding run step item_step exit among rank
  item-run l (begin {a = a} d) = begun edition action_next between (step edition action_next) a (λ k. inr refl) ((block_runs d).0 (step edition action_next) (action false) refl refl)
  item-run l (end {a = a} d) = begun edition action_next between (step edition action_next) a (λ k. inr refl) ((block_runs d).0 (step edition action_next) (action false) refl refl)
  item-run l (pattern-block {e = e} {a = a} d b) =
      let i = pattern-run e d in
      from_then edition (item_step edition) e a (after i.0 pattern) i.1
      ∙ begun edition (after i.0 pattern) between (step edition (after i.0 pattern)) a (λ k. inr refl)
      ((block_runs b).0 (step edition (after i.0 pattern)) (action true) refl (after-quiet edition i.0 pattern open_brace refl))
  item-run l (always d) = (block_runs d).0 (item_step edition) (action true) refl refl

  separators-run : (l : List Kind) → Separators l → run edition l (some between) ≡ some between
  unfolding run step
  separators-run l no-separator = refl
  separators-run l (separator-more {k = k} {l = r} o h) = rw (one_of o) (separators-run r h)

  pub idle-item : (k : Kind) → among enders k ≡ true → item_step edition k ≡ none
  unfolding item_step among rank
  idle-item k h =
      each (λ k. item_step edition k ≡ none) enders (idle-operand edition fresh pattern newline refl, (idle-operand edition fresh pattern semicolon refl, tt)) k h

  from-between : Begins edition between (item_step edition)
  unfolding step
  from-between k =
      by-test (λ x. (item_step edition k ≡ none) ⊎ (x ≡ item_step edition k)) (among enders k) _ _ (λ e. inl (idle-item k e)) (λ e. inr refl)

  from_start : Begins edition start (item_step edition)
  unfolding step among rank
  from_start k =
      by-test (λ x. (item_step edition k ≡ none) ⊎ (x ≡ item_step edition k)) (same k newline) _ _
      (λ e. inl (ap (item_step edition) (same-is k newline e) ∙ idle-item newline refl)) (λ e. inr refl)

  ended-run : (x : State) → Begins edition x (item_step edition) → step edition x text_end ≡ some done
  unfolding item_step rank
  ended-run x b = ⊎_elim (λ e. absurd (none-some (sym e))) (λ e. e) (b text_end)

  pattern-ended : (m : Mode) (k : Kind) → among enders k ≡ true → step edition (after m pattern) k ≡ some between
  unfolding step exit among rank
  pattern-ended m k h =
      let stop = each (λ k. (among quiet k ≡ true) × (exit pattern k ≡ some between)) enders ((refl, refl), ((refl, refl), tt)) k h in
      after-quiet edition m pattern k stop.0 ∙ stop.1

  pattern-done : (m : Mode) → step edition (after m pattern) text_end ≡ some done
  unfolding step exit among rank
  pattern-done m = after-quiet edition m pattern text_end refl

  items-run : (l : List Kind) → Items edition l → (x : State) → Begins edition x (item_step edition) → step_in edition (run edition l (some x)) text_end ≡ some done
  unfolding run
  items-run l no_item x b = ended-run x b
  items-run l (item {i = i} {n = n} {l = r} d s h) x b =
      ap (λ o. step_in edition o text_end)
      (run-append edition i (n ++ r) (some x)
      ∙ (ap (run edition (n ++ r)) (begun edition x between (item_step edition) i b (item-run i d)) ∙ (run-append edition n r (some between) ∙ ap (run edition r) (separators-run n s))))
      ∙ items-run r h between from-between
  items-run l (pattern-item {k = k} {e = e} {n = n} {l = r} d o s h) x b =
      let i = pattern-run e d in
      ap (λ o. step_in edition o text_end)
      (run-append edition e (k ∷ (n ++ r)) (some x)
      ∙ (ap (run edition (k ∷ (n ++ r))) (begun edition x (after i.0 pattern) (item_step edition) e b i.1)
      ∙ (ap (run edition (n ++ r)) (pattern-ended i.0 k (one_of o)) ∙ (run-append edition n r (some between) ∙ ap (run edition r) (separators-run n s)))))
      ∙ items-run r h between from-between
  items-run l (last_pattern d) x b =
      let i = pattern-run l d in
      ap (λ o. step_in edition o text_end) (begun edition x (after i.0 pattern) (item_step edition) l b i.1) ∙ pattern-done i.0

  newlines-start : (l : List Kind) → Newlines l → run edition l (some start) ≡ some start
  unfolding run step rank
  newlines-start l no-newline = refl
  newlines-start l (newline-more {l = r} h) = newlines-start r h

  -- a sentence is taken
  pub sentence-run : (l : List Kind) → Sentence edition l → run edition l (some start) ≡ some done
  unfolding run
  sentence-run l (program {n = n} {l = r} h d) =
      run-append edition n (r ++ (text_end ∷ [])) (some start)
      ∙ (ap (run edition (r ++ (text_end ∷ []))) (newlines-start n h) ∙ (run-append edition r (text_end ∷ []) (some start) ∙ items-run r d start from_start))

  -- what is not taken can't be completed
  pub not-viable : (l : List Kind) → run edition l (some start) ≡ none → Viable edition l → ⊥
  not-viable l h v =
      none-some (sym (run_none edition v.rest) ∙ (ap (run edition v.rest) (sym h) ∙ (sym (run-append edition l v.rest (some start)) ∙ sentence-run (l ++ v.rest) v.complete)))
