-- The count opens the levels that each derivation says: statements, items, programs.
use mathlib.Core.Path.{◌≡◌, refl, sym, ap, subst, ◌∙◌}
use mathlib.Core.Bool.{Bool, true, false, cond}
use mathlib.Core.List.{List, [], ◌∷◌, ◌++◌}
use mathlib.Core.Logic.{◌⊎◌, inl, inr, ⊎_elim}
use Prim.Native.Nat.{ℕ, suc}
use Rattle.lists.proofs.Tests.{clash}
use Rattle.program_tokens.specs.Kinds.{Kind, text_end, newline, BEGIN, END, IF, ELSE, WHILE, PRINT, NEXT, EXIT, open_brace, close_brace, open_paren, close_paren, comma, semicolon, same, among, rank}
use Rattle.program_tokens.proofs.Ranks.{same-is}
use Rattle.program_grammar.specs.Sets.{enders}
use Rattle.program_grammar.specs.Grammar.{Newlines, none as no-newline, more as newline-more, Separators, none as no-separator, more as separator-more, elsewhere, in_print, expression, Form, PrintList, last as last-element, next as next-element, End, needs_end, ended, Else, takes_else, whole, BeforeElse, newlines, ending_newline, one_semicolon, Statement, value as value-statement, print, print-list, if, if-else, while, block, next, exit as exit-statement, empty, Block, braces, Statements, none as no-statement, blank_line, after_ended, after_end, last, Item, begin, end, pattern as pattern-block, always, Items, none as no_item, item, pattern as pattern-item, last_pattern, Sentence, program}
use Rattle.program_exact.proofs.Facts.{each, quiet, idle, quiet-starts}
use Rattle.program_exact.proofs.Forms.{one_of}
use Rattle.program_exact.proofs.Sentences.{stops, stop-quiet}
use Rattle.program_levels.specs.Levels.{still, opening, bodied, conditioned, alternated, braced, opened, opened_in_list, opened_by_block, opened_by_item, opened_by_items, opened_by}
use Rattle.program_levels.proofs.Count.{Braces, action, nested, Around, condition, statement, pattern, Count, between, done, action_next, operand, after, condition_next, body, print_next, list, Move, moves, level_of, closed, raise, leave, operand_move, begin_move, list_move, item_move, move, travel, trace}
use Rattle.program_levels.proofs.Derivations.{AtFirst, at_first, Went, Goes, went-nil, went_then, goes_then, went-step, goes_step, swapped, went-first, went-operand, lines-went, quiet-move, after_is, Begins, expression-begins, passes}

-- a kind is not one of a list that it is not in
pub apart : (l : List Kind) (k j : Kind) → among l k ≡ false → among l j ≡ true → same k j ≡ false
apart l k j h i = decide (same k j) refl
  where
    decide : (b : Bool) → same k j ≡ b → same k j ≡ false
    decide false e = e
    decide true e = absurd (clash (sym (ap (among l) (same-is k j e) ∙ i) ∙ h))

-- what ends a statement
abbrev pub finish : List ℕ → Braces → Kind → Move
finish p b k = cond (among enders k) (moves 0 (list p (same k semicolon) b)) (moves 0 (closed b))

abbrev Needs : End → Type 0
Needs needs_end = Unit
Needs ended = ⊥

module _ (edition : ℕ) where
  -- the table of specs/Levels once more, for a statement and for a list of statements
  opened_by_statement : {in_main : Bool} {e : End} {o : Else} {l : List Kind} → Statement edition in_main e o l → ℕ → List ℕ
  opened_by_statement x =
      elim x as (λ e o l _. ℕ → List ℕ) (λ l _. ℕ → List ℕ) (λ l _. ℕ → List ℕ) [
        | value-statement d ↦ (λ n. opened edition d n)
        | print ↦ (λ n. 0 ∷ [])
        | print-list d ↦ (λ n. 0 ∷ opened_in_list edition d n)
        | if {n = lines} d h (t → t') ↦ (λ n. conditioned n (opened edition d) lines (bodied n t'))
        | if-else {n = lines} {b = ends} {m = more} d h (t → t') w k (u → u') ↦
            (λ n. conditioned n (opened edition d) lines (alternated n t' ends more u'))
        | while {n = lines} d h (t → t') ↦ (λ n. conditioned n (opened edition d) lines (bodied n t'))
        | block (d → d') ↦ d'
        | next e ↦ (λ n. 0 ∷ [])
        | exit-statement ↦ (λ n. 0 ∷ [])
        | empty ↦ (λ n. 0 ∷ [])
        | braces (d → d') ↦ (λ n. braced n d')
        | no-statement ↦ (λ n. [])
        | blank_line (d → d') ↦ (λ n. 0 ∷ d' n)
        | after_ended (d → d') (r → r') ↦ (λ n. d' n ++ r' n)
        | after_end (d → d') t (r → r') ↦ (λ n. d' n ++ (0 ∷ r' n))
        | last (d → d') ↦ d'
      ]

  opened_by_statements : {in_main : Bool} {l : List Kind} → Statements edition in_main l → ℕ → List ℕ
  opened_by_statements x =
      elim x as (λ e o l _. ℕ → List ℕ) (λ l _. ℕ → List ℕ) (λ l _. ℕ → List ℕ) [
        | value-statement d ↦ (λ n. opened edition d n)
        | print ↦ (λ n. 0 ∷ [])
        | print-list d ↦ (λ n. 0 ∷ opened_in_list edition d n)
        | if {n = lines} d h (t → t') ↦ (λ n. conditioned n (opened edition d) lines (bodied n t'))
        | if-else {n = lines} {b = ends} {m = more} d h (t → t') w k (u → u') ↦
            (λ n. conditioned n (opened edition d) lines (alternated n t' ends more u'))
        | while {n = lines} d h (t → t') ↦ (λ n. conditioned n (opened edition d) lines (bodied n t'))
        | block (d → d') ↦ d'
        | next e ↦ (λ n. 0 ∷ [])
        | exit-statement ↦ (λ n. 0 ∷ [])
        | empty ↦ (λ n. 0 ∷ [])
        | braces (d → d') ↦ (λ n. braced n d')
        | no-statement ↦ (λ n. [])
        | blank_line (d → d') ↦ (λ n. 0 ∷ d' n)
        | after_ended (d → d') (r → r') ↦ (λ n. d' n ++ r' n)
        | after_end (d → d') t (r → r') ↦ (λ n. d' n ++ (0 ∷ r' n))
        | last (d → d') ↦ d'
      ]

  abbrev Stands : End → List ℕ → Braces → Count → Type 0
  Stands ended p b x = x ≡ list p false b
  Stands needs_end p b x = (k : Kind) → among stops k ≡ true → move edition x k ≡ finish p b k

  abbrev Pending : Else → List ℕ → List ℕ → Type 0
  Pending whole p q = q ≡ p
  Pending takes_else p q = Unit

  -- a lone `;`, or what is no part of a list around it
  abbrev Head : Kind → Type 0
  Head k = among (newline ∷ close_brace ∷ ELSE ∷ semicolon ∷ []) k ≡ false

  abbrev First : End → List Kind → Type 0
  First e l = (AtFirst Head l) ⊎ ((e ≡ ended) × (l ≡ semicolon ∷ []))

  record Stated (e : End) (o : Else) (n : ℕ) (p : List ℕ) (b : Braces) (l : List Kind) (ns : List ℕ) : Type 0 where
    state : Count
    pending : List ℕ
    own : Pending o p pending
    goes : Goes edition (begin_move edition n p b) l ns state
    stands : Stands e pending b state
    first : First e l

  abbrev StatementGoes : End → Else → List Kind → (ℕ → List ℕ) → Type 0
  StatementGoes e o l ns = (n : ℕ) (p : List ℕ) (b : Braces) → Stated e o n p b l (ns n)

  abbrev BlockGoes : List Kind → (ℕ → List ℕ) → Type 0
  BlockGoes l ns = ((f : Kind → Move) (n : ℕ) (b : Braces) → level_of b ≡ suc n → f open_brace ≡ moves (suc n) (list [] false b) → Goes edition f l (ns n) (closed b))
      × (AtFirst Head l)

  abbrev ListGoes : List Kind → (ℕ → List ℕ) → Type 0
  ListGoes l ns = (p : List ℕ) (q : Bool) (b : Braces) → (y : Count) × (Went edition (list p q b) l (ns (level_of b)) y) × (move edition y close_brace ≡ moves 0 (closed b))

  -- ---- parts

  value-first : (n : ℕ) (p : List ℕ) (b : Braces) (k : Kind) → Begins edition k → begin_move edition n p b k ≡ operand_move edition n n (statement n p b) k
  unfolding Begins begin_move among rank
  value-first n p b k h =
      rw (apart idle k semicolon h.0 refl, apart idle k open_brace h.0 refl, apart idle k IF h.0 refl, apart idle k WHILE h.0 refl, apart idle k PRINT h.0 refl, apart idle k NEXT h.0 refl, apart idle k EXIT h.0 refl)

  headed : (k : Kind) → Begins edition k → Head k
  unfolding Begins among rank
  headed k h = rw (apart idle k newline h.0 refl, apart idle k close_brace h.0 refl, apart idle k ELSE h.0 refl, apart idle k semicolon h.0 refl)

  leave-stop : (n : ℕ) (p : List ℕ) (b : Braces) (k : Kind) → among stops k ≡ true → leave (statement n p b) k ≡ finish p b k
  unfolding leave among rank
  leave-stop n p b k h = each (λ k. leave (statement n p b) k ≡ finish p b k) stops (refl, (refl, (refl, tt))) k h

  pub stands-value : (e n : ℕ) (p : List ℕ) (b : Braces) → Stands needs_end p b (after e (statement n p b))
  stands-value e n p b k h = after_is edition e (statement n p b) k ∙ (quiet-move edition e (statement n p b) k (stop-quiet edition k h) ∙ leave-stop n p b k h)

  pub stands-print : (n : ℕ) (p : List ℕ) (b : Braces) → Stands needs_end p b (print_next n p b)
  unfolding move
  stands-print n p b k h = rw (quiet-starts edition k (stop-quiet edition k h)) (leave-stop n p b k h)

  print-first : (n : ℕ) (p : List ℕ) (b : Braces) (k : Kind) → Begins edition k → move edition (print_next n p b) k ≡ operand_move edition n n (statement n p b) k
  unfolding move Begins
  print-first n p b k h = rw h.1

  pub list-first : (p : List ℕ) (q : Bool) (b : Braces) (k : Kind) → same k newline ≡ false → same k close_brace ≡ false → same k ELSE ≡ false → same k semicolon ≡ false
      → move edition (list p q b) k ≡ begin_move edition (level_of b) [] b k
  unfolding move list_move
  list-first p q b k a c d e = rw (a, c, d, e)

  list-head : (p : List ℕ) (q : Bool) (b : Braces) (k : Kind) → Head k → move edition (list p q b) k ≡ begin_move edition (level_of b) [] b k
  unfolding among rank
  list-head p q b k h =
      let l : List Kind = newline ∷ close_brace ∷ ELSE ∷ semicolon ∷ [] in
      list-first p q b k (apart l k newline h refl) (apart l k close_brace h refl) (apart l k ELSE h refl) (apart l k semicolon h refl)

  pub lone : (p : List ℕ) (q : Bool) (b : Braces) → (r : List ℕ) × (u : Bool) × (move edition (list p q b) semicolon ≡ moves 0 (list r u b))
  unfolding move list_move begin_move rank
  lone p true b = ([], false, refl)
  lone p false b = (p, true, refl)

  -- ---- bodies

  raised : (m : ℕ) (f : Kind → Move) (l : List Kind) (ns : List ℕ) (y : Count) → Goes edition f l ns y → Goes edition (λ k. raise m (f k)) l (opening m ns) y
  raised m f [] ns y g = g
  raised m f (k ∷ l) ns y g = (g.0, ap (opening m) g.1)

  pub body-first : (n : ℕ) (p : List ℕ) (b : Braces) (k : Kind) → same k newline ≡ false → move edition (body n p b) k ≡ raise (suc n) (begin_move edition (suc n) p b k)
  unfolding move
  body-first n p b k h = rw h

  not_line : (e : End) (l : List Kind) → First e l → AtFirst (λ k. same k newline ≡ false) l
  unfolding among rank
  not_line e l (inl h) = at_first Head (λ k. same k newline ≡ false) l (λ k i. apart (newline ∷ close_brace ∷ ELSE ∷ semicolon ∷ []) k newline i refl) h
  not_line e l (inr h) = subst (AtFirst (λ k. same k newline ≡ false)) (sym h.1) refl

  lines-body : (n : ℕ) (p : List ℕ) (b : Braces) (l : List Kind) → Newlines l → Went edition (body n p b) l (still l) (body n p b)
  unfolding move rank
  lines-body n p b _ no-newline = went-nil edition (body n p b)
  lines-body n p b _ (newline-more {l = l} h) = went-step edition (body n p b) newline 0 (body n p b) l (still l) (body n p b) refl (lines-body n p b l h)

  body-went : (e : End) (o : Else) (n : ℕ) (p : List ℕ) (b : Braces) (s a : List Kind) (ns : List ℕ) → Newlines s → (i : Stated e o (suc n) p b a ns)
      → Went edition (body n p b) (s ++ a) (still s ++ opening (suc n) ns) i.state
  body-went e o n p b s a ns h i =
      went_then edition (body n p b) s a (still s) (opening (suc n) ns) (body n p b) i.state (lines-body n p b s h)
      (went-first edition (body n p b) (λ k. raise (suc n) (begin_move edition (suc n) p b k)) a (opening (suc n) ns) i.state
      (at_first (λ k. same k newline ≡ false) (λ k. move edition (body n p b) k ≡ raise (suc n) (begin_move edition (suc n) p b k)) a (body-first n p b) (not_line e a i.first))
      (raised (suc n) (begin_move edition (suc n) p b) a ns i.state i.goes))

  -- ---- `else`

  lines-list : (p : List ℕ) (q : Bool) (b : Braces) (l : List Kind) → Newlines l → Went edition (list p q b) l (still l) (list p q b)
  unfolding move list_move rank
  lines-list p q b _ no-newline = went-nil edition (list p q b)
  lines-list p q b _ (newline-more {l = l} h) = went-step edition (list p q b) newline 0 (list p q b) l (still l) (list p q b) refl (lines-list p q b l h)

  else-list : (n : ℕ) (p : List ℕ) (q : Bool) (b : Braces) (l r : List Kind) (ms : List ℕ) (z : Count) → Newlines l → Went edition (body n p b) r ms z
      → Went edition (list (n ∷ p) q b) (l ++ (ELSE ∷ r)) (still l ++ (0 ∷ ms)) z
  unfolding move list_move rank
  else-list n p q b l r ms z h w =
      went_then edition (list (n ∷ p) q b) l (ELSE ∷ r) (still l) (0 ∷ ms) (list (n ∷ p) q b) z (lines-list (n ∷ p) q b l h)
      (went-step edition (list (n ∷ p) q b) ELSE 0 (body n p b) r ms z refl w)

  mark-list : (n : ℕ) (p : List ℕ) (b : Braces) (l m r : List Kind) (ms : List ℕ) (z : Count) → Newlines l → Newlines m → Went edition (body n p b) r ms z
      → Went edition (list (n ∷ p) false b) ((l ++ (semicolon ∷ m)) ++ (ELSE ∷ r)) (still (l ++ (semicolon ∷ m)) ++ (0 ∷ ms)) z
  unfolding move list_move rank
  mark-list n p b _ m r ms z no-newline k w =
      went-step edition (list (n ∷ p) false b) semicolon 0 (list (n ∷ p) true b) (m ++ (ELSE ∷ r)) (still m ++ (0 ∷ ms)) z refl (else-list n p true b m r ms z k w)
  mark-list n p b _ m r ms z (newline-more {l = l} h) k w =
      went-step edition (list (n ∷ p) false b) newline 0 (list (n ∷ p) false b) ((l ++ (semicolon ∷ m)) ++ (ELSE ∷ r)) (still (l ++ (semicolon ∷ m)) ++ (0 ∷ ms)) z refl (mark-list n p b l m r ms z h k w)

  before-else : (e : End) (n : ℕ) (p : List ℕ) (b : Braces) (x : Count) (l r : List Kind) (ms : List ℕ) (z : Count) → Stands e (n ∷ p) b x → BeforeElse e l → Went edition (body n p b) r ms z
      → Went edition x (l ++ (ELSE ∷ r)) (still l ++ (0 ∷ ms)) z
  unfolding among rank
  before-else e n p b x l r ms z s (newlines {n = a} h) w = subst (λ (y : Count). Went edition y (a ++ (ELSE ∷ r)) (still a ++ (0 ∷ ms)) z) (sym s) (else-list n p false b a r ms z h w)
  before-else e n p b x l r ms z s (ending_newline {n = a} h) w =
      went-step edition x newline 0 (list (n ∷ p) false b) (a ++ (ELSE ∷ r)) (still a ++ (0 ∷ ms)) z (s newline refl) (else-list n p false b a r ms z h w)
  before-else e n p b x l r ms z s (one_semicolon {e = d} {n = a} {m = m} h k) w = go d a h s
    where
      go : (e : End) (a : List Kind) → Newlines a → Stands e (n ∷ p) b x → Went edition x ((a ++ (semicolon ∷ m)) ++ (ELSE ∷ r)) (still (a ++ (semicolon ∷ m)) ++ (0 ∷ ms)) z
      go ended a h s = subst (λ (y : Count). Went edition y ((a ++ (semicolon ∷ m)) ++ (ELSE ∷ r)) (still (a ++ (semicolon ∷ m)) ++ (0 ∷ ms)) z) (sym s) (mark-list n p b a m r ms z h k w)
      go needs_end _ no-newline s =
          went-step edition x semicolon 0 (list (n ∷ p) true b) (m ++ (ELSE ∷ r)) (still m ++ (0 ∷ ms)) z (s semicolon refl) (else-list n p true b m r ms z k w)
      go needs_end _ (newline-more {l = a} h) s =
          went-step edition x newline 0 (list (n ∷ p) false b) ((a ++ (semicolon ∷ m)) ++ (ELSE ∷ r)) (still (a ++ (semicolon ∷ m)) ++ (0 ∷ ms)) z (s newline refl) (mark-list n p b a m r ms z h k w)

  -- ---- conditions, print lists

  condition-went : (n : ℕ) (p : List ℕ) (b : Braces) (c r : List Kind) (ms : List ℕ) (z : Count) (d : Form edition (expression elsewhere) c) → Went edition (body n p b) r ms z
      → Went edition (condition_next n p b) (open_paren ∷ (c ++ (close_paren ∷ r))) (suc n ∷ (opened edition d (suc n) ++ (0 ∷ ms))) z
  unfolding move leave among rank
  condition-went n p b c r ms z d w =
      let x : Around = condition n p b in
      let i = passes edition d (suc n) x in
      went-step edition (condition_next n p b) open_paren (suc n) (operand (suc n) (suc n) x) (c ++ (close_paren ∷ r)) (opened edition d (suc n) ++ (0 ∷ ms)) z refl
      (went_then edition (operand (suc n) (suc n) x) c (close_paren ∷ r) (opened edition d (suc n)) (0 ∷ ms) (after i.0 x) z (went-operand edition (suc n) (suc n) x c (opened edition d (suc n)) (after i.0 x) i.1)
      (went-step edition (after i.0 x) close_paren 0 (body n p b) r ms z (quiet-move edition i.0 x close_paren refl) w))

  list-goes : (l : List Kind) (d : PrintList edition l) (n : ℕ) (p : List ℕ) (b : Braces)
      → (f : ℕ) × (Goes edition (operand_move edition n n (statement n p b)) l (opened_in_list edition d n) (after f (statement n p b)))
  unfolding opened_in_list move leave among rank
  list-goes l (last-element d) n p b = passes edition d n (statement n p b)
  list-goes l (next-element {l = a} {n = s} {r = r} d h e) n p b =
      let x : Around = statement n p b in
      let i = passes edition d n x in
      let j = list-goes r e n p b in (
        j.0,
        goes_then edition (operand_move edition n n x) a (comma ∷ (s ++ r)) _ _ (after i.0 x) (after j.0 x) i.1
            (went-step edition (after i.0 x) comma 0 (operand n n x) (s ++ r) _ (after j.0 x) (quiet-move edition i.0 x comma refl)
            (went_then edition (operand n n x) s r (still s) _ (operand n n x) (after j.0 x) (lines-went edition n n x s h) (went-operand edition n n x r _ (after j.0 x) j.1))),
      )

  -- what more is added changes no first kind
  longer : (P : Kind → Type 0) (f : Kind → Move) (ns : List ℕ) (y : Count) (a m : List Kind) → Goes edition f a ns y → AtFirst P a → AtFirst P (a ++ m)
  longer P f ns y [] m g h = absurd g
  longer P f ns y (k ∷ a) m g h = h

  list-begins : (l : List Kind) → PrintList edition l → AtFirst (Begins edition) l
  list-begins l (last-element d) = expression-begins edition in_print l d
  list-begins l (next-element {l = a} {n = s} {r = r} d h e) =
      longer (Begins edition) (operand_move edition 0 0 pattern) _ (after (passes edition d 0 pattern).0 pattern) a (comma ∷ (s ++ r)) (passes edition d 0 pattern).1 (expression-begins edition in_print a d)

  ended-needs : {A : Type 0} → needs_end ≡ ended → A
  ended-needs {A} e = absurd (subst Needs e tt)

  -- ---- blocks

  begin-lone : (n : ℕ) (p : List ℕ) (b : Braces) (l : List Kind) (ns : List ℕ) (y : Count) → l ≡ semicolon ∷ [] → Goes edition (begin_move edition n p b) l ns y → 0 ∷ [] ≡ ns
  unfolding begin_move trace rank
  begin-lone n p b l ns y e g = (subst (λ (m : List Kind). Goes edition (begin_move edition n p b) m ns y) e g).1

  -- a statement in a list: where it is, or at a list where it was a lone `;`
  in_list : (e : End) (o : Else) (p : List ℕ) (q : Bool) (b : Braces) (l : List Kind) (ns : List ℕ) (i : Stated e o (level_of b) [] b l ns)
      → (Went edition (list p q b) l ns i.state) ⊎ ((e ≡ ended) × ((r : List ℕ) × (u : Bool) × (Went edition (list p q b) l ns (list r u b))))
  in_list e o p q b l ns i =
      ⊎_elim
      (λ h. inl (went-first edition (list p q b) (begin_move edition (level_of b) [] b) l ns i.state
      (at_first Head (λ k. move edition (list p q b) k ≡ begin_move edition (level_of b) [] b k) l (list-head p q b) h) i.goes))
      (λ h.
      let x = lone p q b in
      let ms : 0 ∷ [] ≡ ns = begin-lone (level_of b) [] b l ns i.state h.1 i.goes in
      inr (
        h.0,
        (
          x.0,
          x.1,
          subst (λ (m : List ℕ). Went edition (list p q b) l m (list x.0 x.1 b)) ms
              (subst (λ (m : List Kind). Went edition (list p q b) m (0 ∷ []) (list x.0 x.1 b)) (sym h.1)
              (went-step edition (list p q b) semicolon 0 (list x.0 x.1 b) [] [] (list x.0 x.1 b) x.2 (went-nil edition (list x.0 x.1 b)))),
        ),
      ))
      i.first

  pub block_goes : {in_main : Bool} {l : List Kind} (x : Block edition in_main l) → BlockGoes l (opened_by_block edition x)
  unfolding opened_by_statement opened_by_block opened_by_statements move begin_move list_move among rank
  block_goes {in_main} x =
      elim x as (λ e o l x. StatementGoes e o l (opened_by_statement x)) (λ l x. BlockGoes l (opened_by_block edition x)) (λ l x. ListGoes l (opened_by_statements x)) [
        | value-statement {l = l} d ↦ (λ n p b.
            let i = passes edition d n (statement n p b) in
            let s = expression-begins edition elsewhere l d in
            record {
              state = after i.0 (statement n p b);
              pending = p;
              own = refl;
              goes = swapped edition (begin_move edition n p b) (operand_move edition n n (statement n p b)) l _ (after i.0 (statement n p b))
                  (at_first (Begins edition) (λ k. begin_move edition n p b k ≡ operand_move edition n n (statement n p b) k) l (value-first n p b) s) i.1;
              stands = stands-value i.0 n p b;
              first = inl (at_first (Begins edition) Head l headed s);
            })
        | print ↦ (λ n p b.
            record { state = print_next n p b; pending = p; own = refl; goes = goes_step edition (begin_move edition n p b) PRINT 0 (print_next n p b) [] [] (print_next n p b) refl (went-nil edition (print_next n p b)); stands = stands-print n p b; first = inl refl })
        | print-list {l = l} d ↦ (λ n p b.
            let i = list-goes l d n p b in
            record {
              state = after i.0 (statement n p b);
              pending = p;
              own = refl;
              goes = goes_step edition (begin_move edition n p b) PRINT 0 (print_next n p b) l _ (after i.0 (statement n p b)) refl
                  (went-first edition (print_next n p b) (operand_move edition n n (statement n p b)) l _ (after i.0 (statement n p b))
                  (at_first (Begins edition) (λ k. move edition (print_next n p b) k ≡ operand_move edition n n (statement n p b) k) l (print-first n p b) (list-begins l d)) i.1);
              stands = stands-value i.0 n p b;
              first = inl refl;
            })
        | if {e = e} {o = o} {c = c} {n = s} {a = a} d h (t → t') ↦ (λ n p b.
            let i = t' (suc n) (n ∷ p) b in
            record {
              state = i.state;
              pending = i.pending;
              own = tt;
              goes = goes_step edition (begin_move edition n p b) IF 0 (condition_next n (n ∷ p) b) _ _ i.state refl (condition-went n (n ∷ p) b c (s ++ a) _ i.state d (body-went e o n (n ∷ p) b s a _ h i));
              stands = i.stands;
              first = inl refl;
            })
        | if-else {e = e} {f = f} {o = o} {c = c} {n = s} {a = a} {b = r} {m = m} {d = z} d h (t → t') w k (u → u') ↦ (λ n p b.
            let i = t' (suc n) (n ∷ p) b in
            let j = u' (suc n) p b in
            record {
              state = j.state;
              pending = j.pending;
              own = j.own;
              goes = goes_step edition (begin_move edition n p b) IF 0 (condition_next n (n ∷ p) b) _ _ j.state refl
                  (condition-went n (n ∷ p) b c (s ++ (a ++ (r ++ (ELSE ∷ (m ++ z))))) _ j.state d
                  (else-went e f o n p b s a r m z _ _ h i w k j));
              stands = j.stands;
              first = inl refl;
            })
        | while {e = e} {o = o} {c = c} {n = s} {a = a} d h (t → t') ↦ (λ n p b.
            let i = t' (suc n) p b in
            record {
              state = i.state;
              pending = i.pending;
              own = i.own;
              goes = goes_step edition (begin_move edition n p b) WHILE 0 (condition_next n p b) _ _ i.state refl (condition-went n p b c (s ++ a) _ i.state d (body-went e o n p b s a _ h i));
              stands = i.stands;
              first = inl refl;
            })
        | block {l = l} (d → d') ↦ (λ n p b.
            record { state = list p false b; pending = p; own = refl; goes = d'.0 (begin_move edition n p b) n (nested n p b) refl refl; stands = refl; first = inl d'.1 })
        | next e ↦ (λ n p b.
            record { state = after n (statement n p b); pending = p; own = refl; goes = goes_step edition (begin_move edition n p b) NEXT 0 (after n (statement n p b)) [] [] (after n (statement n p b)) refl (went-nil edition (after n (statement n p b))); stands = stands-value n n p b; first = inl refl })
        | exit-statement ↦ (λ n p b.
            record { state = after n (statement n p b); pending = p; own = refl; goes = goes_step edition (begin_move edition n p b) EXIT 0 (after n (statement n p b)) [] [] (after n (statement n p b)) refl (went-nil edition (after n (statement n p b))); stands = stands-value n n p b; first = inl refl })
        | empty ↦ (λ n p b.
            record { state = list p false b; pending = p; own = refl; goes = goes_step edition (begin_move edition n p b) semicolon 0 (list p false b) [] [] (list p false b) refl (went-nil edition (list p false b)); stands = refl; first = inr (refl, refl) })
        | braces {l = l} (d → d') ↦ (
          (λ f n b g e.
              let i = d' [] false b in
              goes_step edition f open_brace (suc n) (list [] false b) (l ++ (close_brace ∷ [])) _ (closed b) e
              (went_then edition (list [] false b) l (close_brace ∷ []) _ (0 ∷ []) i.0 (closed b)
              (subst (λ (m : ℕ). Went edition (list [] false b) l (opened_by_statements d m) i.0) g i.1)
              (went-step edition i.0 close_brace 0 (closed b) [] [] (closed b) i.2 (went-nil edition (closed b))))),
          refl,
        )
        | no-statement ↦ (λ p q b. (list p q b, went-nil edition (list p q b), refl))
        | blank_line {l = l} (d → d') ↦ (λ p q b.
            let i = d' p q b in
            (i.0, went-step edition (list p q b) newline 0 (list p q b) l _ i.0 refl i.1, i.2))
        | after_ended {o = o} {a = a} {l = l} (d → d') (r → r') ↦ (λ p q b.
            let i = d' (level_of b) [] b in
            ⊎_elim
            (λ w.
            let j = r' i.pending false b in
            (j.0, went_then edition (list p q b) a l _ _ (list i.pending false b) j.0 (subst (λ (y : Count). Went edition (list p q b) a (opened_by_statement d (level_of b)) y) i.stands w) j.1, j.2))
            (λ w. let j = r' w.1.0 w.1.1 b in (j.0, went_then edition (list p q b) a l _ _ (list w.1.0 w.1.1 b) j.0 w.1.2 j.1, j.2))
            (in_list ended o p q b a _ i))
        | after_end {o = o} {k = k} {a = a} {l = l} (d → d') t (r → r') ↦ (λ p q b.
            let i = d' (level_of b) [] b in
            let j = r' i.pending (same k semicolon) b in
            let stop : among stops k ≡ true = each (λ k. among stops k ≡ true) enders (refl, (refl, tt)) k (one_of t) in
            ⊎_elim
            (λ w. (j.0, went_then edition (list p q b) a (k ∷ l) _ _ i.state j.0 w (went-step edition i.state k 0 (list i.pending (same k semicolon) b) l _ j.0 (i.stands k stop ∙ ends i.pending b k (one_of t)) j.1), j.2))
            (λ w. ended-needs w.0) (in_list needs_end o p q b a _ i))
        | last {o = o} {a = a} (d → d') ↦ (λ p q b.
            let i = d' (level_of b) [] b in
            ⊎_elim (λ w. (i.state, w, i.stands close_brace refl)) (λ w. ended-needs w.0) (in_list needs_end o p q b a _ i))
      ]
    where
      ends : (p : List ℕ) (b : Braces) (k : Kind) → among enders k ≡ true → finish p b k ≡ moves 0 (list p (same k semicolon) b)
      ends p b k h = rw h

      else-went : (e f : End) (o : Else) (n : ℕ) (p : List ℕ) (b : Braces) (s a r m z : List Kind) (ns ms : List ℕ) → Newlines s → (i : Stated e whole (suc n) (n ∷ p) b a ns) → BeforeElse e r → Newlines m
          → (j : Stated f o (suc n) p b z ms)
          → Went edition (body n (n ∷ p) b) (s ++ (a ++ (r ++ (ELSE ∷ (m ++ z))))) (still s ++ (opening (suc n) ns ++ (still r ++ (0 ∷ (still m ++ opening (suc n) ms))))) j.state
      else-went e f o n p b s a r m z ns ms h i w k j =
          let rest : List Kind = r ++ (ELSE ∷ (m ++ z)) in
          let over : List ℕ = still r ++ (0 ∷ (still m ++ opening (suc n) ms)) in
          went_then edition (body n (n ∷ p) b) s (a ++ rest) (still s) (opening (suc n) ns ++ over) (body n (n ∷ p) b) j.state (lines-body n (n ∷ p) b s h)
          (went_then edition (body n (n ∷ p) b) a rest (opening (suc n) ns) over i.state j.state (body-went e whole n (n ∷ p) b [] a ns no-newline i)
          (before-else e n p b i.state r (m ++ z) (still m ++ opening (suc n) ms) j.state (subst (λ (q : List ℕ). Stands e q b i.state) i.own i.stands) w
          (body-went f o n p b m z ms k j)))

  -- ---- items

  went-move : (x : Count) (l : List Kind) (ns : List ℕ) (y : Count) → Goes edition (move edition x) l ns y → Went edition x l ns y
  unfolding travel trace
  went-move x [] ns y g = absurd g
  went-move x (k ∷ l) ns y g = record { arrives = g.0; levels = g.1 }

  pub item-value : (k : Kind) → Begins edition k → item_move edition k ≡ operand_move edition 0 0 pattern k
  unfolding Begins item_move among rank
  item-value k h = rw (apart idle k text_end h.0 refl, apart idle k BEGIN h.0 refl, apart idle k END h.0 refl, apart idle k open_brace h.0 refl)

  no-ender : (k : Kind) → Begins edition k → among enders k ≡ false
  unfolding Begins among rank
  no-ender k h = rw (apart idle k newline h.0 refl, apart idle k semicolon h.0 refl)

  pattern-goes : (l : List Kind) (d : Form edition (expression elsewhere) l) → (f : ℕ) × (Goes edition (item_move edition) l (opened edition d 0) (after f pattern))
  pattern-goes l d =
      let i = passes edition d 0 pattern in (
        i.0,
        swapped edition (item_move edition) (operand_move edition 0 0 pattern) l _ (after i.0 pattern)
            (at_first (Begins edition) (λ k. item_move edition k ≡ operand_move edition 0 0 pattern k) l item-value (expression-begins edition elsewhere l d)) i.1,
      )

  item-goes : (l : List Kind) (d : Item edition l) → Goes edition (item_move edition) l (opened_by_item edition d) between
  unfolding opened_by_item item_move move leave among rank
  item-goes l (begin {a = a} d) =
      goes_step edition (item_move edition) BEGIN 0 action_next a _ between refl (went-move action_next a _ between ((block_goes d).0 (move edition action_next) 0 action refl refl))
  item-goes l (end {a = a} d) =
      goes_step edition (item_move edition) END 0 action_next a _ between refl (went-move action_next a _ between ((block_goes d).0 (move edition action_next) 0 action refl refl))
  item-goes l (pattern-block {e = e} {a = a} d b) =
      let i = pattern-goes e d in
      goes_then edition (item_move edition) e a _ _ (after i.0 pattern) between i.1
      (went-move (after i.0 pattern) a _ between ((block_goes b).0 (move edition (after i.0 pattern)) 0 action refl (quiet-move edition i.0 pattern open_brace refl)))
  item-goes l (always d) = (block_goes d).0 (item_move edition) 0 action refl refl

  abbrev NoEnder : List Kind → Type 0
  NoEnder l = AtFirst (λ k. among enders k ≡ false) l

  brace-first : {in_main : Bool} (l : List Kind) → Block edition in_main l → NoEnder l
  unfolding among rank
  brace-first l (braces d) = refl

  item-first : (l : List Kind) → Item edition l → NoEnder l
  unfolding among rank
  item-first l (begin d) = refl
  item-first l (end d) = refl
  item-first l (pattern-block {e = e} {a = a} d b) =
      longer (λ k. among enders k ≡ false) (item_move edition) _ (after (pattern-goes e d).0 pattern) e a (pattern-goes e d).1 (at_first (Begins edition) (λ k. among enders k ≡ false) e no-ender (expression-begins edition elsewhere e d))
  item-first l (always d) = brace-first l d

  pub between-item : (k : Kind) → among enders k ≡ false → move edition between k ≡ item_move edition k
  unfolding move
  between-item k h = rw h

  pub between-ender : (k : Kind) → among enders k ≡ true → move edition between k ≡ moves 0 between
  unfolding move
  between-ender k h = rw h

  separators-went : (l : List Kind) → Separators l → Went edition between l (still l) between
  separators-went l no-separator = went-nil edition between
  separators-went l (separator-more {k = k} {l = r} o h) = went-step edition between k 0 between r (still r) between (between-ender k (one_of o)) (separators-went r h)

  pub pattern-ender : (f : ℕ) (k : Kind) → among enders k ≡ true → move edition (after f pattern) k ≡ moves 0 between
  unfolding leave among rank
  pattern-ender f k h =
      let q = each (λ k. (among quiet k ≡ true) × (leave pattern k ≡ moves 0 between)) enders ((refl, refl), ((refl, refl), tt)) k h in
      after_is edition f pattern k ∙ (quiet-move edition f pattern k q.0 ∙ q.1)

  pattern-end : (f : ℕ) → move edition (after f pattern) text_end ≡ moves 0 done
  unfolding leave among rank
  pattern-end f = after_is edition f pattern text_end ∙ quiet-move edition f pattern text_end refl

  items-went : (l : List Kind) (d : Items edition l) → (y : Count) × (Went edition between l (opened_by_items edition d) y) × (move edition y text_end ≡ moves 0 done)
  unfolding opened_by_items move item_move among rank
  items-went l no_item = (between, went-nil edition between, refl)
  items-went l (item {i = i} {n = n} {l = r} d h e) =
      let j = items-went r e in
      let w = went-first edition between (item_move edition) i _ between (at_first (λ k. among enders k ≡ false) (λ k. move edition between k ≡ item_move edition k) i between-item (item-first i d)) (item-goes i d) in
      (j.0, went_then edition between i (n ++ r) _ _ between j.0 w (went_then edition between n r (still n) _ between j.0 (separators-went n h) j.1), j.2)
  items-went l (pattern-item {k = k} {e = e} {n = n} {l = r} d o h x) =
      let j = items-went r x in
      let i = pattern-goes e d in
      let first = at_first (Begins edition) (λ k. move edition between k ≡ item_move edition k) e (λ k b. between-item k (no-ender k b)) (expression-begins edition elsewhere e d) in (
        j.0,
        went_then edition between e (k ∷ (n ++ r)) _ _ (after i.0 pattern) j.0 (went-first edition between (item_move edition) e _ (after i.0 pattern) first i.1)
            (went-step edition (after i.0 pattern) k 0 between (n ++ r) _ j.0 (pattern-ender i.0 k (one_of o)) (went_then edition between n r (still n) _ between j.0 (separators-went n h) j.1)),
        j.2,
      )
  items-went l (last_pattern d) =
      let i = pattern-goes l d in
      let first = at_first (Begins edition) (λ k. move edition between k ≡ item_move edition k) l (λ k b. between-item k (no-ender k b)) (expression-begins edition elsewhere l d) in
      (after i.0 pattern, went-first edition between (item_move edition) l _ (after i.0 pattern) first i.1, pattern-end i.0)

  lines-between : (l : List Kind) → Newlines l → Went edition between l (still l) between
  unfolding move among rank
  lines-between l no-newline = went-nil edition between
  lines-between l (newline-more {l = r} h) = went-step edition between newline 0 between r (still r) between refl (lines-between r h)

  -- a program
  pub sentence-went : (l : List Kind) (d : Sentence edition l) → Went edition between l (opened_by edition d) done
  unfolding opened_by
  sentence-went l (program {n = n} {l = r} h d) =
      let i = items-went r d in
      went_then edition between n (r ++ (text_end ∷ [])) (still n) _ between done (lines-between n h)
      (went_then edition between r (text_end ∷ []) _ (0 ∷ []) i.0 done i.1 (went-step edition i.0 text_end 0 done [] [] done i.2 (went-nil edition done)))
