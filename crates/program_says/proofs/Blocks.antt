-- The tree of a block that is read is the one that each derivation of its tokens says.
use mathlib.Core.Path.{◌≡◌, refl, sym, ap, subst, ◌∙◌}
use mathlib.Core.Bool.{Bool, true, false}
use mathlib.Core.List.{List, [], ◌∷◌, ◌++◌}
use mathlib.Core.Option.{none}
use mathlib.Core.Logic.{inl, inr, ⊎_elim}
use Prim.Native.Nat.{ℕ, zero, suc, ◌+◌, ◌≤◌, ◌<◌}
use native.Mathlib.Omega.{arith}
use lib.ListN.{length}
use Rattle.lists.proofs.Tests.{or-false}
use Rattle.edition.specs.Outcomes.{size_passed}
use Rattle.program_tokens.specs.Kinds.{Kind, text_end, newline, ERE, bad, bad-ere, IF, ELSE, WHILE, PRINT, NEXT, EXIT, open_brace, open_paren, close_paren, close_brace, semicolon, same, among, rank}
use Rattle.program_tokens.specs.Tokens.{Token, is, is_one_of, token_after, as_operand}
use Rattle.program_tree.specs.Tree.{Expression, Statement as StatementTree, expression as expression-tree, print as print-tree, if as if-tree, if-else as if-else-tree, while as while-tree, block as block-tree, next as next-tree, exit as exit-tree, empty as empty-tree, sequence}
use Rattle.program_grammar.specs.Sets.{enders, starts_expression, starts_statement}
use Rattle.program_grammar.specs.Grammar.{Newlines, none as no-newline, more as newline-more, elsewhere, expression, Form, PrintList, End, needs_end, ended, Else, takes_else, whole, BeforeElse, newlines, ending_newline, one_semicolon, Statement, value, print, print-list, if, if-else, while, block, next, exit, empty, Block, braces, Statements, none as no-statement, blank_line, after_ended, after_end, last}
use Rattle.program_reader.specs.Read.{Read, ok, no, map, bind, operand_after}
use Rattle.program_reader.specs.Expressions.{expression_at}
use Rattle.program_reader.specs.Statements.{ended as tree-ended, listed, print_at, condition_at, else_after, body_at, then_at, if_at, while_at, followed, statements, block_of, statement_at}
use Rattle.program_parser.specs.Reading.{Good as InText}
use Rattle.program_parser.proofs.Tokens.{Slashes}
use Rattle.program_exact.specs.Trees.{first, rest, tail, said}
use Rattle.program_exact.proofs.Facts.{each, words, operands, quiet-starts}
use Rattle.program_exact.proofs.Forms.{one_of}
use Rattle.program_exact.proofs.Sentences.{stops}
use Rattle.program_exact.proofs.Walks.{after-in, operand-test}
use Rattle.program_exact.proofs.Bodies.{fuelled}
use Rattle.program_exact.proofs.Sayings.{first_kind, Follow, Reread, raw-again, operand-again, raw-next, operand-next, spoken}
use Rattle.program_says.specs.Trees.{said_list, Saying, said_parts, said_statement, said_block, said_statements}
use Rattle.program_says.proofs.Stretches.{Says, says_map, says_less, Stretch, reread-on, spans, split, step, no_more, last-in, first-is, longer, else-stops, else-leads, is_ended}
use Rattle.program_says.proofs.Openings.{closers, open-facts, opening, never_first, list-starts, ended-said, else-ended, list-none}
use Rattle.program_says.proofs.Parts.{stop-facts, After, Answers, answered, answers-map, bound, list-first, list-says, condition-says, body_of, chosen, statement-run, body-at, then-alone, then-else}

module _ (edition : ℕ) (s : List ℕ) where
  -- ---- what is shown

  -- what has to follow a statement
  abbrev pub Ends : End → Token → Type 0
  Ends needs_end u = among stops u.kind ≡ true
  Ends ended u = Unit

  -- no `else` follows one that would take it
  abbrev pub Alone : Else → End → Token → Type 0
  Alone takes_else e u = else_after edition s (length s) (is_ended edition s e) false u ≡ none
  Alone whole e u = Unit

  alone_of : (o : Else) (e : End) (u : Token) → else_after edition s (length s) (is_ended edition s e) false u ≡ none → Alone o e u
  alone_of takes_else e u h = h
  alone_of whole e u h = tt

  abbrev StatementSays : Bool → End → Else → List Kind → Saying edition s → Type 0
  StatementSays in_main e o l x = (levels : ℕ) (t : Token) (ts : List Token) (u : Token) → Stretch edition s l t ts u → Ends e u → Alone o e u
      → Answers edition s e (levels + t.start) (statement_at edition s in_main levels t) (x ts) t.start u

  abbrev BlockSays : Bool → List Kind → Saying edition s → Type 0
  BlockSays in_main l x = (levels : ℕ) (t : Token) (ts : List Token) (u : Token) → Stretch edition s l t ts u
      → (t.kind ≡ open_brace) × (Answers edition s ended (suc levels + t.start) (block_of edition s (statement_at edition s in_main levels) t) (x ts) t.start u)

  abbrev ListSays : Bool → List Kind → Saying edition s → Type 0
  ListSays in_main l x = (levels i : ℕ) (z t : Token) (ts : List Token) (u : Token) → InText edition s 0 z → Reread edition s z t → Stretch edition s l t ts u → u.kind ≡ close_brace
      → suc (length s) ≤ i + z.start → Says s (levels + z.start) (statements edition s (statement_at edition s in_main levels) i z) (x ts) (token_after edition s u)

  -- ---- statements that need an end

  one-says : (in_main : Bool) (levels : ℕ) (k : Kind) (a : StatementTree) (t : Token) (ts : List Token) (u : Token) → same k text_end ≡ false → chosen edition s in_main levels t k ≡ ok a (token_after edition s t)
      → Stretch edition s (k ∷ []) t ts u → among stops u.kind ≡ true → Answers edition s needs_end (levels + t.start) (statement_at edition s in_main levels t) a t.start u
  one-says in_main levels k a t ts u n q w st =
      let b = step edition s k [] t ts u n w in
      let own : u ≡ token_after edition s t = raw-next edition s t u (subst (Follow edition s t) (no_more edition s b.next (tail ts) u b.others) b.follow) (stop-facts u.kind st).0 in
      inr (u, refl, last-in edition s (k ∷ []) t ts u w, longer edition s (k ∷ []) t ts u w (λ z. z) n, statement-run edition s in_main levels t k b.kind ∙ (q ∙ ap (λ (x : Token). ok a x) (sym own)))

  -- kinds that begin other statements
  abbrev keywords : List Kind
  keywords = semicolon ∷ open_brace ∷ IF ∷ WHILE ∷ PRINT ∷ EXIT ∷ NEXT ∷ []

  keyword-pair : (k : Kind) → among keywords k ≡ true → (among operands k ≡ false) × (among words k ≡ false)
  unfolding among rank
  keyword-pair k q =
      each (λ k. (among operands k ≡ false) × (among words k ≡ false)) keywords
      ((refl, refl), ((refl, refl), ((refl, refl), ((refl, refl), ((refl, refl), ((refl, refl), ((refl, refl), tt))))))) k q

  value-chosen : (in_main : Bool) (levels : ℕ) (t : Token) (k : Kind) → among keywords k ≡ false → chosen edition s in_main levels t k ≡ map expression-tree (expression_at edition s levels false t)
  unfolding among
  value-chosen in_main levels t k h =
      let a1 = or-false (same k semicolon) _ h in
      let a2 = or-false (same k open_brace) _ a1.1 in
      let a3 = or-false (same k IF) _ a2.1 in
      let a4 = or-false (same k WHILE) _ a3.1 in
      let a5 = or-false (same k PRINT) _ a4.1 in
      let a6 = or-false (same k EXIT) _ a5.1 in
      let a7 = or-false (same k NEXT) _ a6.1 in
      rw (a1.0, a2.0, a3.0, a4.0, a5.0, a6.0, a7.0)

  value-says : (in_main : Bool) (levels : ℕ) (l : List Kind) (d : Form edition (expression elsewhere) l) (t : Token) (ts : List Token) (u : Token) → Stretch edition s l t ts u → among stops u.kind ≡ true
      → Answers edition s needs_end (levels + t.start) (statement_at edition s in_main levels t) (expression-tree (said edition s d ts)) t.start u
  value-says in_main levels l d t ts u w st =
      let z = stop-facts u.kind st in
      let o = opening edition s {in_main = in_main} (value d) in
      let k : t.kind ≡ first_kind l = first-is edition s l t ts u w o.begun.0 in
      let run = statement-run edition s in_main levels t (first_kind l) k ∙ value-chosen in_main levels t (first_kind l) (never_first edition s keywords keyword-pair l d) in
      let r : Read Expression = expression_at edition s levels false t in
      answered edition s (levels + t.start) (statement_at edition s in_main levels t) (expression-tree (said edition s d ts)) t.start u (last-in edition s l t ts u w) (longer edition s l t ts u w o.begun.0 (open-facts (first_kind l) o.begun.1).2)
      (subst (λ (m : Read StatementTree). Says s (levels + t.start) m (expression-tree (said edition s d ts)) u) (sym run)
      (says_map s expression-tree (levels + t.start) r (said edition s d ts) u (spoken edition s d levels false t ts u refl (spans edition s l t ts u w z.0) z.1)))

  next-chosen : (in_main : Bool) (levels : ℕ) (t : Token) → in_main ≡ true → chosen edition s in_main levels t NEXT ≡ ok next-tree (token_after edition s t)
  unfolding rank
  next-chosen in_main levels t h = rw h

  empty-says : (in_main : Bool) (levels : ℕ) (t : Token) (ts : List Token) (u : Token) → Stretch edition s (semicolon ∷ []) t ts u
      → Answers edition s ended (levels + t.start) (statement_at edition s in_main levels t) empty-tree t.start u
  unfolding rank
  empty-says in_main levels t ts u w =
      let b = step edition s semicolon [] t ts u refl w in
      inr (
        token_after edition s t,
        subst (Follow edition s t) (no_more edition s b.next (tail ts) u b.others) b.follow,
        after-in edition s t w.good,
        b.over,
        statement-run edition s in_main levels t semicolon b.kind,
      )

  -- a block that is a statement
  nested-says : (in_main : Bool) (levels : ℕ) {l : List Kind} (d : Block edition in_main l) → BlockSays in_main l (said_block edition s d) → (t : Token) (ts : List Token) (u : Token) → Stretch edition s l t ts u
      → Answers edition s ended (levels + t.start) (statement_at edition s in_main levels t) (said_block edition s d ts) t.start u
  unfolding rank
  nested-says in_main zero d h t ts u w =
      let k : t.kind ≡ open_brace = (h zero t ts u w).0 in
      inl (t.start, statement-run edition s in_main zero t open_brace k, omega (arith, w.good.longer (ap (λ (j : Kind). same j text_end) k), w.good.within))
  nested-says in_main (suc levels) d h t ts u w =
      let i = h levels t ts u w in
      subst (λ (r : Read StatementTree). Answers edition s ended (suc levels + t.start) r (said_block edition s d ts) t.start u) (sym (statement-run edition s in_main (suc levels) t open_brace i.0)) i.1

  print-ends : (levels : ℕ) (u : Token) → starts_expression edition u.kind ≡ false → print_at edition s levels u ≡ ok (print-tree []) u
  unfolding print_at
  print-ends levels u q = rw q

  print-starts : (levels : ℕ) (u : Token) → starts_expression edition u.kind ≡ true
      → print_at edition s levels u ≡ map print-tree (listed edition s levels (length s) (map (λ e. e ∷ []) (expression_at edition s levels true u)))
  unfolding print_at
  print-starts levels u q = rw q

  print-alone : (in_main : Bool) (levels : ℕ) (t : Token) (ts : List Token) (u : Token) → Stretch edition s (PRINT ∷ []) t ts u → among stops u.kind ≡ true
      → Answers edition s needs_end (levels + t.start) (statement_at edition s in_main levels t) (print-tree []) t.start u
  unfolding rank
  print-alone in_main levels t ts u w st =
      let z = stop-facts u.kind st in
      let b = step edition s PRINT [] t ts u refl w in
      let own : u ≡ operand_after edition s t = operand-next edition s t u (subst (Follow edition s t) (no_more edition s b.next (tail ts) u b.others) b.follow) z.3 in
      inr (
        u,
        refl,
        last-in edition s (PRINT ∷ []) t ts u w,
        longer edition s (PRINT ∷ []) t ts u w (λ z. z) refl,
        statement-run edition s in_main levels t PRINT b.kind ∙ (ap (print_at edition s levels) (sym own) ∙ print-ends levels u (quiet-starts edition u.kind z.1)),
      )

  print-says : (in_main : Bool) (levels : ℕ) (l : List Kind) (d : PrintList edition l) (t : Token) (ts : List Token) (u : Token) → Stretch edition s (PRINT ∷ l) t ts u → among stops u.kind ≡ true
      → Answers edition s needs_end (levels + t.start) (statement_at edition s in_main levels t) (print-tree (said_list edition s d (tail ts))) t.start u
  unfolding rank
  print-says in_main levels l d t ts u w st =
      let b = step edition s PRINT l t ts u refl w in
      let v : Token = b.next in
      let begins = list-first edition s l d in
      let k : v.kind ≡ first_kind l = first-is edition s l v (tail ts) u b.others begins.0 in
      let own : v ≡ operand_after edition s t = operand-next edition s t v b.follow (ap (among Slashes) k ∙ begins.1.0) in
      let run = statement-run edition s in_main levels t PRINT b.kind
      ∙ (ap (print_at edition s levels) (sym own) ∙ print-starts levels v (ap (starts_expression edition) k ∙ list-starts edition s l d)) in
      let tree : List Expression = said_list edition s d (tail ts) in
      answered edition s (levels + t.start) (statement_at edition s in_main levels t) (print-tree tree) t.start u (last-in edition s (PRINT ∷ l) t ts u w) (longer edition s (PRINT ∷ l) t ts u w (λ z. z) refl)
      (subst (λ (m : Read StatementTree). Says s (levels + t.start) m (print-tree tree) u) (sym run)
      (says_map s print-tree (levels + t.start) (listed edition s levels (length s) (map (λ e. e ∷ []) (expression_at edition s levels true v))) tree u
      (says_less s (levels + t.start) (levels + v.start) (listed edition s levels (length s) (map (λ e. e ∷ []) (expression_at edition s levels true v))) tree u (omega (arith, b.onward))
      (list-says edition s levels l d (length s) [] v (tail ts) u b.others st (omega arith)))))

  -- ---- `if`, `while`

  if-run : (in_main : Bool) (levels : ℕ) (t o : Token) → t.kind ≡ IF → o ≡ token_after edition s t
      → statement_at edition s in_main levels t ≡ bind (condition_at edition s levels o) (then_at edition s (body_of edition s in_main levels))
  unfolding if_at rank
  if-run in_main levels t o k e =
      statement-run edition s in_main levels t IF k ∙ ap (λ (x : Token). bind (condition_at edition s levels x) (then_at edition s (body_of edition s in_main levels))) (sym e)

  while-run : (in_main : Bool) (levels : ℕ) (t o : Token) → t.kind ≡ WHILE → o ≡ token_after edition s t
      → statement_at edition s in_main levels t ≡ bind (condition_at edition s levels o) (λ c x. map (while-tree c) (body_at edition s (body_of edition s in_main levels) x))
  unfolding while_at rank
  while-run in_main levels t o k e =
      statement-run edition s in_main levels t WHILE k
      ∙ ap (λ (x : Token). bind (condition_at edition s levels x) (λ c x. map (while-tree c) (body_at edition s (body_of edition s in_main levels) x))) (sym e)

  paren-next : (t o : Token) → Follow edition s t o → o.kind ≡ open_paren → o ≡ token_after edition s t
  unfolding among rank
  paren-next t o f k = raw-next edition s t o f (ap (among (ERE ∷ bad ∷ bad-ere ∷ [])) k)

  -- what comes before an `else` ends the then-part
  before-ends : (e : End) (b : List Kind) → BeforeElse e b → (v : Token) (ts : List Token) (z : Token) → Stretch edition s b v ts z → Ends e v
  unfolding among rank
  before-ends _ _ (newlines h) v ts z w = tt
  before-ends _ _ (ending_newline {n = n} h) v ts z w = ap (among stops) (step edition s newline n v ts z refl w).kind
  before-ends _ _ (one_semicolon {e = ended} h k) v ts z w = tt
  before-ends _ _ (one_semicolon {e = needs_end} {m = m} no-newline k) v ts z w = ap (among stops) (step edition s semicolon m v ts z refl w).kind
  before-ends _ _ (one_semicolon {e = needs_end} {m = m} (newline-more {l = n} h) k) v ts z w =
      ap (among stops) (step edition s newline (n ++ (semicolon ∷ m)) v ts z refl w).kind

  -- a statement after newlines, read as a body
  module _ (in_main : Bool) (levels : ℕ) where
    body-says : {e : End} {o : Else} {a : List Kind} (d : Statement edition in_main e o a) → StatementSays in_main e o a (said_statement edition s d) → (n : List Kind) → Newlines n → (p : ℕ) (x v : Token)
        (ns : List Token) (y : Token) (ts : List Token) (u : Token) → p < x.start → InText edition s 0 x → Reread edition s x v → Stretch edition s n v ns y → v.start ≤ y.start
        → Stretch edition s a y ts u → Ends e u → Alone o e u → Answers edition s e (levels + p) (body_at edition s (body_of edition s in_main levels) x) (said_statement edition s d ts) p u
    body-says {e} {o} {a} d h n nl p x v ns y ts u lt g w sp on q en al =
        let z = opening edition s d in
        let k : y.kind ≡ first_kind a = first-is edition s a y ts u q z.begun.0 in
        body-at edition s in_main e levels p n x v ns y (said_statement edition s d ts) u nl lt g w sp on (ap (starts_statement edition in_main) k ∙ z.starts) (ap (among closers) k ∙ z.begun.1)
        (λ m. h m y ts u q en al)

    if-says : {e : End} {o : Else} {c n a : List Kind} (d : Form edition (expression elsewhere) c) (nl : Newlines n) (b : Statement edition in_main e o a)
        → StatementSays in_main e o a (said_statement edition s b) → (t : Token) (ts : List Token) (u : Token)
        → Stretch edition s (IF ∷ open_paren ∷ (c ++ (close_paren ∷ (n ++ a)))) t ts u → Ends e u → Alone takes_else e u
        → Answers edition s e (levels + t.start) (statement_at edition s in_main levels t) (said_statement edition s {o = takes_else} (if d nl b) ts) t.start u
    unfolding said_statement said_parts rank
    if-says {e} {o} {c} {n} {a} d nl b h t ts u w en al =
        let p = step edition s IF (open_paren ∷ (c ++ (close_paren ∷ (n ++ a)))) t ts u refl w in
        let g = condition-says edition s levels c (n ++ a) d p.next (tail ts) u p.others in
        let q = split edition s n a g.next (tail (rest c (tail (tail ts)))) u g.others in
        let x : Token = token_after edition s g.close in
        let body : Token → Read StatementTree = body_of edition s in_main levels in
        let tree : Expression = said edition s d (first c (tail (tail ts))) in
        let condition = says_less s (levels + t.start) (levels + p.next.start) (condition_at edition s levels p.next) tree (token_after edition s g.close) (omega (arith, p.onward)) g.says in
        let bs : List Token = rest n (tail (rest c (tail (tail ts)))) in
        let r = body-says b h n nl t.start x g.next (first n (tail (rest c (tail (tail ts))))) q.middle bs u (omega (arith, p.onward, g.onward)) g.good g.follow q.left q.onward q.right en (alone_of o e u al) in
        subst (λ (m : Read StatementTree). Answers edition s e (levels + t.start) m (if-tree tree (said_statement edition s b bs)) t.start u)
        (sym (if-run in_main levels t p.next p.kind (paren-next t p.next p.follow g.opener)))
        (bound edition s (levels + t.start) (condition_at edition s levels p.next) (then_at edition s body) tree x e (if-tree tree (said_statement edition s b bs)) t.start u condition
        (then-alone edition s body e tree x (said_statement edition s b bs) (levels + t.start) t.start u (ended-said edition s b bs) al r))

    while-says : {e : End} {o : Else} {c n a : List Kind} (d : Form edition (expression elsewhere) c) (nl : Newlines n) (b : Statement edition in_main e o a)
        → StatementSays in_main e o a (said_statement edition s b) → (t : Token) (ts : List Token) (u : Token)
        → Stretch edition s (WHILE ∷ open_paren ∷ (c ++ (close_paren ∷ (n ++ a)))) t ts u → Ends e u → Alone o e u
        → Answers edition s e (levels + t.start) (statement_at edition s in_main levels t) (said_statement edition s (while d nl b) ts) t.start u
    unfolding said_statement said_parts rank
    while-says {e} {o} {c} {n} {a} d nl b h t ts u w en al =
        let p = step edition s WHILE (open_paren ∷ (c ++ (close_paren ∷ (n ++ a)))) t ts u refl w in
        let g = condition-says edition s levels c (n ++ a) d p.next (tail ts) u p.others in
        let q = split edition s n a g.next (tail (rest c (tail (tail ts)))) u g.others in
        let x : Token = token_after edition s g.close in
        let body : Token → Read StatementTree = body_of edition s in_main levels in
        let tree : Expression = said edition s d (first c (tail (tail ts))) in
        let condition = says_less s (levels + t.start) (levels + p.next.start) (condition_at edition s levels p.next) tree (token_after edition s g.close) (omega (arith, p.onward)) g.says in
        let bs : List Token = rest n (tail (rest c (tail (tail ts)))) in
        let r = body-says b h n nl t.start x g.next (first n (tail (rest c (tail (tail ts))))) q.middle bs u (omega (arith, p.onward, g.onward)) g.good g.follow q.left q.onward q.right en al in
        subst (λ (m : Read StatementTree). Answers edition s e (levels + t.start) m (while-tree tree (said_statement edition s b bs)) t.start u)
        (sym (while-run in_main levels t p.next p.kind (paren-next t p.next p.follow g.opener)))
        (bound edition s (levels + t.start) (condition_at edition s levels p.next) (λ c x. map (while-tree c) (body_at edition s body x)) tree x e (while-tree tree (said_statement edition s b bs)) t.start u condition
        (answers-map edition s (while-tree tree) e (levels + t.start) (body_at edition s body x) (said_statement edition s b bs) t.start u r))

    if-else-says : {e f : End} {o : Else} {c n a b m z : List Kind} (d : Form edition (expression elsewhere) c) (nl : Newlines n) (x : Statement edition in_main e whole a) (be : BeforeElse e b)
        (ml : Newlines m) (y : Statement edition in_main f o z) → StatementSays in_main e whole a (said_statement edition s x) → StatementSays in_main f o z (said_statement edition s y)
        → (t : Token) (ts : List Token) (u : Token) → Stretch edition s (IF ∷ open_paren ∷ (c ++ (close_paren ∷ (n ++ (a ++ (b ++ (ELSE ∷ (m ++ z)))))))) t ts u → Ends f u → Alone o f u
        → Answers edition s f (levels + t.start) (statement_at edition s in_main levels t) (said_statement edition s (if-else d nl x be ml y) ts) t.start u
    unfolding said_statement said_parts rank
    if-else-says {e} {f} {o} {c} {n} {a} {b} {m} {z} d nl x be ml y hx hy t ts u w en al =
        let last-part : List Kind = ELSE ∷ (m ++ z) in
        let after_then : List Kind = b ++ last-part in
        let p = step edition s IF (open_paren ∷ (c ++ (close_paren ∷ (n ++ (a ++ after_then))))) t ts u refl w in
        let g = condition-says edition s levels c (n ++ (a ++ after_then)) d p.next (tail ts) u p.others in
        let ns : List Token = tail (rest c (tail (tail ts))) in
        let q = split edition s n (a ++ after_then) g.next ns u g.others in
        let bs : List Token = rest n ns in
        let i = split edition s a after_then q.middle bs u q.right in
        let j = split edition s b last-part i.middle (rest a bs) u i.right in
        let k = step edition s ELSE (m ++ z) j.middle (rest b (rest a bs)) u refl j.right in
        let es : List Token = tail (rest b (rest a bs)) in
        let l = split edition s m z k.next es u k.others in
        let v : Token = token_after edition s g.close in
        let v2 : Token = token_after edition s j.middle in
        let body : Token → Read StatementTree = body_of edition s in_main levels in
        let tree : Expression = said edition s d (first c (tail (tail ts))) in
        let condition = says_less s (levels + t.start) (levels + p.next.start) (condition_at edition s levels p.next) tree (token_after edition s g.close) (omega (arith, p.onward)) g.says in
        let a-tree : StatementTree = said_statement edition s x (first a bs) in
        let b-tree : StatementTree = said_statement edition s y (rest m es) in
        let r = body-says x hx n nl t.start v g.next (first n ns) q.middle (first a bs) i.middle (omega (arith, p.onward, g.onward)) g.good g.follow q.left q.onward i.left
        (before-ends e b be i.middle (first b (rest a bs)) j.middle j.left) tt in
        let r2 = body-says y hy m ml t.start v2 k.next (first m es) l.middle (rest m es) u
        (omega (arith, p.onward, g.onward, reread-on edition s v g.next g.good g.follow, q.onward, i.onward, j.onward, k.over)) (after-in edition s j.middle j.right.good) k.follow l.left l.onward l.right en al in
        let found = else-leads edition s e b be (length s) i.middle (first b (rest a bs)) j.middle j.left k.kind (omega arith) in
        subst (λ (m : Read StatementTree). Answers edition s f (levels + t.start) m (if-else-tree tree a-tree b-tree) t.start u)
        (sym (if-run in_main levels t p.next p.kind (paren-next t p.next p.follow g.opener)))
        (bound edition s (levels + t.start) (condition_at edition s levels p.next) (then_at edition s body) tree v f (if-else-tree tree a-tree b-tree) t.start u condition
        (then-else edition s body e tree v a-tree (levels + t.start) t.start i.middle (ended-said edition s x (first a bs)) v2 f b-tree (levels + t.start) t.start u found (omega arith) (omega arith) r r2))

  -- ---- lists of statements

  module _ (statement : Token → Read StatementTree) where
    abbrev List-at : ℕ → Token → Read StatementTree
    List-at i z = statements edition s statement i z

    brace-run : (i : ℕ) (z : Token) → z.kind ≡ close_brace → List-at (suc i) z ≡ ok empty-tree (token_after edition s z)
    unfolding statements rank
    brace-run i z k = let q : is close_brace z ≡ true = ap (λ (j : Kind). same j close_brace) k in rw q

    line-run : (i : ℕ) (z : Token) → z.kind ≡ newline → List-at (suc i) z ≡ List-at i (token_after edition s z)
    unfolding statements rank
    line-run i z k =
        let q : is close_brace z ≡ false = ap (λ (j : Kind). same j close_brace) k in
        let r : is newline z ≡ true = ap (λ (j : Kind). same j newline) k in
        rw (q, r)

    -- a statement at a token, which is read again if an operand may be there
    more-run : (i : ℕ) (z t : Token) → Reread edition s z t → among closers t.kind ≡ false → List-at (suc i) z ≡ followed edition s (List-at i) (statement t)
    unfolding statements rank
    more-run i z t w h =
        let f = open-facts t.kind h in
        let own : t ≡ as_operand edition s z = operand-again edition s z t w f.0 in
        let q : is close_brace z ≡ false = sym (operand-test edition s close_brace z (refl, refl, refl, refl, refl)) ∙ (ap (λ (y : Token). is close_brace y) (sym own) ∙ f.4) in
        let r : is newline z ≡ false = sym (operand-test edition s newline z (refl, refl, refl, refl, refl)) ∙ (ap (λ (y : Token). is newline y) (sym own) ∙ f.1) in
        rw (q, r, own)

  module _ (later : Token → Read StatementTree) where
    followed-deep : (place : ℕ) → followed edition s later (no size_passed place) ≡ no size_passed place
    unfolding followed
    followed-deep place = refl

    followed-ended : (a : StatementTree) (x : Token) → tree-ended a ≡ true → followed edition s later (ok a x) ≡ map (sequence a) (later x)
    unfolding followed
    followed-ended a x q = rw q

    followed-end : (a : StatementTree) (x : Token) → tree-ended a ≡ false → is_one_of enders x ≡ true → followed edition s later (ok a x) ≡ map (sequence a) (later (token_after edition s x))
    unfolding followed
    followed-end a x q r = rw (q, r)

    followed-brace : (a : StatementTree) (x : Token) → tree-ended a ≡ false → x.kind ≡ close_brace → followed edition s later (ok a x) ≡ map (sequence a) (later x)
    unfolding followed among rank
    followed-brace a x q k =
        let r : is_one_of enders x ≡ false = ap (among enders) k in
        let b : is close_brace x ≡ true = ap (λ (j : Kind). same j close_brace) k in
        rw (q, r, b)

  pub turns-left : (i : ℕ) (z : Token) → InText edition s 0 z → suc (length s) ≤ i + z.start → (j : ℕ) × (i ≡ suc j)
  turns-left zero z g h = absurd (omega (arith, h, g.ordered, g.within))
  turns-left (suc j) z g h = (j, refl)

  module _ (in_main : Bool) (levels : ℕ) where
    abbrev ListAt : ℕ → Token → Read StatementTree
    ListAt i z = statements edition s (statement_at edition s in_main levels) i z

    -- a statement and the list after it
    then-list : (e : End) (i j : ℕ) (z t : Token) (a b : StatementTree) (u v : Token) → i ≡ suc j → InText edition s 0 z → Reread edition s z t → among closers t.kind ≡ false → Answers edition s e (levels + t.start) (statement_at edition s in_main levels t) a t.start u
        → ((x : Token) → After edition s e x u → InText edition s 0 x → t.start < x.start → Says s (levels + z.start) (followed edition s (ListAt j) (ok a x)) (sequence a b) v) → Says s (levels + z.start) (ListAt i z) (sequence a b) v
    then-list e i j z t a b u v c g w h (inl q) k =
        inl (q.0, ap (λ (m : ℕ). ListAt m z) c ∙ (more-run (statement_at edition s in_main levels) j z t w h ∙ (ap (followed edition s (ListAt j)) q.1 ∙ followed-deep (ListAt j) q.0)), omega (arith, reread-on edition s z t g w, q.2))
    then-list e i j z t a b u v c g w h (inr q) k =
        subst (λ (r : Read StatementTree). Says s (levels + z.start) r (sequence a b) v)
        (sym (ap (λ (m : ℕ). ListAt m z) c ∙ (more-run (statement_at edition s in_main levels) j z t w h ∙ ap (followed edition s (ListAt j)) q.4))) (k q.0 q.1 q.2 q.3)

  -- the first token of a statement in a list
  first-closer : {in_main : Bool} {e : End} {o : Else} {a : List Kind} → Statement edition in_main e o a → (t : Token) (ts : List Token) (u : Token) → Stretch edition s a t ts u
      → (among closers t.kind ≡ false) × (t.start < u.start)
  first-closer {a = a} d t ts u w =
      let z = opening edition s d in
      (ap (among closers) (first-is edition s a t ts u w z.begun.0) ∙ z.begun.1, longer edition s a t ts u w z.begun.0 (open-facts (first_kind a) z.begun.1).2)

  none-says : (in_main : Bool) → ListSays in_main [] (λ ts. empty-tree)
  unfolding among rank
  none-says in_main levels i z t ts u g w p k f =
      let same-token : t ≡ u = no_more edition s t ts u p in
      let own : t ≡ z = raw-again edition s z t w (ap (λ (y : Token). among (ERE ∷ bad ∷ bad-ere ∷ []) y.kind) same-token ∙ ap (among (ERE ∷ bad ∷ bad-ere ∷ [])) k) in
      let here : z ≡ u = sym own ∙ same-token in
      let c = turns-left i z g f in
      inr (ap (λ (m : ℕ). ListAt in_main levels m z) c.1
      ∙ (brace-run (statement_at edition s in_main levels) c.0 z (ap (λ (y : Token). y.kind) here ∙ k) ∙ ap (λ (y : Token). ok empty-tree (token_after edition s y)) here))

  line-says : (in_main : Bool) (l : List Kind) (b : Saying edition s) → ListSays in_main l b → ListSays in_main (newline ∷ l) (λ ts. b (tail ts))
  unfolding among rank
  line-says in_main l b h levels i z t ts u g w p k f =
      let a = step edition s newline l t ts u refl p in
      let own : t ≡ z = raw-again edition s z t w (ap (among (ERE ∷ bad ∷ bad-ere ∷ [])) a.kind) in
      let kind : z.kind ≡ newline = ap (λ (y : Token). y.kind) (sym own) ∙ a.kind in
      let c = turns-left i z g f in
      let follow : Reread edition s (token_after edition s z) a.next = subst (λ (y : Token). Follow edition s y a.next) own a.follow in
      let on : z.start < (token_after edition s z).start = subst (λ (y : Token). y.start < (token_after edition s y).start) own a.over in
      subst (λ (r : Read StatementTree). Says s (levels + z.start) r (b (tail ts)) (token_after edition s u))
      (sym (ap (λ (m : ℕ). ListAt in_main levels m z) c.1 ∙ line-run (statement_at edition s in_main levels) c.0 z kind))
      (says_less s (levels + z.start) (levels + (token_after edition s z).start) (ListAt in_main levels c.0 (token_after edition s z)) (b (tail ts)) (token_after edition s u) (omega (arith, on))
      (h levels c.0 (token_after edition s z) a.next (tail ts) u (after-in edition s z g) follow a.others k (omega (arith, f, c.1, on))))

  ended-says : (in_main : Bool) (o : Else) (a l : List Kind) (d : Statement edition in_main ended o a) (r : Statements edition in_main l) (b : Saying edition s) → StatementSays in_main ended o a (said_statement edition s d)
      → ListSays in_main l b → ListSays in_main (a ++ l) (λ ts. sequence (said_statement edition s d (first a ts)) (b (rest a ts)))
  ended-says in_main o a l d r b hd hr levels i z t ts u g w p k f =
      let q = split edition s a l t ts u p in
      let c = turns-left i z g f in
      let counted : i ≡ suc c.0 = c.1 in
      let tree : StatementTree = said_statement edition s d (first a ts) in
      let lone = alone_of o ended q.middle (list-none edition s r q.middle (rest a ts) u q.right k (length s) true false) in
      let before : z.start ≤ t.start = reread-on edition s z t g w in
      then-list in_main levels ended i c.0 z t tree (b (rest a ts)) q.middle (token_after edition s u) counted g w (first-closer d t (first a ts) q.middle q.left).0
      (hd levels t (first a ts) q.middle q.left tt lone)
      (λ x af gx on. subst (λ (m : Read StatementTree). Says s (levels + z.start) m (sequence tree (b (rest a ts))) (token_after edition s u))
      (sym (followed-ended (ListAt in_main levels c.0) tree x (ended-said edition s d (first a ts))))
      (says_map s (sequence tree) (levels + z.start) (ListAt in_main levels c.0 x) (b (rest a ts)) (token_after edition s u)
      (says_less s (levels + z.start) (levels + x.start) (ListAt in_main levels c.0 x) (b (rest a ts)) (token_after edition s u) (omega (arith, on, before))
      (hr levels c.0 x q.middle (rest a ts) u gx af q.right k (omega (arith, f, counted, on, before))))))

  end-says : (in_main : Bool) (o : Else) (j : Kind) (a l : List Kind) (d : Statement edition in_main needs_end o a) → among enders j ≡ true → (r : Statements edition in_main l) (b : Saying edition s)
      → StatementSays in_main needs_end o a (said_statement edition s d) → ListSays in_main l b
      → ListSays in_main (a ++ (j ∷ l)) (λ ts. sequence (said_statement edition s d (first a ts)) (b (tail (rest a ts))))
  unfolding among rank
  end-says in_main o j a l d e r b hd hr levels i z t ts u g w p k f =
      let q = split edition s a (j ∷ l) t ts u p in
      let m : Token = q.middle in
      let two = each (λ k. (same k text_end ≡ false) × (among stops k ≡ true)) enders ((refl, refl), ((refl, refl), tt)) j e in
      let y = step edition s j l m (rest a ts) u two.0 q.right in
      let c = turns-left i z g f in
      let counted : i ≡ suc c.0 = c.1 in
      let tree : StatementTree = said_statement edition s d (first a ts) in
      let lone = alone_of o needs_end m
      (else-ended edition s (length s) false j m y.next y.kind e y.follow (λ i p. list-none edition s r y.next (tail (rest a ts)) u y.others k i true p)) in
      let before : z.start ≤ t.start = reread-on edition s z t g w in
      then-list in_main levels needs_end i c.0 z t tree (b (tail (rest a ts))) m (token_after edition s u) counted g w (first-closer d t (first a ts) m q.left).0
      (hd levels t (first a ts) m q.left (ap (among stops) y.kind ∙ two.1) lone)
      (λ x af gx on.
      let ender : is_one_of enders x ≡ true = ap (λ (v : Token). is_one_of enders v) (sym af) ∙ (ap (among enders) y.kind ∙ e) in
      let follow : Reread edition s (token_after edition s x) y.next = subst (λ (v : Token). Follow edition s v y.next) af y.follow in
      let over : x.start < (token_after edition s x).start = subst (λ (v : Token). v.start < (token_after edition s v).start) af y.over in
      subst (λ (m : Read StatementTree). Says s (levels + z.start) m (sequence tree (b (tail (rest a ts)))) (token_after edition s u))
      (sym (followed-end (ListAt in_main levels c.0) tree x (ended-said edition s d (first a ts)) ender))
      (says_map s (sequence tree) (levels + z.start) (ListAt in_main levels c.0 (token_after edition s x)) (b (tail (rest a ts))) (token_after edition s u)
      (says_less s (levels + z.start) (levels + (token_after edition s x).start) (ListAt in_main levels c.0 (token_after edition s x)) (b (tail (rest a ts))) (token_after edition s u) (omega (arith, on, before, over))
      (hr levels c.0 (token_after edition s x) y.next (tail (rest a ts)) u (after-in edition s x gx) follow y.others k (omega (arith, f, counted, on, before, over))))))

  last_says : (in_main : Bool) (o : Else) (a : List Kind) (d : Statement edition in_main needs_end o a) → StatementSays in_main needs_end o a (said_statement edition s d)
      → ListSays in_main a (λ ts. sequence (said_statement edition s d ts) empty-tree)
  unfolding among rank
  last_says in_main o a d hd levels i z t ts u g w p k f =
      let c = turns-left i z g f in
      let counted : i ≡ suc c.0 = c.1 in
      let tree : StatementTree = said_statement edition s d ts in
      let lone = alone_of o needs_end u (else-stops edition s (length s) false false u (ap (among (newline ∷ semicolon ∷ ELSE ∷ [])) k)) in
      let before : z.start ≤ t.start = reread-on edition s z t g w in
      then-list in_main levels needs_end i c.0 z t tree empty-tree u (token_after edition s u) counted g w (first-closer d t ts u p).0 (hd levels t ts u p (ap (among stops) k) lone)
      (λ x af gx on.
      let kind : x.kind ≡ close_brace = ap (λ (v : Token). v.kind) (sym af) ∙ k in
      let e = fuelled edition s x c.0 gx (ap (λ (j : Kind). same j text_end) kind) (omega (arith, f, counted, on, before)) in
      inr (followed-brace (ListAt in_main levels c.0) tree x (ended-said edition s d ts) kind
      ∙ (ap (λ (m : ℕ). map (sequence tree) (ListAt in_main levels m x)) e.1
      ∙ (ap (map (sequence tree)) (brace-run (statement_at edition s in_main levels) e.0 x kind) ∙ ap (λ (v : Token). ok (sequence tree empty-tree) (token_after edition s v)) (sym af)))))

  block_run : (statement : Token → Read StatementTree) (t : Token) → block_of edition s statement t ≡ map block-tree (statements edition s statement (suc (length s)) (token_after edition s t))
  unfolding block_of
  block_run statement t = refl

  braces-say : (in_main : Bool) (l : List Kind) (b : Saying edition s) → ListSays in_main l b → BlockSays in_main (open_brace ∷ (l ++ (close_brace ∷ []))) (λ ts. block-tree (b (first l (tail ts))))
  unfolding rank
  braces-say in_main l b h levels t ts u w =
      let a = step edition s open_brace (l ++ (close_brace ∷ [])) t ts u refl w in
      let q = split edition s l (close_brace ∷ []) a.next (tail ts) u a.others in
      let m : Token = q.middle in
      let y = step edition s close_brace [] m (rest l (tail ts)) u refl q.right in
      let z : Token = token_after edition s t in
      let tree : StatementTree = b (first l (tail ts)) in
      let r = h levels (suc (length s)) z a.next (first l (tail ts)) m (after-in edition s t w.good) a.follow q.left y.kind (omega arith) in
      let last_one : Follow edition s m u = subst (Follow edition s m) (no_more edition s y.next (tail (rest l (tail ts))) u y.others) y.follow in
      let on : t.start < (token_after edition s m).start = omega (arith, a.onward, q.onward, y.over) in (
        a.kind,
        subst (λ (v : Read StatementTree). Answers edition s ended (suc levels + t.start) v (block-tree tree) t.start u) (sym (block_run (statement_at edition s in_main levels) t))
            (⊎_elim (λ e. inl (e.0, ap (map block-tree) e.1, omega (arith, a.over, e.2))) (λ e. inr (token_after edition s m, last_one, after-in edition s m q.right.good, on, ap (map block-tree) e)) r),
      )

  pub block-says : {in_main : Bool} {l : List Kind} (d : Block edition in_main l) → BlockSays in_main l (said_block edition s d)
  unfolding said_statement said_block said_statements said_parts among rank
  block-says {in_main} {l} x =
      elim x as (λ e o l d. StatementSays in_main e o l (said_statement edition s d)) (λ l d. BlockSays in_main l (said_block edition s d)) (λ l d. ListSays in_main l (said_statements edition s d)) [
        | value {l = l} d ↦ (λ levels t ts u w en al. value-says in_main levels l d t ts u w en)
        | print ↦ (λ levels t ts u w en al. print-alone in_main levels t ts u w en)
        | print-list {l = l} d ↦ (λ levels t ts u w en al. print-says in_main levels l d t ts u w en)
        | if d h (a → a') ↦ (λ levels t ts u w en al. if-says in_main levels d h a a' t ts u w en al)
        | if-else d h (a → a') k j (f → f') ↦ (λ levels t ts u w en al. if-else-says in_main levels d h a k j f a' f' t ts u w en al)
        | while d h (a → a') ↦ (λ levels t ts u w en al. while-says in_main levels d h a a' t ts u w en al)
        | block (d → d') ↦ (λ levels t ts u w en al. nested-says in_main levels d d' t ts u w)
        | next h ↦ (λ levels t ts u w en al. one-says in_main levels NEXT next-tree t ts u refl (next-chosen in_main levels t h) w en)
        | exit ↦ (λ levels t ts u w en al. one-says in_main levels EXIT exit-tree t ts u refl refl w en)
        | empty ↦ (λ levels t ts u w en al. empty-says in_main levels t ts u w)
        | braces {l = l} (d → d') ↦ braces-say in_main l (said_statements edition s d) d'
        | no-statement ↦ none-says in_main
        | blank_line {l = l} (d → d') ↦ line-says in_main l (said_statements edition s d) d'
        | after_ended {o = o} {a = a} {l = l} (d → d') (r → r') ↦ ended-says in_main o a l d r (said_statements edition s r) d' r'
        | after_end {o = o} {k = k} {a = a} {l = l} (d → d') h (r → r') ↦ end-says in_main o k a l d (one_of h) r (said_statements edition s r) d' r'
        | last {o = o} {a = a} (d → d') ↦ last_says in_main o a d d'
      ]
