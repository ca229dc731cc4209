-- The readers of the parts of statements: print lists, conditions, bodies, an `else` part.
use mathlib.Core.Path.{◌≡◌, refl, sym, ap, subst, ◌∙◌}
use mathlib.Core.Bool.{Bool, true, false, cond, ◌&&◌}
use mathlib.Core.List.{List, [], ◌∷◌, ◌++◌, append_assoc}
use mathlib.Core.Option.{Option, some, none}
use mathlib.Core.Logic.{◌⊎◌, inl, inr, ⊎_elim}
use Prim.Native.Nat.{ℕ, zero, suc, ◌+◌, ◌≤◌, ◌<◌}
use native.Mathlib.Omega.{arith}
use lib.ListN.{length}
use Rattle.edition.specs.Outcomes.{size_passed}
use Rattle.program_tokens.specs.Kinds.{Kind, text_end, newline, ERE, bad, bad-ere, IF, WHILE, PRINT, NEXT, EXIT, open_brace, open_paren, close_paren, comma, semicolon, same, among, rank}
use Rattle.program_tokens.specs.Tokens.{Token, is, token_after}
use Rattle.program_tree.specs.Tree.{Expression, Statement, expression, if, if-else, next, exit, empty}
use Rattle.program_grammar.specs.Sets.{starts_statement}
use Rattle.program_grammar.specs.Grammar.{Newlines, in_print, elsewhere, expression as expression-part, Form, PrintList, last as last-element, next as next-element, End, needs_end, ended}
use Rattle.program_reader.specs.Read.{Read, ok, no, map, bind, too_deep, operand_after, past_newlines}
use Rattle.program_reader.specs.Expressions.{closed, inside, expression_at}
use Rattle.program_reader.specs.Statements.{ended as tree-ended, no_body, listed, print_at, condition_at, else_after, body_at, else_at, then_at, if_at, while_at, statement_of, block_of, statement_at}
use Rattle.program_parser.specs.Reading.{Good as InText}
use Rattle.program_parser.proofs.Tokens.{Slashes}
use Rattle.program_exact.specs.Trees.{first, rest, tail, said}
use Rattle.program_exact.proofs.Facts.{each, quiet}
use Rattle.program_exact.proofs.Sentences.{stops}
use Rattle.program_exact.proofs.Walks.{after-in}
use Rattle.program_exact.proofs.Bodies.{fuelled}
use Rattle.program_exact.proofs.Sayings.{first_kind, IsEmpty, Raw, Starts, Follow, Reread, operand-next, past-trail, all_lines, lines-passed, starts-expression, first-append, still-some, Exact, inner-exact, spoken}
use Rattle.program_says.specs.Trees.{said_list}
use Rattle.program_says.proofs.Stretches.{Deep, Says, says_less, Stretch, reread-on, spans, split, step, last-in, first-is, else-again, is_ended}
use Rattle.program_says.proofs.Openings.{closers, open-facts}

-- what ends a statement is read as it is, and ends an expression
pub stop-facts : (k : Kind) → among stops k ≡ true → (Raw k) × (among quiet k ≡ true) × (same k comma ≡ false) × (among Slashes k ≡ false)
unfolding among rank
stop-facts k h =
    each (λ k. (Raw k) × (among quiet k ≡ true) × (same k comma ≡ false) × (among Slashes k ≡ false)) stops
    ((refl, refl, refl, refl), ((refl, refl, refl, refl), ((refl, refl, refl, refl), tt))) k h

module _ (edition : ℕ) (s : List ℕ) where
  -- ---- answers

  -- the token after what was read: the next one, or it is read again to the next one
  abbrev pub After : End → Token → Token → Type 0
  After needs_end x u = u ≡ x
  After ended x u = Reread edition s x u

  pub again : (e : End) (x u : Token) → After e x u → Reread edition s x u
  again needs_end x u h = inl h
  again ended x u h = h

  -- the answer is 6, and a number is less than the text's length, or what was read and the token after it, which is
  -- after a place
  abbrev pub Answers : {A : Type 0} → End → ℕ → Read A → A → ℕ → Token → Type 0
  Answers e n r a p u = (Deep s n r) ⊎ ((x : Token) × (After e x u) × (InText edition s 0 x) × (p < x.start) × (r ≡ ok a x))

  pub answered : {A : Type 0} (n : ℕ) (r : Read A) (a : A) (p : ℕ) (u : Token) → InText edition s 0 u → p < u.start → Says s n r a u → Answers needs_end n r a p u
  answered n r a p u g h (inl z) = inl z
  answered n r a p u g h (inr q) = inr (u, refl, g, h, q)

  pub answers-map : {A B : Type 0} (f : A → B) (e : End) (n : ℕ) (r : Read A) (a : A) (p : ℕ) (u : Token) → Answers e n r a p u → Answers e n (map f r) (f a) p u
  answers-map f e n r a p u (inl z) = inl (z.0, ap (map f) z.1, z.2)
  answers-map f e n r a p u (inr z) = inr (z.0, z.1, z.2, z.3, ap (map f) z.4)

  pub sooner : {A : Type 0} (e : End) (m n : ℕ) (r : Read A) (a : A) (p q : ℕ) (u : Token) → m ≤ n → p ≤ q → Answers e n r a q u → Answers e m r a p u
  sooner e m n r a p q u g h (inl z) = inl (z.0, z.1, omega (arith, g, z.2))
  sooner e m n r a p q u g h (inr z) = inr (z.0, z.1, z.2, omega (arith, h, z.3), z.4)

  pub bound : {A B : Type 0} (n : ℕ) (r : Read A) (f : A → Token → Read B) (a : A) (x : Token) (e : End) (b : B) (p : ℕ) (u : Token) → Says s n r a x → Answers e n (f a x) b p u
      → Answers e n (bind r f) b p u
  bound n r f a x e b p u (inl z) h = inl (z.0, ap (λ q. bind q f) z.1, z.2)
  bound n r f a x e b p u (inr q) h = subst (λ m. Answers e n m b p u) (sym (ap (λ q. bind q f) q)) h

  -- ---- `print`

  listed-deep : (levels i place : ℕ) → listed edition s levels i (no size_passed place) ≡ no size_passed place
  unfolding listed
  listed-deep levels zero place = refl
  listed-deep levels (suc i) place = refl

  listed-stop : (levels i : ℕ) (es : List Expression) (u : Token) → is comma u ≡ false → listed edition s levels i (ok es u) ≡ ok es u
  unfolding listed
  listed-stop levels zero es u q = refl
  listed-stop levels (suc i) es u q = rw q

  listed-turn : (levels i : ℕ) (es : List Expression) (u : Token) → is comma u ≡ true
      → listed edition s levels (suc i) (ok es u) ≡ listed edition s levels i (map (λ e. es ++ (e ∷ [])) (expression_at edition s levels true (past_newlines edition s (token_after edition s u))))
  unfolding listed
  listed-turn levels i es u q = rw q

  pub list-first : (l : List Kind) → PrintList edition l → (IsEmpty l → ⊥) × (Starts edition s (first_kind l))
  list-first l (last-element d) = starts-expression edition s in_print l d
  list-first _ (next-element {l = l} {n = n} {r = r} d h e) =
      let i = starts-expression edition s in_print l d in
      (still-some edition s l (comma ∷ (n ++ r)) i.0, subst (Starts edition s) (sym (first-append edition s l (comma ∷ (n ++ r)) i.0)) i.1)

  -- newlines that may follow
  pub past-lines : (n : List Kind) → Newlines n → (x v : Token) (ts : List Token) (y : Token) → InText edition s 0 x → Reread edition s x v → Stretch edition s n v ts y
      → same y.kind newline ≡ false → among Slashes y.kind ≡ false → past_newlines edition s x ≡ y
  unfolding among
  past-lines n h x v ts y g w p a b =
      past-trail edition s (newline ∷ []) (lines-passed edition s) n (all_lines edition s n h) (length s) x v ts y g (omega arith) w p.kinds p.trail (rw a) b

  -- the elements of a print list after some others
  pub list-says : (levels : ℕ) (l : List Kind) (d : PrintList edition l) (i : ℕ) (es : List Expression) (v : Token) (ts : List Token) (u : Token) → Stretch edition s l v ts u
      → among stops u.kind ≡ true → length s ≤ i + v.start
      → Says s (levels + v.start) (listed edition s levels i (map (λ e. es ++ (e ∷ [])) (expression_at edition s levels true v))) (es ++ said_list edition s d ts) u
  unfolding said_list among rank
  list-says levels l (last-element d) i es v ts u w st f =
      let z = stop-facts u.kind st in
      let Q : Read Expression → Read (List Expression) = λ r. listed edition s levels i (map (λ e. es ++ (e ∷ [])) r) in
      ⊎_elim (λ q. inl (q.0, ap Q q.1 ∙ listed-deep levels i q.0, q.2)) (λ q. inr (ap Q q ∙ listed-stop levels i (es ++ (said edition s d ts ∷ [])) u z.2))
      (spoken edition s d levels true v ts u refl (spans edition s l v ts u w z.0) z.1)
  list-says levels _ (next-element {l = l} {n = n} {r = r} d h e) i es v ts u w st f =
      let b = split edition s l (comma ∷ (n ++ r)) v ts u w in
      let m : Token = b.middle in
      let a = step edition s comma (n ++ r) m (rest l ts) u refl b.right in
      let c = split edition s n r a.next (tail (rest l ts)) u a.others in
      let y : Token = c.middle in
      let begins = list-first r e in
      let kind-y : y.kind ≡ first_kind r = first-is edition s r y (rest n (tail (rest l ts))) u c.right begins.0 in
      let own : past_newlines edition s (token_after edition s m) ≡ y =
      past-lines n h (token_after edition s m) a.next (first n (tail (rest l ts))) y (after-in edition s m b.right.good) a.follow c.left
      (ap (λ (j : Kind). same j newline) kind-y ∙ begins.1.1) (ap (among Slashes) kind-y ∙ begins.1.0) in
      let fuel = fuelled edition s m i b.right.good (ap (λ (j : Kind). same j text_end) a.kind) (omega (arith, f, b.onward)) in
      let x : Expression = said edition s d (first l ts) in
      let more : List Expression = es ++ (x ∷ []) in
      let Q : Read Expression → Read (List Expression) = λ r. listed edition s levels i (map (λ e. es ++ (e ∷ [])) r) in
      let tree : List Expression = said_list edition s e (rest n (tail (rest l ts))) in
      let later = list-says levels r e fuel.0 more y (rest n (tail (rest l ts))) u c.right st (omega (arith, f, fuel.1, b.onward, a.onward, c.onward)) in
      let turned : listed edition s levels i (ok more m) ≡ listed edition s levels fuel.0 (map (λ e. more ++ (e ∷ [])) (expression_at edition s levels true y)) =
      ap (λ (j : ℕ). listed edition s levels j (ok more m)) fuel.1
      ∙ (listed-turn levels fuel.0 more m (ap (λ (j : Kind). same j comma) a.kind)
      ∙ ap (λ (k : Token). listed edition s levels fuel.0 (map (λ e. more ++ (e ∷ [])) (expression_at edition s levels true k))) own) in
      ⊎_elim (λ q. inl (q.0, ap Q q.1 ∙ listed-deep levels i q.0, q.2))
      (λ q. subst (λ (k : List Expression). Says s (levels + v.start) (Q (expression_at edition s levels true v)) k u) (append_assoc es (x ∷ []) tree)
      (subst (λ (k : Read (List Expression)). Says s (levels + v.start) k (more ++ tree) u) (sym (ap Q q ∙ turned))
      (says_less s (levels + v.start) (levels + y.start) (listed edition s levels fuel.0 (map (λ e. more ++ (e ∷ [])) (expression_at edition s levels true y))) (more ++ tree) u
      (omega (arith, b.onward, a.onward, c.onward)) later)))
      (spoken edition s d levels true v (first l ts) m refl (spans edition s l v (first l ts) m b.left (ap (among (ERE ∷ bad ∷ bad-ere ∷ [])) a.kind)) (ap (among quiet) a.kind))

  -- ---- conditions

  pub record Conditioned (levels : ℕ) (c r : List Kind) (x : Expression) (o : Token) (ts : List Token) (u : Token) : Type 0 where
    pub close : Token
    pub next : Token
    pub says : Says s (levels + o.start) (condition_at edition s levels o) x (token_after edition s close)
    pub good : InText edition s 0 (token_after edition s close)
    pub follow : Follow edition s close next
    pub others : Stretch edition s r next (tail (rest c (tail ts))) u
    pub onward : o.start < (token_after edition s close).start
    pub opener : o.kind ≡ open_paren

  closed_run : (x : Expression) (w : Token) → is close_paren w ≡ true → closed edition s (ok x w) ≡ ok x (token_after edition s w)
  unfolding closed
  closed_run x w q = rw q

  closed-deep : (place : ℕ) → closed edition s (no size_passed place) ≡ no size_passed place
  unfolding closed
  closed-deep place = refl

  condition-run : (levels : ℕ) (o : Token) → is open_paren o ≡ true → condition_at edition s levels o ≡ closed edition s (inside edition s levels false 10 o (operand_after edition s o))
  unfolding condition_at
  condition-run levels o q = rw q

  -- a condition in parentheses, at its `(`
  pub condition-says : (levels : ℕ) (c r : List Kind) (d : Form edition (expression-part elsewhere) c) (o : Token) (ts : List Token) (u : Token)
      → Stretch edition s (open_paren ∷ (c ++ (close_paren ∷ r))) o ts u → Conditioned levels c r (said edition s d (first c (tail ts))) o ts u
  unfolding among rank
  condition-says levels c r d o ts u w =
      let a = step edition s open_paren (c ++ (close_paren ∷ r)) o ts u refl w in
      let v : Token = a.next in
      let b = split edition s c (close_paren ∷ r) v (tail ts) u a.others in
      let m : Token = b.middle in
      let z = step edition s close_paren r m (rest c (tail ts)) u refl b.right in
      let begins = starts-expression edition s elsewhere c d in
      let kind-v : v.kind ≡ first_kind c = first-is edition s c v (first c (tail ts)) m b.left begins.0 in
      let own : v ≡ operand_after edition s o = operand-next edition s o v a.follow (ap (among Slashes) kind-v ∙ begins.1.0) in
      let x : Expression = said edition s d (first c (tail ts)) in
      let sp = spans edition s c v (first c (tail ts)) m b.left (ap (among (ERE ∷ bad ∷ bad-ere ∷ [])) z.kind) in
      let inner : Exact edition s (levels + o.start) (inside edition s levels false 10 o v) x m =
      inner-exact edition s levels false 10 o v x m a.onward a.others.good (λ k. spoken edition s d k false v (first c (tail ts)) m refl sp (ap (among quiet) z.kind)) in
      let run : condition_at edition s levels o ≡ closed edition s (inside edition s levels false 10 o v) =
      condition-run levels o (ap (λ (j : Kind). same j open_paren) a.kind) ∙ ap (λ (y : Token). closed edition s (inside edition s levels false 10 o y)) (sym own) in
      record {
        close = m;
        next = z.next;
        says = ⊎_elim (λ q. inl (q.0, run ∙ (ap (closed edition s) q.1 ∙ closed-deep q.0), q.2))
            (λ q. inr (run ∙ (ap (closed edition s) q ∙ closed_run x m (ap (λ (j : Kind). same j close_paren) z.kind)))) inner;
        good = after-in edition s m b.right.good;
        follow = z.follow;
        others = z.others;
        onward = omega (arith, a.onward, b.onward, z.over);
        opener = a.kind;
      }

  -- ---- a statement's kind

  module _ (in_main : Bool) where
    -- readers one level further in
    abbrev pub body_of : ℕ → Token → Read Statement
    body_of zero = no_body edition in_main
    body_of (suc levels) = statement_at edition s in_main levels

    abbrev pub braces_of : ℕ → Token → Read Statement
    braces_of zero = too_deep
    braces_of (suc levels) = block_of edition s (statement_at edition s in_main levels)

    -- the reader of a statement, by the kind of its first token
    abbrev pub chosen : ℕ → Token → Kind → Read Statement
    chosen levels t j =
        cond (same j semicolon) (ok empty (token_after edition s t))
        (cond (same j open_brace) (braces_of levels t)
        (cond (same j IF) (if_at edition s (body_of levels) levels (token_after edition s t))
        (cond (same j WHILE) (while_at edition s (body_of levels) levels (token_after edition s t))
        (cond (same j PRINT) (print_at edition s levels (operand_after edition s t))
        (cond (same j EXIT) (ok exit (token_after edition s t))
        (cond (same j NEXT && in_main) (ok next (token_after edition s t)) (map expression (expression_at edition s levels false t))))))))

    pub statement-run : (levels : ℕ) (t : Token) (j : Kind) → t.kind ≡ j → statement_at edition s in_main levels t ≡ chosen levels t j
    unfolding statement_at statement_of
    statement-run zero t j k = ap (chosen zero t) k
    statement-run (suc levels) t j k = ap (chosen (suc levels) t) k

    -- ---- bodies

    no_body_lem : (y : Token) → starts_statement edition in_main y.kind ≡ true → no_body edition in_main y ≡ no size_passed y.start
    unfolding no_body
    no_body_lem y q = rw q

    body-says : (e : End) (levels p : ℕ) (y : Token) (a : Statement) (u : Token) → p < y.start → InText edition s 0 y → starts_statement edition in_main y.kind ≡ true
        → ((m : ℕ) → Answers e (m + y.start) (statement_at edition s in_main m y) a y.start u) → Answers e (levels + p) (body_of levels y) a p u
    body-says e zero p y a u on g q h = inl (y.start, no_body_lem y q, omega (arith, on, g.ordered, g.within))
    body-says e (suc levels) p y a u on g q h =
        sooner e (suc levels + p) (levels + y.start) (statement_at edition s in_main levels y) a p y.start u (omega (arith, on)) (omega (arith, on)) (h levels)

    -- a body, where newlines may come before it
    pub body-at : (e : End) (levels p : ℕ) (n : List Kind) (x v : Token) (ns : List Token) (y : Token) (a : Statement) (u : Token) → Newlines n → p < x.start → InText edition s 0 x → Reread edition s x v
        → Stretch edition s n v ns y → v.start ≤ y.start → starts_statement edition in_main y.kind ≡ true → among closers y.kind ≡ false
        → ((m : ℕ) → Answers e (m + y.start) (statement_at edition s in_main m y) a y.start u) → Answers e (levels + p) (body_at edition s (body_of levels) x) a p u
    body-at e levels p n x v ns y a u h lt g w sp on q b k =
        let f = open-facts y.kind b in
        let own : past_newlines edition s x ≡ y = past-lines n h x v ns y g w sp f.1 f.0 in
        subst (λ (z : Token). Answers e (levels + p) (body_of levels z) a p u) (sym own)
        (body-says e levels p y a u (omega (arith, lt, on, reread-on edition s x v g w)) (last-in edition s n v ns y sp) q k)

  -- ---- what follows a then-part

  module _ (body : Token → Read Statement) (e : End) (c : Expression) (v : Token) (a : Statement) (n p : ℕ) (u : Token) (h : tree-ended a ≡ is_ended edition s e) where
    else-of : (x : Token) → After e x u → (o : Option Token) → else_after edition s (length s) (is_ended edition s e) false u ≡ o → else_after edition s (length s) (tree-ended a) false x ≡ o
    else-of x w o q = ap (λ (b : Bool). else_after edition s (length s) b false x) h ∙ (else-again edition s (length s) (is_ended edition s e) false x u (again e x u w) ∙ q)

    abbrev Rest : Statement → Token → Read Statement
    Rest a v = else_at edition s body c a v (else_after edition s (length s) (tree-ended a) false v)

    pub then-alone : else_after edition s (length s) (is_ended edition s e) false u ≡ none → Answers e n (body_at edition s body v) a p u → Answers e n (then_at edition s body c v) (if c a) p u
    then-alone q (inl z) = inl (z.0, ap (λ (r : Read Statement). bind r Rest) z.1, z.2)
    then-alone q (inr z) =
        inr (z.0, z.1, z.2, z.3, ap (λ (r : Read Statement). bind r Rest) z.4 ∙ ap (else_at edition s body c a z.0) (else-of z.0 z.1 none q))

    pub then-else : (w : Token) (f : End) (b : Statement) (m q : ℕ) (y : Token) → else_after edition s (length s) (is_ended edition s e) false u ≡ some w → n ≤ m → p ≤ q
        → Answers e n (body_at edition s body v) a p u → Answers f m (body_at edition s body w) b q y → Answers f n (then_at edition s body c v) (if-else c a b) p y
    then-else w f b m q y g ln le (inl z) k = inl (z.0, ap (λ (r : Read Statement). bind r Rest) z.1, z.2)
    then-else w f b m q y g ln le (inr z) k =
        subst (λ (r : Read Statement). Answers f n r (if-else c a b) p y)
        (sym (ap (λ (r : Read Statement). bind r Rest) z.4 ∙ ap (else_at edition s body c a z.0) (else-of z.0 z.1 (some w) g)))
        (answers-map (if-else c a) f n (body_at edition s body w) b p y (sooner f n m (body_at edition s body w) b p q y ln le k))
