-- A statement that is read: the walk passes its names, in its order.
use mathlib.Core.Path.{◌≡◌, refl, sym, ap, ◌∙◌}
use mathlib.Core.Bool.{Bool, true, false, not, cond, ◌&&◌}
use mathlib.Core.List.{List, [], ◌∷◌, ◌++◌, append_assoc, append-nil}
use mathlib.Core.Option.{Option, some, none}
use Prim.Native.Nat.{ℕ, zero, suc}
use lib.ListN.{length}
use Rattle.lists.proofs.Tests.{clash, and-true}
use Rattle.program_tokens.specs.Kinds.{Kind, newline, IF, ELSE, WHILE, PRINT, NEXT, EXIT, open_brace, close_brace, open_paren, close_paren, comma, semicolon, among, rank}
use Rattle.program_tokens.specs.Tokens.{Token, is, is_one_of, token_after, as_operand}
use Rattle.program_tree.specs.Tree.{Expression, Statement, expression, print, if-else, while, block, next, exit, empty, sequence}
use Rattle.program_grammar.specs.Sets.{enders, starts_expression, starts_statement}
use Rattle.program_reader.specs.Read.{Read, ok, no, map, bind, too_deep, operand_after, past, past_newlines}
use Rattle.program_reader.specs.Operators.{expressions}
use Rattle.program_reader.specs.Expressions.{closed, inside, expression_at}
use Rattle.program_reader.specs.Statements.{ended, no_body, listed, print_at, condition_at, else_after, body_at, else_at, then_at, if_at, while_at, statement_of, followed, statements, block_of, statement_at}
use Rattle.program_parser.proofs.Tokens.{choose}
use Rattle.program_numbering.specs.Names.{names_in, names_in_all, names_in_statement}
use Rattle.program_names.specs.Walk.{spanned}
use Rattle.program_names.proofs.Walks.{passed, Meets, meets-kind, Walks, if-token, while-token, open-condition, close-condition, meets-spanned, meets-operand, newlines-walk, joined, onward, to, from, past-names}
use Rattle.program_names.proofs.Expressions.{Good, good-cond, good-map, open-met, open-some, inside-good, expression-good}

-- the names of a list with one more
names_more : (es : List Expression) (e : Expression) → names_in_all es ++ names_in e ≡ names_in_all (es ++ (e ∷ []))
unfolding names_in_all
names_more [] e = sym (append-nil (names_in e))
names_more (a ∷ es) e =
    append_assoc (names_in a) (names_in_all es) (names_in e) ∙ ap (λ (l : List (List ℕ)). names_in a ++ l) (names_more es e)

module _ (edition : ℕ) (s : List ℕ) where
  -- ---- "`print` with an optional list"

  listed-good : (levels n : ℕ) (w : Token) (r : Read (List Expression)) → Good edition s names_in_all w 0 0 r
      → Good edition s names_in_all w 0 0 (listed edition s levels n r)
  unfolding listed rank among
  listed-good levels zero w r g = g
  listed-good levels (suc n) w (no outcome place) g = tt
  listed-good levels (suc n) w (ok es t) g =
      let a : Token = token_after edition s t in
      let v : Token = past edition s (newline ∷ []) a in
      good-cond edition s names_in_all w 0 0 (is comma t) _ _
      (λ q. listed-good levels n w _
      (good-map edition s names_in names_in_all w (spanned s v) 0 0 0 (names_in_all es) (λ e. es ++ (e ∷ []))
      (expression_at edition s levels true (past_newlines edition s a))
      (onward g (onward (open-met edition s comma t t 0 refl q (λ e. refl)) (newlines-walk edition s a 0)))
      (λ e. names_more es e) (expression-good edition s levels true (spanned s v) _ none (meets-operand edition s v))))
      (λ q. g)

  -- ---- statements

  -- the walk goes on where the reader does: after an end, at an operand
  pub record Done (w : Token) (a : Statement) (u : Token) : Type 0 where
    pub at : Token
    pub walk : Walks edition s w 0 (names_in_statement a) at 0
    pub meets : Meets at u
    pub operand : ended a ≡ true → at ≡ spanned s u

  abbrev pub GoodStatement : Token → Read Statement → Type 0
  GoodStatement w (ok a u) = Done w a u
  GoodStatement w (no outcome place) = Unit

  abbrev pub ReadsStatement : (Token → Read Statement) → Type 0
  ReadsStatement f = (w t : Token) → Meets w t → GoodStatement w (f t)

  statement-cond : (w : Token) (b : Bool) (x y : Read Statement) → (b ≡ true → GoodStatement w x)
      → (b ≡ false → GoodStatement w y) → GoodStatement w (cond b x y)
  statement-cond w true x y f g = f refl
  statement-cond w false x y f g = g refl

  print-good : (levels : ℕ) (w v u : Token) → Walks edition s w 0 [] v 0 → Meets v u
      → GoodStatement w (print_at edition s levels u)
  unfolding print_at names_in_all names_in_statement ended
  print-good levels w v u p h =
      let one : Read (List Expression) = map (λ e. e ∷ []) (expression_at edition s levels true u) in
      statement-cond w (starts_expression edition u.kind) _ _
      (λ b. printed (listed edition s levels (length s) one) (listed-good levels (length s) w one
      (good-map edition s names_in names_in_all w v 0 0 0 [] (λ e. e ∷ []) (expression_at edition s levels true u) p
      (λ e. sym (append-nil (names_in e))) (expression-good edition s levels true v u none h))))
      (λ b. record { at = v; walk = p; meets = h; operand = λ e. absurd (clash (sym e)) })
    where
      printed : (r : Read (List Expression)) → Good edition s names_in_all w 0 0 r → GoodStatement w (map print r)
      printed (ok es t) g = record { at = t; walk = g; meets = λ e. refl; operand = λ e. absurd (clash (sym e)) }
      printed (no outcome place) g = tt

  -- what is read, where an operand may follow
  abbrev pub GoodOpen : {A : Type 0} → (A → List (List ℕ)) → Token → Read A → Type 0
  GoodOpen ns w (ok a u) = Walks edition s w 0 (ns a) (spanned s u) 0
  GoodOpen ns w (no outcome place) = Unit

  pub open-cond : {A : Type 0} (ns : A → List (List ℕ)) (w : Token) (b : Bool) (x y : Read A)
      → (b ≡ true → GoodOpen ns w x)
      → (b ≡ false → GoodOpen ns w y) → GoodOpen ns w (cond b x y)
  open-cond ns w true x y f g = f refl
  open-cond ns w false x y f g = g refl

  pub open-map : {A B : Type 0} (k : A → List (List ℕ)) (l : B → List (List ℕ)) (w v : Token) (before : List (List ℕ))
      (f : A → B)
      (r : Read A) → Walks edition s w 0 before v 0 → ((a : A) → before ++ k a ≡ l (f a)) → GoodOpen k v r
      → GoodOpen l w (map f r)
  open-map k l w v before f (ok a t) p e g = past-names (joined p g) (e a)
  open-map k l w v before f (no outcome place) p e g = tt

  open-statement : (w : Token) (r : Read Statement) → GoodOpen names_in_statement w r → GoodStatement w r
  open-statement w (ok a u) g =
      record { at = spanned s u; walk = g; meets = meets-spanned edition s u; operand = λ e. refl }
  open-statement w (no outcome place) g = tt

  statement-map : (w v : Token) (before : List (List ℕ)) (f : Statement → Statement) (r : Read Statement)
      → Walks edition s w 0 before v 0 → ((a : Statement) → before ++ names_in_statement a ≡ names_in_statement (f a))
      → ((a : Statement) → ended (f a) ≡ ended a) → GoodStatement v r → GoodStatement w (map f r)
  statement-map w v before f (ok a t) p e same_end d =
      record {
        at = d.at;
        walk = past-names (joined p d.walk) (e a);
        meets = d.meets;
        operand = λ q. d.operand (sym (same_end a) ∙ q);
      }
  statement-map w v before f (no outcome place) p e same_end d = tt

  -- ---- "`if`/`else`, `while`"

  closed-open : (w : Token) (r : Read Expression) → Good edition s names_in w 0 2 r
      → GoodOpen names_in w (closed edition s r)
  unfolding closed
  closed-open w (no outcome place) g = tt
  closed-open w (ok e t) g =
      open-cond names_in w (is close_paren t) _ _ (λ q. onward g (close-condition edition s t q)) (λ q. tt)

  -- what is read, after a walk to it
  good-after : (w v : Token) (m o n : ℕ) (r : Read Expression) → Walks edition s w m [] v o
      → Good edition s names_in v o n r
      → Good edition s names_in w m n r
  good-after w v m o n (ok e t) p g = joined p g
  good-after w v m o n (no outcome place) p g = tt

  condition-good : (levels : ℕ) (w u : Token) → Walks edition s w 0 [] (spanned s u) 1
      → GoodOpen names_in w (condition_at edition s levels u)
  unfolding condition_at rank among
  condition-good levels w u p =
      let v : Token = token_after edition s u in
      let r : Read Expression = inside edition s levels false expressions u (operand_after edition s u) in
      open-cond names_in w (is open_paren u) _ _
      (λ q.
      let begun =
      onward (to p (meets-kind open_paren (spanned s u) u refl q (meets-spanned edition s u)))
      (open-condition edition s u q) in
      closed-open w r (good-after w (spanned s v) 0 2 2 r begun
      (inside-good edition s levels false expressions u (spanned s v) _ (some 0) (meets-operand edition s v))))
      (λ q. tt)

  abbrev ElseWalk : Token → Option Token → Type 0
  ElseWalk v none = Unit
  ElseWalk v (some u) = Walks edition s v 0 [] (spanned s u) 0

  else-join : (v w : Token) (o : Option Token) → Walks edition s v 0 [] w 0 → ElseWalk w o → ElseWalk v o
  else-join v w none p q = tt
  else-join v w (some u) p q = joined p q

  else-walk : (n : ℕ) (free semicolons : Bool) (v t : Token) → Meets v t
      → ElseWalk v (else_after edition s n free semicolons t)
  unfolding else_after rank among
  else-walk zero free semicolons v t h = tt
  else-walk (suc n) free semicolons v t h =
      let u : Token = token_after edition s t in
      choose (ElseWalk v) (is newline t) _ _
      (λ q. else-join v (spanned s u) (else_after edition s n true semicolons u)
      (open-met edition s newline v t 0 refl q h)
      (else-walk n true semicolons (spanned s u) u (meets-spanned edition s u)))
      (λ q. choose (ElseWalk v) (is semicolon t && not semicolons) _ _
      (λ q. else-join v (spanned s u) (else_after edition s n true true u)
      (open-met edition s semicolon v t 0 refl (and-true (is semicolon t) _ q).0 h)
      (else-walk n true true (spanned s u) u (meets-spanned edition s u)))
      (λ q. choose (ElseWalk v) (is ELSE t && free) (some u) none
      (λ q. open-met edition s ELSE v t 0 refl (and-true (is ELSE t) _ q).0 h) (λ q. tt)))

  module _ (body : Token → Read Statement) (b : ReadsStatement body) where
    -- a body, past newlines
    body-good : (w u : Token) (before : List (List ℕ)) (f : Statement → Statement)
        → Walks edition s w 0 before (spanned s u) 0
        → ((a : Statement) → before ++ names_in_statement a ≡ names_in_statement (f a))
        → ((a : Statement) → ended (f a) ≡ ended a) → GoodStatement w (map f (body_at edition s body u))
    body-good w u before f p e same_end =
        let v : Token = past edition s (newline ∷ []) u in
        statement-map w (spanned s v) before f (body (past_newlines edition s u))
        (onward p (newlines-walk edition s u 0)) e same_end
        (b (spanned s v) _ (meets-operand edition s v))

    else-good : (w v : Token) (c : Expression) (a : Statement) (t : Token) (o : Option Token)
        → Walks edition s w 0 (names_in c) v 0
        → (d : Done v a t) → ElseWalk d.at o → GoodStatement w (else_at edition s body c a t o)
    unfolding names_in_statement ended
    else-good w v c a t none p d q =
        record { at = d.at; walk = joined p d.walk; meets = d.meets; operand = d.operand }
    else-good w v c a t (some u) p d q =
        body-good w u (names_in c ++ names_in_statement a) (if-else c a) (onward (joined p d.walk) q)
        (λ e. append_assoc (names_in c) (names_in_statement a) (names_in_statement e)) (λ e. refl)

    then-good : (w v : Token) (c : Expression) (r : Read Statement) → Walks edition s w 0 (names_in c) v 0
        → GoodStatement v r
        → GoodStatement w
        (bind r (λ a u. else_at edition s body c a u (else_after edition s (length s) (ended a) false u)))
    then-good w v c (ok a t) p d =
        else-good w v c a t (else_after edition s (length s) (ended a) false t) p d
        (else-walk (length s) (ended a) false d.at t d.meets)
    then-good w v c (no outcome place) p d = tt

    condition-then : (w : Token) (r : Read Expression) → GoodOpen names_in w r
        → GoodStatement w (bind r (then_at edition s body))
    condition-then w (ok c t) g =
        let v : Token = past edition s (newline ∷ []) t in
        then-good w (spanned s v) c (body (past_newlines edition s t)) (onward g (newlines-walk edition s t 0))
        (b (spanned s v) _ (meets-operand edition s v))
    condition-then w (no outcome place) g = tt

    if-good : (levels : ℕ) (w u : Token) → Walks edition s w 0 [] (spanned s u) 1
        → GoodStatement w (if_at edition s body levels u)
    unfolding if_at
    if-good levels w u p = condition-then w (condition_at edition s levels u) (condition-good levels w u p)

    condition-while : (w : Token) (r : Read Expression) → GoodOpen names_in w r
        → GoodStatement w (bind r (λ c t. map (while c) (body_at edition s body t)))
    unfolding names_in_statement ended
    condition-while w (ok c t) g = body-good w t (names_in c) (while c) g (λ a. refl) (λ a. refl)
    condition-while w (no outcome place) g = tt

    while-good : (levels : ℕ) (w u : Token) → Walks edition s w 0 [] (spanned s u) 1
        → GoodStatement w (while_at edition s body levels u)
    unfolding while_at
    while-good levels w u p = condition-while w (condition_at edition s levels u) (condition-good levels w u p)

    -- a statement that is an expression
    expression-statement : (w : Token) (r : Read Expression) → Good edition s names_in w 0 0 r
        → GoodStatement w (map expression r)
    unfolding names_in_statement ended
    expression-statement w (ok e t) g =
        record { at = t; walk = g; meets = λ q. refl; operand = λ q. absurd (clash (sym q)) }
    expression-statement w (no outcome place) g = tt

    -- a statement of one token
    word-statement : (k : Kind) (w t : Token) (a : Statement) → [] ≡ names_in_statement a → passed k ≡ true
        → is k t ≡ true → Meets w t
        → Done w a (token_after edition s t)
    word-statement k w t a e q i h =
        let u : Token = token_after edition s t in
        record {
          at = spanned s u;
          walk = past-names (open-met edition s k w t 0 q i h) e;
          meets = meets-spanned edition s u;
          operand = λ f. refl;
        }

    statement-of-good : (in_main : Bool) (levels : ℕ) (braces : Token → Read Statement)
        → ((w t : Token) → is open_brace t ≡ true → Meets w t → GoodStatement w (braces t))
        → ReadsStatement (statement_of edition s in_main levels body braces)
    unfolding statement_of names_in_statement rank among
    statement-of-good in_main levels braces c w t h =
        let u : Token = token_after edition s t in
        statement-cond w (is semicolon t) _ _ (λ q. word-statement semicolon w t empty refl refl q h)
        (λ q. statement-cond w (is open_brace t) _ _ (λ q. c w t q h)
        (λ q. statement-cond w (is IF t) _ _
        (λ q. if-good levels w u (from (meets-kind IF w t refl q h) (if-token edition s t q)))
        (λ q. statement-cond w (is WHILE t) _ _
        (λ q. while-good levels w u (from (meets-kind WHILE w t refl q h) (while-token edition s t q)))
        (λ q. statement-cond w (is PRINT t) _ _
        (λ q. print-good levels w (spanned s u) (operand_after edition s t) (open-met edition s PRINT w t 0 refl q h)
        (meets-operand edition s u))
        (λ q. statement-cond w (is EXIT t) _ _ (λ q. word-statement EXIT w t exit refl refl q h)
        (λ q. statement-cond w (is NEXT t && in_main) _ _
        (λ q. word-statement NEXT w t next refl refl (and-true (is NEXT t) _ q).0 h)
        (λ q. expression-statement w (expression_at edition s levels false t)
        (expression-good edition s levels false w t none h))))))))

  -- ---- "block"

  abbrev ReadsBlock : (Token → Read Statement) → Type 0
  ReadsBlock f = (t : Token) → GoodOpen names_in_statement (spanned s t) (f t)

  followed-good : (w : Token) (rest : Token → Read Statement) → ReadsBlock rest → (r : Read Statement)
      → GoodStatement w r
      → GoodOpen names_in_statement w (followed edition s rest r)
  unfolding followed names_in_statement rank among
  followed-good w rest c (no outcome place) d = tt
  followed-good w rest c (ok a t) d =
      let u : Token = token_after edition s t in
      let on : (z : Token) → Walks edition s w 0 (names_in_statement a) (spanned s z) 0
      → GoodOpen names_in_statement w (map (sequence a) (rest z)) =
      λ z p. open-map names_in_statement names_in_statement w (spanned s z) (names_in_statement a) (sequence a) (rest z)
      p (λ e. refl) (c z) in
      open-cond names_in_statement w (ended a) _ _ (λ q. on t (to d.walk (d.operand q)))
      (λ q. open-cond names_in_statement w (is_one_of enders t) _ _
      (λ q. on u (onward d.walk (open-some edition s enders d.at t 0 refl q d.meets)))
      (λ q. open-cond names_in_statement w (is close_brace t) _ _
      (λ q. on t (to d.walk (meets-kind close_brace d.at t refl q d.meets
      ∙ sym (meets-kind close_brace (spanned s t) t refl q (meets-spanned edition s t))))) (λ q. tt)))

  statements-good : (statement : Token → Read Statement) → ReadsStatement statement → (n : ℕ)
      → ReadsBlock (statements edition s statement n)
  unfolding statements names_in_statement rank among
  statements-good statement c zero t = tt
  statements-good statement c (suc n) t =
      let u : Token = token_after edition s t in
      open-cond names_in_statement (spanned s t) (is close_brace t) _ _
      (λ q. open-met edition s close_brace (spanned s t) t 0 refl q (meets-spanned edition s t))
      (λ q. open-cond names_in_statement (spanned s t) (is newline t) _ _
      (λ q. open_after (spanned s t) (spanned s u) (statements edition s statement n u)
      (open-met edition s newline (spanned s t) t 0 refl q (meets-spanned edition s t))
      (statements-good statement c n u))
      (λ q. followed-good (spanned s t) (statements edition s statement n) (statements-good statement c n)
      (statement (as_operand edition s t)) (c (spanned s t) _ (meets-operand edition s t))))
    where
      open_after : (w v : Token) (r : Read Statement) → Walks edition s w 0 [] v 0 → GoodOpen names_in_statement v r
          → GoodOpen names_in_statement w r
      open_after w v (ok a z) p g = joined p g
      open_after w v (no outcome place) p g = tt

  pub block-good : (statement : Token → Read Statement) → ReadsStatement statement → (w t : Token)
      → is open_brace t ≡ true
      → Meets w t → GoodOpen names_in_statement w (block_of edition s statement t)
  unfolding block_of names_in_statement rank among
  block-good statement c w t q h =
      let u : Token = token_after edition s t in
      open-map names_in_statement names_in_statement w (spanned s u) [] block
      (statements edition s statement (suc (length s)) u)
      (open-met edition s open_brace w t 0 refl q h) (λ a. refl) (statements-good statement c (suc (length s)) u)

  no-body-good : (in_main : Bool) → ReadsStatement (no_body edition in_main)
  unfolding no_body
  no-body-good in_main w t h = statement-cond w (starts_statement edition in_main t.kind) _ _ (λ q. tt) (λ q. tt)

  pub statement-good : (in_main : Bool) (levels : ℕ) → ReadsStatement (statement_at edition s in_main levels)
  unfolding statement_at
  statement-good in_main zero w t h =
      statement-of-good (no_body edition in_main) (no-body-good in_main) in_main zero too_deep (λ v u q i. tt) w t h
  statement-good in_main (suc levels) w t h =
      statement-of-good (statement_at edition s in_main levels) (statement-good in_main levels) in_main (suc levels)
      (block_of edition s (statement_at edition s in_main levels))
      (λ v u q i. open-statement v (block_of edition s (statement_at edition s in_main levels) u)
      (block-good (statement_at edition s in_main levels) (statement-good in_main levels) v u q i)) w t h
