-- An expression that is read: the walk passes its names, in its order.
use mathlib.Core.Path.{◌≡◌, refl, sym, subst, ◌∙◌}
use mathlib.Core.Bool.{Bool, true, false, cond, ◌&&◌}
use mathlib.Core.List.{List, [], ◌∷◌, ◌++◌, append_assoc}
use mathlib.Core.Option.{Option, some, none}
use Prim.Native.Nat.{ℕ, zero, suc}
use native.Mathlib.Omega.{arith}
use lib.Dec.{eqb, leb}
use borrow.Author.Tests.{eqb-true, eq-eqb}
use Rattle.lists.specs.Elements.{all}
use Rattle.lists.proofs.Tests.{clash, and-true}
use Rattle.program_tokens.specs.Kinds.{Kind, newline, NUMBER, STRING, ERE, fixed_variable, open_paren, close_paren, comma, tilde, greater, dollar, assign as assign-sign, no_match as no-match-sign, same, among, rank}
use Rattle.program_tokens.proofs.Ranks.{same-is}
use Rattle.program_tokens.specs.Words.{word_kind}
use Rattle.program_tokens.specs.Tokens.{Token, is, is_one_of, token_after, spelling, ere_in}
use Rattle.program_tree.specs.Tree.{Expression, constant, ere, variable, parentheses, length-of, index, substr, match, field, prefix, arithmetic, join, compare, matches, no_match, both, either, assign, assign_field}
use Rattle.program_tree.specs.Functions.{Shape, an_expression, an_ere, Call, Function, functions, function_in, function_of}
use Rattle.program_grammar.specs.Sets.{names, prefixes, starts_joined}
use Rattle.program_reader.specs.Read.{Read, ok, no, map, bind, operand_after, past, past_newlines}
use Rattle.program_reader.specs.Operators.{fields, prefixed, concatenations, matched, conjunctions, expressions, Operator, binary, operator_in, tier_in, tier_of, tree_in, tree_of, prefix_of}
use Rattle.program_reader.specs.Expressions.{Inner, assign_to, turns, closed, argument, arguments, call, calling, primary, field_form, prefix_form, right_of, more, match_with, matching, assigned, assignment, step_tier, tier, inside, expression_at}
use Rattle.program_parser.proofs.Tokens.{choose}
use Rattle.program_numbering.specs.Names.{names_in}
use Rattle.program_names.specs.Walk.{spanned, operand_ends}
use Rattle.program_names.proofs.Walks.{among-all, is_all, settled, opens, passed, parens, deeper, Meets, meets-token, meets-kind, Walks, here, open-token, operand-token, open-parenthesis, close-parenthesis, meets-spanned, meets-operand, newlines-walk, joined, onward, to, from, past-names}

-- ---- tables

abbrev Keeps : Operator → Type 0
Keeps o = (a b : Expression) → names_in a ++ names_in b ≡ names_in (o.tree a b)

abbrev AllKeep : List Operator → Type 0
AllKeep [] = Unit
AllKeep (o ∷ l) = (Keeps o) × (AllKeep l)

binary-keep : AllKeep binary
unfolding names_in
binary-keep =
    let two : (a b : Expression) → names_in a ++ names_in b ≡ names_in a ++ names_in b = λ a b. refl in
    (two, (two, (two, (two, (two, (two, (two, (two, (two, (two, (two, (two, (two, tt)))))))))))))

tree-in : (l : List Operator) (k : Kind) → AllKeep l → (a b : Expression)
    → names_in a ++ names_in b ≡ names_in (tree_in (operator_in k l) a b)
unfolding operator_in names_in
tree-in [] k all a b = refl
tree-in (o ∷ l) k all a b =
    choose (λ (m : Option Operator). names_in a ++ names_in b ≡ names_in (tree_in m a b)) (same k o.kind) (some o)
    (operator_in k l) (λ e. all.0 a b) (λ e. tree-in l k all.1 a b)

-- a tree of two operands has the names of both
tree-names : (k : Kind) (a b : Expression) → names_in a ++ names_in b ≡ names_in (tree_of k a b)
unfolding tree_of
tree-names k a b = tree-in binary k binary-keep a b

abbrev OpensIf : Kind → Option Operator → Type 0
OpensIf k none = Unit
OpensIf k (some o) = opens k ≡ true

operator-in : (k : Kind) (l : List Operator) → all (λ o. opens o.kind) l ≡ true → OpensIf k (operator_in k l)
unfolding operator_in
operator-in k [] h = tt
operator-in k (o ∷ l) h =
    let each = and-true (opens o.kind) (all (λ p. opens p.kind) l) h in
    choose (OpensIf k) (same k o.kind) (some o) (operator_in k l)
    (λ e. is_all opens o.kind k each.0 e) (λ e. operator-in k l each.1)

-- an operator that is passed is one that an operand may follow
operator-opens : (edition : ℕ) (printed : Bool) (k : Kind) (j : ℕ) → eqb (tier_of edition printed k) (suc j) ≡ true
    → eqb (suc j) concatenations ≡ false → opens k ≡ true
unfolding tier_of among rank
operator-opens edition printed k j h f =
    choose (λ (n : ℕ). eqb n (suc j) ≡ true → opens k ≡ true) (printed && same k greater) fields
    (tier_in edition k (operator_in k binary)) (λ e g. none-such g)
    (λ e g. go (operator_in k binary) (operator-in k binary refl) g) h
  where
    none-such : eqb 0 (suc j) ≡ true → opens k ≡ true
    none-such g = let e = eqb-true 0 (suc j) g in absurd (omega (arith, e))

    go : (o : Option Operator) → OpensIf k o → eqb (tier_in edition k o) (suc j) ≡ true → opens k ≡ true
    go none t g =
        choose (λ (n : ℕ). eqb n (suc j) ≡ true → opens k ≡ true) (starts_joined edition k) concatenations fields
        (λ e q. absurd (clash (sym (eq-eqb (suc j) concatenations (sym (eqb-true concatenations (suc j) q))) ∙ f)))
        (λ e q. none-such q) g
    go (some o) t g = t

-- a function's tree: the names of those arguments that it has, and of those that come
abbrev CallNames : (l : List Shape) → Call l → List (List ℕ) → Type 0
CallNames [] e ns = ns ≡ names_in e
CallNames (an_expression ∷ l) f ns = (e : Expression) → CallNames l (f e) (ns ++ names_in e)
CallNames (an_ere ∷ l) f ns = (r : List ℕ) → CallNames l (f r) ns

-- of a function with an argument
abbrev Begins : (l : List Shape) → Call l → Type 0
Begins [] e = ⊥
Begins (x ∷ l) f = CallNames (x ∷ l) f []

abbrev Called : Kind → Option Function → Type 0
Called k none = Unit
Called k (some f) = (passed k ≡ true) × (Begins f.shapes f.tree)

abbrev AllCalled : List Function → Type 0
AllCalled [] = Unit
AllCalled (f ∷ l) = ((passed f.kind ≡ true) × (Begins f.shapes f.tree)) × (AllCalled l)

functions-called : AllCalled functions
unfolding names_in rank among
functions-called = (
  (refl, λ a. refl),
  (
    (refl, λ a b. refl),
    (
      (refl, λ a b c. append_assoc (names_in a) (names_in b) (names_in c)),
      ((refl, λ a r. refl), tt),
    ),
  ),
)

function-in : (edition : ℕ) (k : Kind) (l : List Function) → AllCalled l → Called k (function_in edition k l)
unfolding function_in
function-in edition k [] h = tt
function-in edition k (f ∷ l) h =
    choose (Called k) (leb f.since edition && same k f.kind) (some f) (function_in edition k l)
    (λ e. (is_all passed f.kind k h.0.0 (and-true (leb f.since edition) _ e).1, h.0.1))
    (λ e. function-in edition k l h.1)

function-called : (edition : ℕ) (k : Kind) → Called k (function_of edition k)
function-called edition k = function-in edition k functions functions-called

abbrev AssignNames : Expression → Option (Expression → Expression) → Type 0
AssignNames e none = Unit
AssignNames e (some f) = (a : Expression) → names_in e ++ names_in a ≡ names_in (f a)

assign-names : (edition : ℕ) (e : Expression) → AssignNames e (assign_to edition e)
unfolding assign_to names_in
assign-names edition (variable n) =
    choose (AssignNames (variable n)) (same (word_kind edition n) fixed_variable) none (some (assign n)) (λ q. tt)
    (λ q a. refl)
assign-names edition (field j) = λ a. refl
assign-names edition (constant c) = tt
assign-names edition (ere r) = tt
assign-names edition (parentheses e) = tt
assign-names edition (length-of e) = tt
assign-names edition (index a b) = tt
assign-names edition (substr a b c) = tt
assign-names edition (match e r) = tt
assign-names edition (prefix o e) = tt
assign-names edition (arithmetic o a b) = tt
assign-names edition (join a b) = tt
assign-names edition (compare o a b) = tt
assign-names edition (matches e r) = tt
assign-names edition (no_match e r) = tt
assign-names edition (both a b) = tt
assign-names edition (either a b) = tt
assign-names edition (assign n e) = tt
assign-names edition (assign_field j e) = tt

module _ (edition : ℕ) (s : List ℕ) where
  -- ---- what is read is what the walk passes

  abbrev pub Good : {A : Type 0} → (A → List (List ℕ)) → Token → ℕ → ℕ → Read A → Type 0
  Good ns w m n (ok a u) = Walks edition s w m (ns a) u n
  Good ns w m n (no outcome place) = Unit

  pub good-cond : {A : Type 0} (ns : A → List (List ℕ)) (w : Token) (m n : ℕ) (b : Bool) (x y : Read A)
      → (b ≡ true → Good ns w m n x) → (b ≡ false → Good ns w m n y) → Good ns w m n (cond b x y)
  good-cond ns w m n true x y f g = f refl
  good-cond ns w m n false x y f g = g refl

  -- a form, after a walk to it
  pub good-map : {A B : Type 0} (k : A → List (List ℕ)) (l : B → List (List ℕ)) (w v : Token) (m o n : ℕ)
      (before : List (List ℕ)) (f : A → B) (r : Read A) → Walks edition s w m before v o
      → ((a : A) → before ++ k a ≡ l (f a)) → Good k v o n r → Good l w m n (map f r)
  good-map k l w v m o n before f (ok a t) p e g = past-names (joined p g) (e a)
  good-map k l w v m o n before f (no outcome place) p e g = tt

  pub good-bind : {A B : Type 0} (k : A → List (List ℕ)) (l : B → List (List ℕ)) (v : Token) (o p : ℕ)
      (w : Token) (m n : ℕ) (r : Read A) (f : A → Token → Read B) → Good k v o p r
      → ((a : A) (t : Token) → Walks edition s v o (k a) t p → Good l w m n (f a t)) → Good l w m n (bind r f)
  good-bind k l v o p w m n (ok a t) f g h = h a t g
  good-bind k l v o p w m n (no outcome place) f g h = tt

  pub closed-good : (w : Token) (m : ℕ) (x : Option ℕ) (r : Read Expression) → Good names_in w m (parens (deeper x)) r
      → Good names_in w m (parens x) (closed edition s r)
  unfolding closed
  closed-good w m x (no outcome place) g = tt
  closed-good w m x (ok e t) g =
      good-cond names_in w m (parens x) (is close_paren t) _ _ (λ q. onward g (close-parenthesis edition s t x q))
      (λ q. tt)

  -- ---- tokens that the reader takes

  -- an operand of one token
  constant-met : (k : Kind) (w t : Token) (m : ℕ) → among operand_ends k ≡ true → settled k ≡ true
      → among names k ≡ false
      → is k t ≡ true → Meets w t → Walks edition s w m [] (token_after edition s t) m
  constant-met k w t m a b c q h =
      let e : k ≡ t.kind = sym (same-is t.kind k q) in
      let ends : is_one_of operand_ends t ≡ true = subst (λ (x : Kind). among operand_ends x ≡ true) e a in
      let nameless : is_one_of names t ≡ false = subst (λ (x : Kind). among names x ≡ false) e c in
      from (meets-kind k w t b q h) (past-names (operand-token edition s t m ends) (rw nameless))

  name-met : (w t : Token) (m : ℕ) → is_one_of names t ≡ true → Meets w t
      → Walks edition s w m (spelling s t ∷ []) (token_after edition s t) m
  unfolding rank among
  name-met w t m q h =
      from (meets-token names w t refl q h)
      (past-names (operand-token edition s t m (among-all (among operand_ends) names t.kind refl q)) (rw q))

  -- a token that an operand may follow
  open-passed : (w t : Token) (m : ℕ) → passed t.kind ≡ true → Meets w t
      → Walks edition s w m [] (spanned s (token_after edition s t)) m
  open-passed w t m q h =
      let both = and-true (opens t.kind) (settled t.kind) q in
      from (h both.1) (open-token edition s t m both.0)

  pub open-met : (k : Kind) (w t : Token) (m : ℕ) → passed k ≡ true → is k t ≡ true → Meets w t
      → Walks edition s w m [] (spanned s (token_after edition s t)) m
  open-met k w t m a q h = open-passed w t m (is_all passed k t.kind a q) h

  pub open-some : (ks : List Kind) (w t : Token) (m : ℕ) → all passed ks ≡ true → is_one_of ks t ≡ true → Meets w t
      → Walks edition s w m [] (spanned s (token_after edition s t)) m
  open-some ks w t m a q h = open-passed w t m (among-all passed ks t.kind a q) h

  -- ---- forms

  -- an operator whose right side is an ERE
  match-good : (w : Token) (m : ℕ) (e : Expression) (t u v : Token) → Walks edition s w m (names_in e) v m → Meets v u
      → Good names_in w m m (match_with edition s e t u)
  unfolding match_with names_in rank among
  match-good w m e t u v p h =
      good-cond names_in w m m (is ERE u) _ _
      (λ q. past-names (onward p (constant-met ERE v u m refl refl refl q h))
      (choose (λ (c : Expression). names_in e ≡ names_in c) (is tilde t) (matches e (ere_in s u)) (no_match e (ere_in s u))
      (λ q. refl) (λ q. refl)))
      (λ q. tt)

  matching-good : (w : Token) (m : ℕ) (r : Read Expression) → Good names_in w m m r
      → Good names_in w m m (matching edition s r)
  unfolding matching rank among
  matching-good w m (no outcome place) g = tt
  matching-good w m (ok e t) g =
      let u : Token = token_after edition s t in
      good-cond names_in w m m (is_one_of (tilde ∷ no-match-sign ∷ []) t) _ _
      (λ q. match-good w m e t (operand_after edition s t) (spanned s u)
      (onward g (open-some (tilde ∷ no-match-sign ∷ []) t t m refl q (λ f. refl))) (meets-operand edition s u))
      (λ q. g)

  -- a reader of forms: the walk meets it at its first token, and passes the names of what it reads
  abbrev pub Reads : (Token → Read Expression) → Type 0
  Reads f = (w t : Token) (x : Option ℕ) → Meets w t → Good names_in w (parens x) (parens x) (f t)

  -- where the right operand of an operator starts
  record Right (t u : Token) (m : ℕ) : Type 0 where
    pub at : Token
    pub walk : Walks edition s t m [] at m
    pub meets : Meets at u

  right-walk : (printed : Bool) (j : ℕ) (t : Token) (m : ℕ) → eqb (tier_of edition printed t.kind) (suc j) ≡ true
      → Right t (right_of edition s (suc j) t) m
  unfolding right_of
  right-walk printed j t m h =
      let u : Token = token_after edition s t in
      let v : Token = past edition s (newline ∷ []) u in
      choose (λ (z : Token). Right t z m) (eqb (suc j) concatenations) t _
      (λ q. record { at = t; walk = here t m; meets = λ e. refl })
      (λ q.
      let p = open-token edition s t m (operator-opens edition printed t.kind j h q) in
      let on = onward p (newlines-walk edition s u m) in
      choose (λ (z : Token). Right t z m) (leb conjunctions (suc j)) (past_newlines edition s u)
      (operand_after edition s t)
      (λ f. record { at = spanned s v; walk = on; meets = meets-operand edition s v })
      (λ f. record { at = spanned s u; walk = p; meets = meets-operand edition s u }))

  more-good : (printed : Bool) (j : ℕ) (below : Token → Read Expression) → Reads below
      → (n : ℕ) (w : Token) (x : Option ℕ) (r : Read Expression) → Good names_in w (parens x) (parens x) r
      → Good names_in w (parens x) (parens x) (more edition s printed (suc j) below n r)
  unfolding more
  more-good printed j below b zero w x r g = g
  more-good printed j below b (suc n) w x (no outcome place) g = tt
  more-good printed j below b (suc n) w x (ok e t) g =
      let m : ℕ = parens x in
      good-cond names_in w m m (eqb (tier_of edition printed t.kind) (suc j)) _ _
      (λ q.
      let r = right-walk printed j t m q in
      more-good printed j below b n w x _
      (good-map names_in names_in w r.at m m m (names_in e) (tree_of t.kind e) (below (right_of edition s (suc j) t))
      (onward g r.walk) (λ a. tree-names t.kind e a) (b r.at _ x r.meets)))
      (λ q. g)

  abbrev pub ReadsInside : Inner → Type 0
  ReadsInside inner =
      (printed : Bool) (k : ℕ) (opener w t : Token) (x : Option ℕ) → Meets w t
      → Good names_in w (parens x) (parens x) (inner printed k opener t)

  module _ (inner : Inner) (i : ReadsInside inner) where
    -- an operand inside, after a token
    after-good : (w t : Token) (x : Option ℕ) (before : List (List ℕ)) (printed : Bool) (k : ℕ)
        (f : Expression → Expression)
        → Walks edition s w (parens x) before (spanned s (token_after edition s t)) (parens x)
        → ((a : Expression) → before ++ names_in a ≡ names_in (f a))
        → Good names_in w (parens x) (parens x) (map f (inner printed k t (operand_after edition s t)))
    after-good w t x before printed k f p e =
        let u : Token = token_after edition s t in
        good-map names_in names_in w (spanned s u) (parens x) (parens x) (parens x) before f
        (inner printed k t (operand_after edition s t)) p e (i printed k t (spanned s u) _ x (meets-operand edition s u))

    module _ (w : Token) (m : ℕ) (x : Option ℕ) where
      argument-good : (u : Token) (y : Shape) (l : List Shape) (f : Call (y ∷ l)) (ns : List (List ℕ)) (v t : Token)
          (rest : Call l → Token → Read Expression) → CallNames (y ∷ l) f ns
          → Walks edition s w m ns v (parens x) → Meets v t
          → ((g : Call l) (ms : List (List ℕ)) (z : Token) → CallNames l g ms → Walks edition s w m ms z (parens x)
          → Good names_in w m (parens x) (rest g z))
          → Good names_in w m (parens x) (argument edition s inner u y l f t rest)
      unfolding argument rank among
      argument-good u an_expression l f ns v t rest c p h k =
          good-bind names_in names_in v (parens x) (parens x) w m (parens x) (inner false expressions u t)
          (λ e z. rest (f e) z)
          (i false expressions u v t x h) (λ e z q. k (f e) (ns ++ names_in e) z (c e) (joined p q))
      argument-good u an_ere l f ns v t rest c p h k =
          good-cond names_in w m (parens x) (is ERE t) _ _
          (λ q. k _ ns _ (c (ere_in s t)) (onward p (constant-met ERE v t (parens x) refl refl refl q h))) (λ q. tt)

      -- the arguments after the first
      arguments-good : (u : Token) (l : List Shape) (f : Call l) (ns : List (List ℕ)) (t : Token) → CallNames l f ns
          → Walks edition s w m ns t (parens x) → Good names_in w m (parens x) (arguments edition s inner u false l f t)
      unfolding arguments rank among
      arguments-good u [] e ns t c p = past-names p c
      arguments-good u (y ∷ l) f ns t c p =
          let a : Token = token_after edition s t in
          let v : Token = past edition s (newline ∷ []) a in
          good-cond names_in w m (parens x) (is comma t) _ _
          (λ q. argument-good u y l f ns (spanned s v) (past_newlines edition s a)
          (arguments edition s inner u false l) c
          (onward p (onward (open-met comma t t (parens x) refl q (λ e. refl)) (newlines-walk edition s a (parens x))))
          (meets-operand edition s v) (λ g ms z d j. arguments-good u l g ms z d j))
          (λ q. tt)

    first_good : (w t u : Token) (x : Option ℕ) (l : List Shape) (f : Call l) → Begins l f
        → Walks edition s w (parens x) [] (spanned s (token_after edition s u)) (parens (deeper x))
        → Good names_in w (parens x) (parens (deeper x)) (arguments edition s inner u true l f u)
    unfolding arguments
    first_good w t u x [] f c p = absurd c
    first_good w t u x (y ∷ l) f c p =
        let a : Token = token_after edition s u in
        argument-good w (parens x) (deeper x) u y l f [] (spanned s a) (operand_after edition s u)
        (arguments edition s inner u false l) c p
        (meets-operand edition s a) (λ g ms z d j. arguments-good w (parens x) (deeper x) u l g ms z d j)

    calling-good : (w t : Token) (x : Option ℕ) (o : Option Function) → Called t.kind o → Meets w t
        → Good names_in w (parens x) (parens x) (calling edition s inner t o)
    unfolding calling call rank among
    calling-good w t x none c h = tt
    calling-good w t x (some f) c h =
        let u : Token = token_after edition s t in
        good-cond names_in w (parens x) (parens x) (is open_paren u) _ _
        (λ q. closed-good w (parens x) x _ (first_good w t u x f.shapes f.tree c.1
        (onward (to (open-passed w t (parens x) c.0 h)
        (meets-kind open_paren (spanned s u) u refl q (meets-spanned edition s u)))
        (open-parenthesis edition s u x q))))
        (λ q. tt)

    primary-good : Reads (primary edition s inner)
    unfolding primary names_in rank among
    primary-good w t x h =
        let m : ℕ = parens x in
        let u : Token = token_after edition s t in
        good-cond names_in w m m (is NUMBER t) _ _ (λ b. constant-met NUMBER w t m refl refl refl b h)
        (λ b. good-cond names_in w m m (is STRING t) _ _ (λ b. constant-met STRING w t m refl refl refl b h)
        (λ b. good-cond names_in w m m (is ERE t) _ _ (λ b. constant-met ERE w t m refl refl refl b h)
        (λ b. good-cond names_in w m m (is_one_of names t) _ _ (λ b. name-met w t m b h)
        (λ b. good-cond names_in w m m (is open_paren t) _ _
        (λ b.
        let r : Read Expression = inner false expressions t (operand_after edition s t) in
        good-map names_in names_in w (spanned s u) m (parens (deeper x)) m [] parentheses (closed edition s r)
        (from (meets-kind open_paren w t refl b h) (open-parenthesis edition s t x b)) (λ a. refl)
        (closed-good (spanned s u) (parens (deeper x)) x r
        (i false expressions t (spanned s u) _ (deeper x) (meets-operand edition s u))))
        (λ b. calling-good w t x (function_of edition t.kind) (function-called edition t.kind) h)))))

    field-good : Reads (field_form edition s inner)
    unfolding field_form names_in rank among
    field-good w t x h =
        good-cond names_in w (parens x) (parens x) (is dollar t) _ _
        (λ b. after-good w t x [] false fields field (open-met dollar w t (parens x) refl b h) (λ a. refl))
        (λ b. primary-good w t x h)

    prefix-good : (below : Token → Read Expression) → Reads below → Reads (prefix_form edition s inner below)
    unfolding prefix_form names_in rank among
    prefix-good below r w t x h =
        good-cond names_in w (parens x) (parens x) (is_one_of prefixes t) _ _
        (λ b. after-good w t x [] false prefixed (prefix (prefix_of t.kind))
        (open-some prefixes w t (parens x) refl b h) (λ a. refl))
        (λ b. r w t x h)

    assigned-good : (w : Token) (x : Option ℕ) (printed : Bool) (e : Expression) (t : Token)
        (o : Option (Expression → Expression))
        → AssignNames e o → Walks edition s w (parens x) (names_in e) t (parens x) → is assign-sign t ≡ true
        → Good names_in w (parens x) (parens x) (assigned edition s inner printed e t o)
    unfolding assigned rank among
    assigned-good w x printed e t none c p q = p
    assigned-good w x printed e t (some f) c p q =
        after-good w t x (names_in e) printed expressions f
        (onward p (open-met assign-sign t t (parens x) refl q (λ b. refl))) c

    assignment-good : (w : Token) (x : Option ℕ) (printed : Bool) (r : Read Expression)
        → Good names_in w (parens x) (parens x) r
        → Good names_in w (parens x) (parens x) (assignment edition s inner printed r)
    unfolding assignment
    assignment-good w x printed (no outcome place) g = tt
    assignment-good w x printed (ok e t) g =
        good-cond names_in w (parens x) (parens x) (is assign-sign t) _ _
        (λ b. assigned-good w x printed e t (assign_to edition e) (assign-names edition e) g b) (λ b. g)

    step-good : (printed : Bool) (k : ℕ) (below : Token → Read Expression) → Reads below
        → Reads (step_tier edition s inner printed (suc k) below)
    unfolding step_tier
    step-good printed k below b w t x h =
        let m : ℕ = parens x in
        good-cond names_in w m m (eqb (suc k) prefixed) _ _ (λ q. prefix-good below b w t x h)
        (λ q. good-cond names_in w m m (eqb (suc k) matched) _ _ (λ q. matching-good w m _ (b w t x h))
        (λ q. good-cond names_in w m m (eqb (suc k) expressions) _ _ (λ q. assignment-good w x printed _ (b w t x h))
        (λ q. more-good printed k below b (turns s (suc k)) w x _ (b w t x h))))

    tier-good : (printed : Bool) (k : ℕ) → Reads (tier edition s inner printed k)
    unfolding tier
    tier-good printed zero w t x h = field-good w t x h
    tier-good printed (suc k) w t x h =
        step-good printed k (tier edition s inner printed k) (tier-good printed k) w t x h

  pub inside-good : (levels : ℕ) → ReadsInside (inside edition s levels)
  unfolding inside
  inside-good zero printed k opener w t x h = tt
  inside-good (suc levels) printed k opener w t x h =
      tier-good (inside edition s levels) (inside-good levels) printed k w t x h

  pub expression-good : (levels : ℕ) (printed : Bool) → Reads (expression_at edition s levels printed)
  expression-good levels printed w t x h =
      tier-good (inside edition s levels) (inside-good levels) printed expressions w t x h
