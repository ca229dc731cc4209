-- The trees that are read hold only EREs that read, names, constants that a token spells, and assignments to what can
-- be assigned; a refusal has a number.
use mathlib.Core.Path.{◌≡◌, refl, sym}
use mathlib.Core.Bool.{Bool, true, false, true≢false, not, cond, ◌&&◌}
use mathlib.Core.List.{List, [], ◌∷◌, ◌++◌}
use mathlib.Core.Option.{Option, some, none}
use Prim.Native.Nat.{ℕ, zero, suc, ◌-◌, ◌≤◌}
use native.Mathlib.Omega.{arith}
use Rattle.edition.specs.Limits.{nesting_depth}
use Rattle.edition.specs.Outcomes.{bad_token, misplaced_token, bad_ere}
use lib.ListN.{length}
use lib.Dec.{eqb, leb}
use Rattle.image_format.specs.Image.{Constant, number, text}
use Rattle.program_tokens.specs.Kinds.{Kind, newline, bad, bad-ere, NUMBER, STRING, ERE, fixed_variable, open_paren, close_paren, comma, tilde, dollar, assign as assign-sign, no_match as no-match-sign, same, text_end, BEGIN, END, IF, ELSE, WHILE, PRINT, NEXT, EXIT, open_brace, close_brace, semicolon}
use Rattle.program_tokens.specs.Words.{word_kind}
use Rattle.program_tokens.specs.Tokens.{Token, is, is_one_of, token_at, token_after, as_operand}
use Rattle.program_tokens.specs.Tokens.{spelling, number_in, string_in, ere_in}
use Rattle.program_tree.specs.Tree.{Expression, constant, ere, variable, parentheses, length-of, index, substr, match, field, prefix, arithmetic, join, compare, matches, no_match, both, either, assign, assign_field, Statement, expression, print, if, if-else, while, block, next, exit, empty, sequence, Item, begin, end, main, Program}
use Rattle.program_tree.specs.Functions.{Shape, an_expression, an_ere, Call, Function, functions, function_in, function_of}
use Rattle.program_grammar.specs.Sets.{names, prefixes, enders, starts_expression, starts_statement}
use Rattle.program_reader.specs.Read.{Read, ok, no, map, bind, too_deep, operand_after, past_in, past, past_newlines}
use Rattle.program_reader.specs.Operators.{fields, prefixed, concatenations, matched, conjunctions, expressions, Operator, binary, operator_in, tier_of, tree_in, tree_of, prefix_of}
use Rattle.program_reader.specs.Expressions.{Inner, assign_to, turns, closed, argument, arguments, call, calling, primary, field_form, prefix_form, right_of, more, match_with, matching, assigned, assignment, step_tier, tier, inside, expression_at}
use Rattle.program_reader.specs.Statements.{ended, no_body, listed, print_at, condition_at, else_after, body_at, else_at, then_at, if_at, while_at, statement_of, followed, statements, block_of, statement_at}
use Rattle.program_reader.specs.Programs.{action_at, after_pattern, item_at, items, read_program}

and_right : (a b : Bool) → (a && b) ≡ true → b ≡ true
and_right true b h = h
and_right false b h = absurd (true≢false (sym h))

module _ (edition : ℕ) (s : List ℕ) (R N : List ℕ → Type 0) (C : Constant → Type 0) where
  abbrev pub Fine : Expression → Type 0
  Fine (constant c) = C c
  Fine (ere r) = R r
  Fine (variable v) = N v
  Fine (parentheses e) = Fine e
  Fine (length-of e) = Fine e
  Fine (index a b) = (Fine a) × (Fine b)
  Fine (substr a b c) = (Fine a) × ((Fine b) × (Fine c))
  Fine (match e r) = (Fine e) × (R r)
  Fine (field e) = Fine e
  Fine (prefix o e) = Fine e
  Fine (arithmetic o a b) = (Fine a) × (Fine b)
  Fine (join a b) = (Fine a) × (Fine b)
  Fine (compare o a b) = (Fine a) × (Fine b)
  Fine (matches e r) = (Fine e) × (R r)
  Fine (no_match e r) = (Fine e) × (R r)
  Fine (both a b) = (Fine a) × (Fine b)
  Fine (either a b) = (Fine a) × (Fine b)
  Fine (assign v e) = (N v) × ((same (word_kind edition v) fixed_variable ≡ false) × (Fine e))
  Fine (assign_field i e) = (Fine i) × (Fine e)

  -- a token says what its kind says
  abbrev pub Honest : Token → Type 0
  Honest t =
      (is ERE t ≡ true → R (ere_in s t))
      × (is_one_of names t ≡ true → N (spelling s t))
      × (is NUMBER t ≡ true → C (number (number_in s t)))
      × (is STRING t ≡ true → C (text (string_in s t)))

  abbrev pub Good : {A : Type 0} → (A → Type 0) → Read A → Type 0
  Good P (ok a t) = (P a) × (Honest t)
  Good P (no outcome place) = 1 ≤ outcome

  pub pick : {A : Type 0} (P : A → Type 0) (b : Bool) (x y : A) → P x → P y → P (cond b x y)
  pick P true x y p q = p
  pick P false x y p q = q

  pub good-cond : {A : Type 0} (P : A → Type 0) (b : Bool) (x y : Read A) → (b ≡ true → Good P x) → (b ≡ false → Good P y) → Good P (cond b x y)
  good-cond P true x y f g = f refl
  good-cond P false x y f g = g refl

  pub good-map : {A B : Type 0} (P : A → Type 0) (Q : B → Type 0) (f : A → B) (r : Read A) → ((a : A) → P a → Q (f a)) → Good P r → Good Q (map f r)
  good-map P Q f (ok a t) k g = (k a g.0, g.1)
  good-map P Q f (no outcome place) k g = g

  pub good-then : {A B : Type 0} (P : A → Type 0) (Q : B → Type 0) (r : Read A) (f : A → Token → Read B) → Good P r → ((a : A) (t : Token) → P a → Honest t → Good Q (f a t))
      → Good Q (bind r f)
  good-then P Q (ok a t) f g k = k a t g.0 g.1
  good-then P Q (no outcome place) f g k = g

  module _ (honest-after : (t : Token) → Honest (token_after edition s t)) (honest-operand : (t : Token) → Honest t → Honest (as_operand edition s t)) where
    operand-after : (t : Token) → Honest (operand_after edition s t)
    operand-after t = honest-operand _ (honest-after t)

    past-honest : (ks : List Kind) (n : ℕ) (t : Token) → Honest t → Honest (past_in edition s ks n t)
    unfolding past_in
    past-honest ks zero t h = h
    past-honest ks (suc n) t h = pick Honest (is_one_of ks t) _ t (past-honest ks n (token_after edition s t) (honest-after t)) h

    newlines-honest : (t : Token) → Honest t → Honest (past_newlines edition s t)
    newlines-honest t h = honest-operand _ (past-honest (newline ∷ []) (length s) t h)

    -- ---- tables

    abbrev Keeps : Operator → Type 0
    Keeps o = (a b : Expression) → Fine a → Fine b → Fine (o.tree a b)

    abbrev AllKeep : List Operator → Type 0
    AllKeep [] = Unit
    AllKeep (o ∷ l) = (Keeps o) × (AllKeep l)

    binary-keep : AllKeep binary
    binary-keep =
        let two : (a b : Expression) → Fine a → Fine b → (Fine a) × (Fine b) = λ a b x y. (x, y) in
        (two, (two, (two, (two, (two, (two, (two, (two, (two, (two, (two, (two, (two, tt)))))))))))))

    tree-in : (l : List Operator) (k : Kind) → AllKeep l → (a b : Expression) → Fine a → Fine b → Fine (tree_in (operator_in k l) a b)
    unfolding operator_in
    tree-in [] k all a b x y = (x, y)
    tree-in (o ∷ l) k all a b x y =
        pick (λ (m : Option Operator). Fine (tree_in m a b)) (same k o.kind) (some o) (operator_in k l) (all.0 a b x y) (tree-in l k all.1 a b x y)

    tree-fine : (k : Kind) (a b : Expression) → Fine a → Fine b → Fine (tree_of k a b)
    unfolding tree_of
    tree-fine k a b x y = tree-in binary k binary-keep a b x y

    abbrev FineCall : (l : List Shape) → Call l → Type 0
    FineCall [] e = Fine e
    FineCall (an_expression ∷ l) f = (e : Expression) → Fine e → FineCall l (f e)
    FineCall (an_ere ∷ l) f = (r : List ℕ) → R r → FineCall l (f r)

    abbrev FineFunction : Option Function → Type 0
    FineFunction none = Unit
    FineFunction (some f) = FineCall f.shapes f.tree

    abbrev AllFine : List Function → Type 0
    AllFine [] = Unit
    AllFine (f ∷ l) = (FineCall f.shapes f.tree) × (AllFine l)

    functions-fine : AllFine functions
    functions-fine = ((λ e x. x), ((λ a x b y. (x, y)), ((λ a x b y c z. (x, (y, z))), ((λ e x r y. (x, y)), tt))))

    function-in : (k : Kind) (l : List Function) → AllFine l → FineFunction (function_in edition k l)
    unfolding function_in
    function-in k [] all = tt
    function-in k (f ∷ l) all = pick FineFunction (leb f.since edition && same k f.kind) (some f) (function_in edition k l) all.0 (function-in k l all.1)

    function-fine : (k : Kind) → FineFunction (function_of edition k)
    function-fine k = function-in k functions functions-fine

    -- ---- forms

    -- a refusal has a number
    refused : (t : Token) → 1 ≤ cond (is bad t) bad_token (cond (is bad-ere t) bad_ere misplaced_token)
    refused t =
        pick (λ (n : ℕ). 1 ≤ n) (is bad t) bad_token (cond (is bad-ere t) bad_ere misplaced_token) (omega arith)
        (pick (λ (n : ℕ). 1 ≤ n) (is bad-ere t) bad_ere misplaced_token (omega arith) (omega arith))

    closed-good : (r : Read Expression) → Good Fine r → Good Fine (closed edition s r)
    unfolding closed
    closed-good (no outcome place) g = g
    closed-good (ok e t) g = good-cond Fine (is close_paren t) _ _ (λ b. (g.0, honest-after t)) (λ b. refused t)

    match-good : (e : Expression) (t u : Token) → Fine e → Honest u → Good Fine (match_with edition s e t u)
    unfolding match_with
    match-good e t u x h =
        good-cond Fine (is ERE u) _ _ (λ b. (pick Fine (is tilde t) _ _ (x, h.0 b) (x, h.0 b), honest-after u)) (λ b. refused u)

    matching-good : (r : Read Expression) → Good Fine r → Good Fine (matching edition s r)
    unfolding matching
    matching-good (no outcome place) g = g
    matching-good (ok e t) g = good-cond Fine (is_one_of (tilde ∷ no-match-sign ∷ []) t) _ _ (λ b. match-good e t _ g.0 (operand-after t)) (λ b. g)

    right-honest : (k : ℕ) (t : Token) → Honest t → Honest (right_of edition s k t)
    unfolding right_of
    right-honest k t h =
        pick Honest (eqb k concatenations) _ _ h (pick Honest (leb conjunctions k) _ _ (newlines-honest _ (honest-after t)) (operand-after t))

    abbrev Reads : (Token → Read Expression) → Type 0
    Reads f = (t : Token) → Honest t → Good Fine (f t)

    more-good : (printed : Bool) (k : ℕ) (below : Token → Read Expression) → Reads below → (n : ℕ) (r : Read Expression) → Good Fine r → Good Fine (more edition s printed k below n r)
    unfolding more
    more-good printed k below b zero r g = g
    more-good printed k below b (suc n) (no outcome place) g = g
    more-good printed k below b (suc n) (ok e t) g =
        good-cond Fine (eqb (tier_of edition printed t.kind) k) _ _
        (λ q. more-good printed k below b n _ (good-map Fine Fine (tree_of t.kind e) (below (right_of edition s k t)) (λ a x. tree-fine t.kind e a g.0 x) (b _ (right-honest k t g.1))))
        (λ q. g)

    abbrev FineInner : Inner → Type 0
    FineInner inner = (printed : Bool) (k : ℕ) (opener t : Token) → Honest t → Good Fine (inner printed k opener t)

    module _ (inner : Inner) (i : FineInner inner) where
      argument-good : (u : Token) (x : Shape) (l : List Shape) (f : Call (x ∷ l)) (t : Token) (rest : Call l → Token → Read Expression) → FineCall (x ∷ l) f → Honest t
          → ((g : Call l) (v : Token) → FineCall l g → Honest v → Good Fine (rest g v)) → Good Fine (argument edition s inner u x l f t rest)
      unfolding argument
      argument-good u an_expression l f t rest c h k =
          good-then Fine Fine (inner false expressions u t) (λ e v. rest (f e) v) (i false expressions u t h) (λ e v x y. k (f e) v (c e x) y)
      argument-good u an_ere l f t rest c h k = good-cond Fine (is ERE t) _ _ (λ b. k _ _ (c _ (h.0 b)) (honest-after t)) (λ b. refused t)

      arguments-good : (u : Token) (first : Bool) (l : List Shape) (f : Call l) (t : Token) → FineCall l f → Honest t → Good Fine (arguments edition s inner u first l f t)
      unfolding arguments
      arguments-good u first [] e t c h = (c, h)
      arguments-good u first (x ∷ l) f t c h =
          good-cond Fine first _ _
          (λ b. argument-good u x l f _ _ c (operand-after t) (λ g v d j. arguments-good u false l g v d j))
          (λ b. good-cond Fine (is comma t) _ _
          (λ q. argument-good u x l f _ _ c (newlines-honest _ (honest-after t)) (λ g v d j. arguments-good u false l g v d j)) (λ q. refused t))

      calling-good : (t : Token) (m : Option Function) → FineFunction m → Good Fine (calling edition s inner t m)
      unfolding calling call
      calling-good t none c = refused t
      calling-good t (some f) c =
          let u : Token = token_after edition s t in
          good-cond Fine (is open_paren u) _ _ (λ b. closed-good _ (arguments-good u true f.shapes f.tree u c (honest-after t))) (λ b. refused u)

      primary-good : Reads (primary edition s inner)
      unfolding primary
      primary-good t h =
          good-cond Fine (is NUMBER t) _ _ (λ b. (h.2 b, honest-after t))
          (λ b. good-cond Fine (is STRING t) _ _ (λ b. (h.3 b, honest-after t))
          (λ b. good-cond Fine (is ERE t) _ _ (λ b. (h.0 b, honest-after t))
          (λ b. good-cond Fine (is_one_of names t) _ _ (λ b. (h.1 b, honest-after t))
          (λ b. good-cond Fine (is open_paren t) _ _
          (λ b. good-map Fine Fine parentheses (closed edition s (inner false expressions t (operand_after edition s t))) (λ a x. x) (closed-good (inner false expressions t (operand_after edition s t)) (i false expressions t _ (operand-after t))))
          (λ b. calling-good t (function_of edition t.kind) (function-fine t.kind))))))

      field-good : Reads (field_form edition s inner)
      unfolding field_form
      field-good t h =
          good-cond Fine (is dollar t) _ _ (λ b. good-map Fine Fine field (inner false fields t (operand_after edition s t)) (λ a x. x) (i false fields t _ (operand-after t))) (λ b. primary-good t h)

      prefix-good : (below : Token → Read Expression) → Reads below → Reads (prefix_form edition s inner below)
      unfolding prefix_form
      prefix-good below b t h =
          good-cond Fine (is_one_of prefixes t) _ _ (λ q. good-map Fine Fine (prefix (prefix_of t.kind)) (inner false prefixed t (operand_after edition s t)) (λ a x. x) (i false prefixed t _ (operand-after t))) (λ q. b t h)

      abbrev FineAssign : Option (Expression → Expression) → Type 0
      FineAssign none = Unit
      FineAssign (some f) = (e : Expression) → Fine e → Fine (f e)

      assign-to : (e : Expression) → Fine e → FineAssign (assign_to edition e)
      unfolding assign_to
      assign-to (variable n) x = go (same (word_kind edition n) fixed_variable) refl
        where
          go : (b : Bool) → same (word_kind edition n) fixed_variable ≡ b → FineAssign (cond b none (some (assign n)))
          go true q = tt
          go false q = λ e y. (x, (q, y))
      assign-to (field j) x = λ e y. (x, y)
      assign-to (constant c) x = tt
      assign-to (ere r) x = tt
      assign-to (parentheses e) x = tt
      assign-to (length-of e) x = tt
      assign-to (index a b) x = tt
      assign-to (substr a b c) x = tt
      assign-to (match e r) x = tt
      assign-to (prefix o e) x = tt
      assign-to (arithmetic o a b) x = tt
      assign-to (join a b) x = tt
      assign-to (compare o a b) x = tt
      assign-to (matches e r) x = tt
      assign-to (no_match e r) x = tt
      assign-to (both a b) x = tt
      assign-to (either a b) x = tt
      assign-to (assign n e) x = tt
      assign-to (assign_field j e) x = tt

      assigned-good : (printed : Bool) (e : Expression) (t : Token) (m : Option (Expression → Expression)) → Fine e → Honest t → FineAssign m
          → Good Fine (assigned edition s inner printed e t m)
      unfolding assigned
      assigned-good printed e t none x h c = (x, h)
      assigned-good printed e t (some f) x h c = good-map Fine Fine f (inner printed expressions t (operand_after edition s t)) c (i printed expressions t _ (operand-after t))

      assignment-good : (printed : Bool) (r : Read Expression) → Good Fine r → Good Fine (assignment edition s inner printed r)
      unfolding assignment
      assignment-good printed (no outcome place) g = g
      assignment-good printed (ok e t) g =
          good-cond Fine (is assign-sign t) _ _ (λ b. assigned-good printed e t (assign_to edition e) g.0 g.1 (assign-to e g.0)) (λ b. g)

      step-good : (printed : Bool) (k : ℕ) (below : Token → Read Expression) → Reads below → Reads (step_tier edition s inner printed k below)
      unfolding step_tier
      step-good printed k below b t h =
          good-cond Fine (eqb k prefixed) _ _ (λ q. prefix-good below b t h)
          (λ q. good-cond Fine (eqb k matched) _ _ (λ q. matching-good _ (b t h))
          (λ q. good-cond Fine (eqb k expressions) _ _ (λ q. assignment-good printed _ (b t h)) (λ q. more-good printed k below b (turns s k) _ (b t h))))

      tier-good : (printed : Bool) (k : ℕ) → Reads (tier edition s inner printed k)
      unfolding tier
      tier-good printed zero t h = field-good t h
      tier-good printed (suc k) t h = step-good printed (suc k) (tier edition s inner printed k) (tier-good printed k) t h

    pub inside-good : (levels : ℕ) → FineInner (inside edition s levels)
    unfolding inside
    inside-good zero printed k opener t h = omega arith
    inside-good (suc levels) printed k opener t h = tier-good (inside edition s levels) (inside-good levels) printed k t h

    pub expression-good : (levels : ℕ) (printed : Bool) (t : Token) → Honest t → Good Fine (tier edition s (inside edition s levels) printed expressions t)
    expression-good levels printed t h = tier-good (inside edition s levels) (inside-good levels) printed expressions t h

    -- ---- statements

    abbrev pub AllFineIn : List Expression → Type 0
    AllFineIn [] = Unit
    AllFineIn (e ∷ l) = (Fine e) × (AllFineIn l)

    abbrev pub FineStatement : Bool → Statement → Type 0
    FineStatement in_main (expression e) = Fine e
    FineStatement in_main (print es) = AllFineIn es
    FineStatement in_main (if c a) = (Fine c) × (FineStatement in_main a)
    FineStatement in_main (if-else c a b) = (Fine c) × ((FineStatement in_main a) × (FineStatement in_main b))
    FineStatement in_main (while c a) = (Fine c) × (FineStatement in_main a)
    FineStatement in_main (block b) = FineStatement in_main b
    FineStatement in_main next = in_main ≡ true
    FineStatement in_main exit = Unit
    FineStatement in_main empty = Unit
    FineStatement in_main (sequence a b) = (FineStatement in_main a) × (FineStatement in_main b)

    one_more : (es : List Expression) (e : Expression) → AllFineIn es → Fine e → AllFineIn (es ++ (e ∷ []))
    one_more [] e x y = (y, tt)
    one_more (a ∷ es) e x y = (x.0, one_more es e x.1 y)

    listed-good : (levels n : ℕ) (r : Read (List Expression)) → Good AllFineIn r → Good AllFineIn (listed edition s levels n r)
    unfolding listed
    listed-good levels zero r g = g
    listed-good levels (suc n) (no outcome place) g = g
    listed-good levels (suc n) (ok es t) g =
        let u : Token = past_newlines edition s (token_after edition s t) in
        good-cond AllFineIn (is comma t) _ _
        (λ b. listed-good levels n _ (good-map Fine AllFineIn (λ e. es ++ (e ∷ [])) (expression_at edition s levels true u) (λ a x. one_more es a g.0 x)
        (expression-good levels true u (newlines-honest _ (honest-after t)))))
        (λ b. g)

    print-good : (in_main : Bool) (levels : ℕ) (u : Token) → Honest u → Good (FineStatement in_main) (print_at edition s levels u)
    unfolding print_at
    print-good in_main levels u h =
        let one : Read (List Expression) = map (λ e. e ∷ []) (expression_at edition s levels true u) in
        good-cond (FineStatement in_main) (starts_expression edition u.kind) _ _
        (λ b. good-map AllFineIn (FineStatement in_main) print (listed edition s levels (length s) one) (λ a x. x)
        (listed-good levels (length s) one (good-map Fine AllFineIn (λ e. e ∷ []) (expression_at edition s levels true u) (λ a x. (x, tt)) (expression-good levels true u h))))
        (λ b. (tt, h))

    condition-good : (levels : ℕ) (u : Token) → Good Fine (condition_at edition s levels u)
    unfolding condition_at
    condition-good levels u =
        good-cond Fine (is open_paren u) _ _ (λ b. closed-good _ (inside-good levels false expressions u _ (operand-after u))) (λ b. refused u)

    abbrev HonestIf : Option Token → Type 0
    HonestIf none = Unit
    HonestIf (some t) = Honest t

    else-honest : (n : ℕ) (free semicolons : Bool) (t : Token) → HonestIf (else_after edition s n free semicolons t)
    unfolding else_after
    else-honest zero free semicolons t = tt
    else-honest (suc n) free semicolons t =
        pick HonestIf (is newline t) _ _ (else-honest n true semicolons (token_after edition s t))
        (pick HonestIf (is semicolon t && not semicolons) _ _ (else-honest n true true (token_after edition s t))
        (pick HonestIf (is ELSE t && free) (some (token_after edition s t)) none (honest-after t) tt))

    abbrev ReadsAll : Bool → (Token → Read Statement) → Type 0
    ReadsAll in_main f = (t : Token) → Honest t → Good (FineStatement in_main) (f t)

    module _ (in_main : Bool) (body : Token → Read Statement) (b : ReadsAll in_main body) where
      else-good : (c : Expression) (a : Statement) (t : Token) (m : Option Token) → Fine c → FineStatement in_main a → Honest t → HonestIf m
          → Good (FineStatement in_main) (else_at edition s body c a t m)
      else-good c a t none x y h k = ((x, y), h)
      else-good c a t (some u) x y h k =
          good-map (FineStatement in_main) (FineStatement in_main) (if-else c a) (body (past_newlines edition s u)) (λ d z. (x, (y, z))) (b _ (newlines-honest u k))

      if-good : (levels : ℕ) (u : Token) → Good (FineStatement in_main) (if_at edition s body levels u)
      unfolding if_at
      if-good levels u =
          good-then Fine (FineStatement in_main) (condition_at edition s levels u) (then_at edition s body) (condition-good levels u) (λ c t x h.
          good-then (FineStatement in_main) (FineStatement in_main) (body_at edition s body t) (λ a v. else_at edition s body c a v (else_after edition s (length s) (ended a) false v))
          (b _ (newlines-honest t h)) (λ a v y j. else-good c a v (else_after edition s (length s) (ended a) false v) x y j (else-honest (length s) (ended a) false v)))

      while-good : (levels : ℕ) (u : Token) → Good (FineStatement in_main) (while_at edition s body levels u)
      unfolding while_at
      while-good levels u =
          good-then Fine (FineStatement in_main) (condition_at edition s levels u) (λ c t. map (while c) (body_at edition s body t)) (condition-good levels u) (λ c t x h.
          good-map (FineStatement in_main) (FineStatement in_main) (while c) (body_at edition s body t) (λ a y. (x, y)) (b _ (newlines-honest t h)))

      statement-of-good : (levels : ℕ) (braces : Token → Read Statement) → ReadsAll in_main braces → ReadsAll in_main (statement_of edition s in_main levels body braces)
      unfolding statement_of
      statement-of-good levels braces c t h =
          good-cond (FineStatement in_main) (is semicolon t) _ _ (λ q. (tt, honest-after t))
          (λ q. good-cond (FineStatement in_main) (is open_brace t) _ _ (λ q. c t h)
          (λ q. good-cond (FineStatement in_main) (is IF t) _ _ (λ q. if-good levels _)
          (λ q. good-cond (FineStatement in_main) (is WHILE t) _ _ (λ q. while-good levels _)
          (λ q. good-cond (FineStatement in_main) (is PRINT t) _ _ (λ q. print-good in_main levels _ (operand-after t))
          (λ q. good-cond (FineStatement in_main) (is EXIT t) _ _ (λ q. (tt, honest-after t))
          (λ q. good-cond (FineStatement in_main) (is NEXT t && in_main) _ _ (λ q. (and_right (is NEXT t) in_main q, honest-after t))
          (λ q. good-map Fine (FineStatement in_main) expression (expression_at edition s levels false t) (λ a x. x) (expression-good levels false t h))))))))

    module _ (in_main : Bool) where
      followed-good : (rest : Token → Read Statement) → ReadsAll in_main rest → (r : Read Statement) → Good (FineStatement in_main) r
          → Good (FineStatement in_main) (followed edition s rest r)
      unfolding followed
      followed-good rest c (no outcome place) g = g
      followed-good rest c (ok a t) g =
          let behind = good-map (FineStatement in_main) (FineStatement in_main) (sequence a) (rest (token_after edition s t)) (λ d y. (g.0, y)) (c _ (honest-after t)) in
          let here = good-map (FineStatement in_main) (FineStatement in_main) (sequence a) (rest t) (λ d y. (g.0, y)) (c t g.1) in
          good-cond (FineStatement in_main) (ended a) _ _ (λ q. here)
          (λ q. good-cond (FineStatement in_main) (is_one_of enders t) _ _ (λ q. behind) (λ q. good-cond (FineStatement in_main) (is close_brace t) _ _ (λ q. here) (λ q. refused t)))

      statements-good : (statement : Token → Read Statement) → ReadsAll in_main statement → (n : ℕ) → ReadsAll in_main (statements edition s statement n)
      unfolding statements
      statements-good statement c zero t h = refused t
      statements-good statement c (suc n) t h =
          good-cond (FineStatement in_main) (is close_brace t) _ _ (λ q. (tt, honest-after t))
          (λ q. good-cond (FineStatement in_main) (is newline t) _ _ (λ q. statements-good statement c n (token_after edition s t) (honest-after t))
          (λ q. followed-good (statements edition s statement n) (statements-good statement c n) (statement (as_operand edition s t)) (c _ (honest-operand t h))))

      block-good : (statement : Token → Read Statement) → ReadsAll in_main statement → ReadsAll in_main (block_of edition s statement)
      unfolding block_of
      block-good statement c t h =
          good-map (FineStatement in_main) (FineStatement in_main) block (statements edition s statement (suc (length s)) (token_after edition s t)) (λ a x. x)
          (statements-good statement c (suc (length s)) _ (honest-after t))

      no-body-good : ReadsAll in_main (no_body edition in_main)
      unfolding no_body
      no-body-good t h = good-cond (FineStatement in_main) (starts_statement edition in_main t.kind) _ _ (λ q. omega arith) (λ q. refused t)

      pub statement-good : (levels : ℕ) → ReadsAll in_main (statement_at edition s in_main levels)
      unfolding statement_at
      statement-good zero t h = statement-of-good in_main (no_body edition in_main) no-body-good zero too_deep (λ t h. omega arith) t h
      statement-good (suc levels) t h =
          statement-of-good in_main (statement_at edition s in_main levels) (statement-good levels) (suc levels) (block_of edition s (statement_at edition s in_main levels))
          (block-good (statement_at edition s in_main levels) (statement-good levels)) t h

    -- ---- items

    abbrev pub FinePattern : Option Expression → Type 0
    FinePattern none = Unit
    FinePattern (some e) = Fine e

    abbrev pub FineItem : Item → Type 0
    FineItem (begin a) = FineStatement false a
    FineItem (end a) = FineStatement false a
    FineItem (main e a) = (FinePattern e) × (FineStatement true a)

    abbrev pub FineProgram : Program → Type 0
    FineProgram [] = Unit
    FineProgram (i ∷ l) = (FineItem i) × (FineProgram l)

    action-good : (in_main : Bool) (t : Token) → Honest t → Good (FineStatement in_main) (action_at edition s in_main t)
    unfolding action_at
    action-good in_main t h =
        good-cond (FineStatement in_main) (is open_brace t) _ _
        (λ q. block-good in_main (statement_at edition s in_main (nesting_depth - 1)) (statement-good in_main (nesting_depth - 1)) t h) (λ q. refused t)

    pattern-good : (r : Read Expression) → Good Fine r → Good FineItem (after_pattern edition s r)
    unfolding after_pattern
    pattern-good (no outcome place) g = g
    pattern-good (ok e t) g =
        good-cond FineItem (is open_brace t) _ _
        (λ q. good-map (FineStatement true) FineItem (main (some e)) (action_at edition s true t) (λ a x. (g.0, x)) (action-good true t g.1))
        (λ q. good-cond FineItem (is_one_of (text_end ∷ enders) t) _ _ (λ q. ((g.0, tt), g.1)) (λ q. refused t))

    item-good : (t : Token) → Honest t → Good FineItem (item_at edition s t)
    unfolding item_at
    item-good t h =
        good-cond FineItem (is BEGIN t) _ _ (λ q. good-map (FineStatement false) FineItem begin (action_at edition s false (token_after edition s t)) (λ a x. x) (action-good false _ (honest-after t)))
        (λ q. good-cond FineItem (is END t) _ _ (λ q. good-map (FineStatement false) FineItem end (action_at edition s false (token_after edition s t)) (λ a x. x) (action-good false _ (honest-after t)))
        (λ q. good-cond FineItem (is open_brace t) _ _ (λ q. good-map (FineStatement true) FineItem (main none) (action_at edition s true t) (λ a x. (tt, x)) (action-good true t h))
        (λ q. pattern-good (expression_at edition s nesting_depth false t) (expression-good nesting_depth false t h))))

    items-good : (n : ℕ) (t : Token) → Honest t → Good FineProgram (items edition s n t)
    unfolding items
    items-good zero t h = refused t
    items-good (suc n) t h =
        good-cond FineProgram (is text_end t) _ _ (λ q. (tt, h))
        (λ q. good-then FineItem FineProgram (item_at edition s t) (λ i u. map (λ is. i ∷ is) (items edition s n (as_operand edition s (past edition s enders u)))) (item-good t h)
        (λ i u x j. good-map FineProgram FineProgram (λ is. i ∷ is) (items edition s n (as_operand edition s (past edition s enders u))) (λ a y. (x, y))
        (items-good n _ (honest-operand _ (past-honest enders (length s) u j)))))

    pub program-good : Honest (token_at edition s 0) → Good FineProgram (read_program edition s)
    unfolding read_program
    program-good h = items-good (suc (length s)) _ (newlines-honest _ h)
