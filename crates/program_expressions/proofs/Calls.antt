-- Calls of functions: the arguments, one after another.
use mathlib.Core.Path.{◌≡◌, refl, sym, ap, subst, ◌∙◌}
use mathlib.Core.Bool.{Bool, true, false, not, cond, ◌&&◌}
use mathlib.Core.List.{List, [], ◌∷◌, ◌++◌, append_assoc}
use mathlib.Core.Option.{Option, some, none}
use Prim.Native.Nat.{ℕ, ◌+◌, ◌*◌, ◌/◌, ◌%◌, ◌≤◌, ◌<◌}
use native.Mathlib.Omega.{arith}
use lib.ListN.{length-append}
use lib.Seq.{sets}
use lib.Dec.{eqb, ltb, leb}
use borrow.Author.Tests.{eq-eqb, ne_eqb, lt-ltb, not-true, ltb-true}
use Rattle.std.specs.Prelude.{Some, None}
use Rattle.lists.proofs.Tests.{clash, and-true}
use Rattle.edition.specs.Outcomes.{bad_token, misplaced_token, bad_ere}
use Rattle.image_format.specs.Codes.{action}
use Rattle.program_tokens.specs.Kinds.{Kind, text_end, bad, bad-ere, ERE, open_paren, close_paren, comma, same, rank}
use Rattle.program_tokens.specs.Tokens.{Token, is, token_after, ere_in}
use Rattle.program_tree.specs.Tree.{Expression, variable, length-of, index, substr, match}
use Rattle.program_tree.specs.Functions.{Shape, an_expression, an_ere, Call, Function, function_in, function_of, functions}
use Rattle.program_reader.specs.Read.{Read as Result, ok, no, bind, refuse, operand_after, past_newlines}
use Rattle.program_reader.specs.Operators.{expressions}
use Rattle.program_reader.specs.Expressions.{closed, argument, arguments, call, calling, inside}
use Rattle.program_code.specs.Emitted.{nothing, the_ere, emit, action_code, opcode}
use Rattle.program_code.specs.Expressions.{size, compile}
use Rattle.program_code.proofs.Flows.{size-length}
use Rattle.program_lexer.specs.Coded.{coded, decoded, kind_of, kind_count}
use Rattle.program_lexer.specs.declared.tokens.Token.{Token as Coded}
use Rattle.program_lexer.proofs.Coding.{rank-of}
use Rattle.program_words.specs.Words.{word}
use Rattle.program_parser.specs.declared.read.Read.{Read}
use Rattle.program_parser.specs.declared.calls.Function.{Function as Coding}
use Rattle.program_operations.specs.declared.parts.PendingCall.{PendingCall}
use Rattle.program_parser.specs.Tables.{function_action, shape_code, shapes_code, described}
use Rattle.program_parser.specs.Meaning.{Denotes}
use Rattle.program_parser.specs.Reading.{success, answered, refusal, refused_by, closed_of, form_of, Good, Ready, Reading}
use Rattle.program_parser.proofs.Tokens.{choose, good-after}
use Rattle.program_parser.proofs.Codes.{decoded-back}
use Rattle.program_parser.proofs.Others.{no-function}
use Rattle.program_parser.proofs.Spelling.{wrote_after}
use Rattle.program_parser.proofs.Places.{ere-placed}
use Rattle.program_operations.specs.Parts.{suffixed, Suffixed, pending, Completes, Calls, arguments_left}
use Rattle.program_operations.proofs.Readings.{good-earlier, after-operand, after_line, ready_at, refused-token, failed}
use Rattle.program_operations.proofs.Written.{wrote_nothing, wrote_one}
use Rattle.program_operations.proofs.Primaries.{fits}
use Rattle.program_operations.proofs.Turns.{code-small}

-- ---- how many arguments are left

module _ (x : ℕ) where
  left_one : x < 4 → arguments_left x ≤ 1
  unfolding arguments_left
  left_one h = rw (lt-ltb x 4 h) (choose (λ (n : ℕ). n ≤ 1) (eqb x 0) 0 1 (λ e. omega arith) (λ e. omega arith))

  left-two : x < 16 → arguments_left x ≤ 2
  unfolding arguments_left
  left-two h =
      rw (lt-ltb x 16 h)
      (choose (λ (n : ℕ). n ≤ 2) (eqb x 0) 0 (cond (ltb x 4) 1 2) (λ e. omega arith)
      (λ e. choose (λ (n : ℕ). n ≤ 2) (ltb x 4) 1 2 (λ f. omega arith) (λ f. omega arith)))

  pub left-some : (x ≡ 0 → ⊥) → 1 ≤ arguments_left x
  unfolding arguments_left
  left-some z =
      rw (ne_eqb x 0 z)
      (choose (λ (n : ℕ). 1 ≤ n) (ltb x 4) 1 (cond (ltb x 16) 2 3) (λ e. omega arith)
      (λ e. choose (λ (n : ℕ). 1 ≤ n) (ltb x 16) 2 3 (λ f. omega arith) (λ f. omega arith)))

  pub left-few : arguments_left x ≤ 3
  unfolding arguments_left
  left-few =
      choose (λ (n : ℕ). n ≤ 3) (eqb x 0) 0 (cond (ltb x 4) 1 (cond (ltb x 16) 2 3)) (λ e. omega arith)
      (λ e. choose (λ (n : ℕ). n ≤ 3) (ltb x 4) 1 (cond (ltb x 16) 2 3) (λ f. omega arith)
      (λ f. choose (λ (n : ℕ). n ≤ 3) (ltb x 16) 2 3 (λ g. omega arith) (λ g. omega arith)))

none_left : (x : ℕ) → x ≡ 0 → arguments_left x ≡ 0
unfolding arguments_left
none_left x e = rw e

pub left-falls : (x : ℕ) → (x ≡ 0 → ⊥) → x < 64 → arguments_left (x / 4) + 1 ≤ arguments_left x
unfolding arguments_left
left-falls x z h = go (ltb x 4) refl (ltb x 16) refl
  where
    go : (a : Bool) → ltb x 4 ≡ a → (b : Bool) → ltb x 16 ≡ b
        → arguments_left (x / 4) + 1 ≤ cond (eqb x 0) 0 (cond (ltb x 4) 1 (cond (ltb x 16) 2 3))
    go true e b f = rw (ne_eqb x 0 z, e) (omega (arith, none_left (x / 4) (omega (arith, ltb-true x 4 e))))
    go false e true f = rw (ne_eqb x 0 z, e, f) (omega (arith, left_one (x / 4) (omega (arith, ltb-true x 16 f))))
    go false e false f = rw (ne_eqb x 0 z, e, f) (omega (arith, left-two (x / 4) (omega (arith, h))))

-- ---- the functions

abbrev Each : (Function → Type 0) → List Function → Type 0
Each P [] = Unit
Each P (f ∷ l) = P f × Each P l

-- what holds of each function holds of the one that a word calls
function-has : (edition : ℕ) (k : Kind) (P : Option Function → Type 0) → P none → (l : List Function)
    → Each (λ f. P (some f)) l
    → P (function_in edition k l)
unfolding function_in
function-has edition k P z [] h = z
function-has edition k P z (f ∷ l) h =
    choose P (leb f.since edition && same k f.kind) (some f) (function_in edition k l) (λ e. h.0)
    (λ e. function-has edition k P z l h.1)

abbrev Fit : Option Function → Type 0
Fit o = (f : Coding) → described o ≡ Some f → (f.op < 256) × (f.shapes < 64)

-- the numbers of a function that is known
coded-fits : (f g : Coding) → Some f ≡ Some g → (f.op < 256) × (f.shapes < 64) → (g.op < 256) × (g.shapes < 64)
coded-fits f g e h =
    let same : f ≡ g = cc in
    subst (λ (y : Coding). (y.op < 256) × (y.shapes < 64)) same h

pub function-fits : (edition : ℕ) (k : Kind) → Fit (function_of edition k)
unfolding shapes_code shape_code function_action action_code rank
function-fits edition k =
    function-has edition k Fit none-fits functions (
      (λ g e. coded-fits _ g e (omega arith, omega arith)),
      (
        (λ g e. coded-fits _ g e (omega arith, omega arith)),
        (
          (λ g e. coded-fits _ g e (omega arith, omega arith)),
          ((λ g e. coded-fits _ g e (omega arith, omega arith)), tt),
        ),
      ),
    )
  where
    none-fits : Fit none
    none-fits g e = let z : ◌≡◌ {A = ℕ} 0 1 = cc in absurd (omega arith)

-- the code of a call is that of its arguments, and then one instruction
abbrev Complete : ℕ → Option Function → Type 0
Complete edition none = Unit
Complete edition (some f) = (n d : ℕ) → Completes edition n d (function_action f.kind) f.shapes f.tree [] n d
    nothing

length-other : (a : Expression) (v : List ℕ) → length-of a ≡ variable v → ⊥
length-other a v y = let z : ◌≡◌ {A = ℕ} 0 1 = cc in omega arith

index-other : (a b : Expression) (v : List ℕ) → index a b ≡ variable v → ⊥
index-other a b v y = let z : ◌≡◌ {A = ℕ} 0 1 = cc in omega arith

substr-other : (a b c : Expression) (v : List ℕ) → substr a b c ≡ variable v → ⊥
substr-other a b c v y = let z : ◌≡◌ {A = ℕ} 0 1 = cc in omega arith

match-other : (a : Expression) (r v : List ℕ) → match a r ≡ variable v → ⊥
match-other a r v y = let z : ◌≡◌ {A = ℕ} 0 1 = cc in omega arith

two : (d : ℕ) → d + 1 + 1 ≡ d + 2
two d = omega arith

three : (d : ℕ) → d + 2 + 1 ≡ d + 3
three d = omega arith

pub function-completes : (edition : ℕ) (k : Kind) → Complete edition (function_of edition k)
unfolding Completes compile size form_of function_action rank
function-completes edition k =
    function-has edition k (Complete edition) tt functions (
      (λ n d a. record { sized = omega arith; code = refl; form = refl; other = length-other a }),
      (
        (λ n d a b. record {
          sized = omega arith;
          code = simp (append_assoc, two d);
          form = refl;
          other = index-other a b;
        }),
        (
          (λ n d a b c. record {
            sized = omega arith;
            code = simp (append_assoc, two d, three d);
            form = refl;
            other =
                substr-other a b c;
          }),
          ((λ n d a r. record { sized = omega arith; code = refl; form = refl; other = match-other a r }), tt),
        ),
      ),
    )

-- a word that calls a function is not the text's end
pub function-begun : (edition n : ℕ) (f : Coding) → n < kind_count → described (function_of edition (kind_of n)) ≡ Some f → n ≡ 0
    → ⊥
function-begun edition n f h z e =
    let none : None ≡ Some f =
    no-function n h edition (λ f. omega (arith, e, f)) (λ f. omega (arith, e, f)) (λ f. omega (arith, e, f))
    (λ f. omega (arith, e, f)) ∙ z in
    let q : ◌≡◌ {A = ℕ} 0 1 = cc in omega arith

-- ---- a call, from the word of its function on

module _ (edition : ℕ) (s : List ℕ) (levels : ℕ) (t : Coded) (n d : ℕ) (xs : List ℕ) (h : Ready edition s t n)
    (r : Read) (ys : List ℕ) where
  abbrev Called : Option Function → Result Expression
  Called o = calling edition s (inside edition s levels) (decoded t) o

  pub call_none : (o : Option Function) → described o ≡ None → r ≡ refusal (refused_by (decoded t)) t.start
      → Reading edition s (decoded t) n d xs (Called o) r ys
  unfolding calling
  call_none none e a = refused-token edition s (decoded t) n d xs (refuse (decoded t)) r ys (decoded t) refl a
  call_none (some f) e a = let z : ◌≡◌ {A = ℕ} 0 1 = cc in absurd (omega arith)

  module _ (u : Coded) (ue : u ≡ coded (token_after edition s (decoded t))) where
    back : decoded u ≡ token_after edition s (decoded t)
    back = decoded-back u (token_after edition s (decoded t)) ue

    found : (k : Kind) → is k (token_after edition s (decoded t)) ≡ eqb u.kind (rank k)
    found k = ap (λ (i : ℕ). eqb i (rank k)) (sym (ap (λ (y : Coded). y.kind) ue))

    pub call-refused : (o : Option Function) (g : Coding) → described o ≡ Some g → (u.kind ≡ 38 → ⊥)
        → r ≡ refusal (refused_by (decoded u)) u.start → Reading edition s (decoded t) n d xs (Called o) r ys
    unfolding calling call rank
    call-refused none g e k a = let z : ◌≡◌ {A = ℕ} 0 1 = cc in absurd (omega arith)
    call-refused (some f) g e k a =
        let v = token_after edition s (decoded t) in
        refused-token edition s (decoded t) n d xs (Called (some f)) r ys v
        (rw (found open_paren, ne_eqb u.kind 38 k))
        (a ∙ ap (λ (y : Token). refusal (refused_by y) y.start) back)

    pub call-read : (o : Option Function) → Complete edition o → (y : Coding) → described o ≡ Some y → t.start < t.stop
        → u.kind ≡ 38
        → Calls edition s levels (pending y.op y.shapes 0 u) true u n d xs r ys
        → Reading edition s (decoded t) n d xs (Called o) r ys
    unfolding calling call rank Calls Denotes
    call-read none w y z l k c = let q : ◌≡◌ {A = ℕ} 0 1 = cc in absurd (omega arith)
    call-read (some f) w y z l k c =
        let same : y ≡ record { op = action_code (function_action f.kind); shapes = shapes_code f.shapes } = cc in
        let c' = subst (λ (x : Coding). Calls edition s levels (pending x.op x.shapes 0 u) true u n d xs r ys) same c in
        let v = token_after edition s (decoded t) in
        let g = good-after edition s 0 (decoded t) h.good in
        let a : u.start ≡ v.start = ap (λ (y : Coded). y.start) ue in
        let b : u.stop ≡ v.stop = ap (λ (y : Coded). y.stop) ue in
        rw (found open_paren, eq-eqb u.kind 38 k, ← back)
        (c' (decoded t) n d xs f.shapes f.tree
        (record {
          act = function_action f.kind;
          read = [];
          names = nothing;
          coded = refl;
          shaped = refl;
          completes = w n d;
          denotes = refl;
          before = omega arith;
          wrote = wrote_nothing edition s xs n;
          order = omega (arith, b, g.after, g.ordered);
          bound = omega (arith, a, g.after, l);
        }))

-- ---- the arguments that are left

-- the shapes of arguments that are left, of which there is one
shape-some : (x : Shape) (l : List Shape) → 0 < shapes_code (x ∷ l)
unfolding shapes_code shape_code
shape-some an_expression l = omega arith
shape-some an_ere l = omega arith

no-shapes : shapes_code [] ≡ 0
unfolding shapes_code
no-shapes = refl

-- a refusal is not written after
refused-suffix : (u : Token) → suffixed (refusal (refused_by u) u.start) 0 ≡ refusal (refused_by u) u.start
refused-suffix u = go (is bad u) (is bad-ere u)
  where
    go : (a b : Bool) → suffixed (refusal (cond a bad_token (cond b bad_ere misplaced_token)) u.start) 0
        ≡ refusal (cond a bad_token (cond b bad_ere misplaced_token)) u.start
    go true b = refl
    go false true = refl
    go false false = refl

close-begun : (u : Token) → is close_paren u ≡ true → is text_end u ≡ false
unfolding rank
close-begun u e = ne_eqb (rank u.kind) 0 (λ z. clash (sym e ∙ rw z))

pub closed-count : (edition : ℕ) (s : List ℕ) (t : Coded) (m : ℕ) (r : Read) → r ≡ closed_of edition s (answered t m 0)
    → r.count ≤ m
closed-count edition s t m r e =
    subst (λ (y : Read). y.count ≤ m) (sym e)
    (choose (λ (y : Read). y.count ≤ m) (is close_paren (decoded t)) (success (token_after edition s (decoded t)) m 0)
    (refusal (refused_by (decoded t)) t.start) (λ f. omega arith) (λ f. omega arith))

-- where an argument starts
module _ (edition : ℕ) (s : List ℕ) (first : Bool) (t : Coded) (m : ℕ) (h : Ready edition s t m) (start : Coded)
    (se : start ≡ coded (cond first (operand_after edition s (decoded t))
    (past_newlines edition s (token_after edition s (decoded t))))) where
  abbrev Started : Token
  Started = cond first (operand_after edition s (decoded t)) (past_newlines edition s (token_after edition s (decoded t)))

  start_back : decoded start ≡ Started
  start_back = decoded-back start Started se

  start-good : Good edition s t.stop (decoded start)
  start-good =
      subst (λ (y : Token). Good edition s t.stop y) (sym start_back)
      (choose (Good edition s t.stop) first (operand_after edition s (decoded t))
      (past_newlines edition s (token_after edition s (decoded t)))
      (λ e. after-operand edition s (decoded t) h.good) (λ e. after_line edition s (decoded t) h.good))

  pub start-ready : Ready edition s start m
  start-ready =
      ready_at edition s t.stop start Started m h.small se
      (subst (λ (y : Token). Good edition s t.stop y) start_back start-good)
      (subst (λ (y : Token). m ≤ 8 * y.start) start_back (omega
      (arith, start-good.after, h.good.ordered, h.count)))

module _ (edition : ℕ) (s : List ℕ) (levels : ℕ) (f : PendingCall) (first : Bool) (t : Coded) (m k : ℕ) (xs : List ℕ)
    (h : Ready edition s t m) (q : Read) (ys : List ℕ) where
  pub calls-end : f.shapes ≡ 0 → k ≤ 60003 → f.operand < 1048576 → (r : Read) → r
      ≡ closed_of edition s (answered t m 0)
      → Suffixed r f.op k f.operand 0 xs q ys → Calls edition s levels f first t m k xs q ys
  unfolding Calls arguments closed Completes Reading opcode rank
  calls-end e deep small r re w v n d ws (x ∷ l) g c = absurd (omega (arith, e, c.shaped, shape-some x l))
  calls-end e deep small r re w v n d ws [] g c = go (is close_paren (decoded t)) refl re
    where
      go : (b : Bool) → is close_paren (decoded t) ≡ b → r ≡ cond b (success (token_after edition s (decoded t)) m 0)
          (refusal (refused_by (decoded t)) t.start)
          → Reading edition s v n d ws (cond b (ok g (token_after edition s (decoded t))) (refuse (decoded t))) q ys
      go false p y =
          refused-token edition s v n d ws (refuse (decoded t)) q ys (decoded t) refl
          (w.answer ∙ (ap (λ (z : Read). suffixed z 0) y ∙ refused-suffix (decoded t)))
      go true p y =
          let after = good-after edition s 0 (decoded t) h.good in
          let long : t.start < t.stop = h.good.longer (close-begun (decoded t) p) in
          let stored : ys ≡ sets xs m (word (action_code c.act) k f.operand ∷ []) =
          w.wrote (ap (λ (z : Read). z.outcome) y)
          ∙ (ap (λ (z : Read). sets xs z.count (word f.op k f.operand ∷ [])) y
          ∙ ap (λ (i : ℕ). sets xs m (word i k f.operand ∷ [])) c.coded) in
          record {
            answer =
                w.answer
                ∙ (ap (λ (z : Read). suffixed z 0) y
                ∙ (ap (λ (i : ℕ). success (token_after edition s (decoded t)) i 0) (sym c.completes.sized)
                ∙ ap (success (token_after edition s (decoded t)) (n + size g)) (sym c.completes.form)));
            good = good-earlier edition s v.stop t.stop (token_after edition s (decoded t)) c.order after;
            bound = omega (arith, c.bound, c.completes.sized, long, after.after);
            wrote =
                rw c.completes.code
                (wrote_after edition s ws xs ys n m c.read (emit (action c.act) k c.names) c.before
                c.wrote
                (wrote_one edition s xs m (action c.act) k f.operand c.names ys
                (fits (action_code c.act) k f.operand (code-small (action c.act)) (omega (arith, deep)) small)
                c.denotes stored));
            named = λ i j. absurd (c.completes.other i j);
          }

  -- ---- with an argument left

  module _ (z : f.shapes ≡ 0 → ⊥) where
    pub calls-comma : (not first && not (eqb t.kind 42)) ≡ true → q ≡ refusal (refused_by (decoded t)) t.start
        → Calls edition s levels f first t m k xs q ys
    unfolding Calls arguments closed rank
    calls-comma e a v n d ws [] g c = absurd (z (c.shaped ∙ no-shapes))
    calls-comma e a v n d ws (x ∷ l) g c =
        let both = and-true (not first) (not (eqb t.kind 42)) e in
        let no-comma : is comma (decoded t) ≡ false =
        ap (λ (i : ℕ). eqb i 42) (rank-of t.kind h.known) ∙ not-true _ both.1 in
        refused-token edition s v n d ws _ q ys (decoded t) (rw (not-true first both.0, no-comma)) a

    module _ (sign : (not first && not (eqb t.kind 42)) ≡ false) (start : Coded)
        (se : start ≡ coded (cond first (operand_after edition s (decoded t))
        (past_newlines edition s (token_after edition s (decoded t))))) where
      at-argument : (x : Shape) (l : List Shape) (g : Call (x ∷ l))
          → arguments edition s (inside edition s levels) (decoded f.opener) first (x ∷ l) g (decoded t)
          ≡ argument edition s (inside edition s levels) (decoded f.opener) x l g (decoded start)
          (arguments edition s (inside edition s levels) (decoded f.opener) false l)
      unfolding arguments rank
      at-argument x l g = rw (start_back edition s first t m h start se) (go first (eqb t.kind 42) refl sign)
        where
          go : (a b : Bool) → eqb t.kind 42 ≡ b → (not a && not b) ≡ false
              → cond a (argument edition s (inside edition s levels) (decoded f.opener) x l g
              (operand_after edition s (decoded t)) (arguments edition s (inside edition s levels) (decoded f.opener)
              false l))
              (cond (is comma (decoded t)) (argument edition s (inside edition s levels) (decoded f.opener) x l g
              (past_newlines edition s (token_after edition s (decoded t)))
              (arguments edition s (inside edition s levels) (decoded f.opener) false l)) (refuse (decoded t)))
              ≡ argument edition s (inside edition s levels) (decoded f.opener) x l g
              (cond a (operand_after edition s (decoded t))
              (past_newlines edition s (token_after edition s (decoded t))))
              (arguments edition s (inside edition s levels) (decoded f.opener) false l)
          go true b e f = refl
          go false true e f = rw (ap (λ (i : ℕ). eqb i 42) (rank-of t.kind h.known) ∙ e)
          go false false e f = absurd (clash f)

      -- an expression
      module _ (one : f.shapes % 4 ≡ 1) (r : Read) (zs : List ℕ)
          (w : Reading edition s (decoded start) m k xs (inside edition s levels false expressions (decoded f.opener)
          (decoded start)) r zs) where
        pub calls-failed : (r.outcome ≡ 0 → ⊥) → Calls edition s levels f first t m k xs r zs
        unfolding Calls argument closed shapes_code shape_code
        calls-failed o v n d ws [] g c = absurd (z c.shaped)
        calls-failed o v n d ws (an_ere ∷ l) g c = absurd (omega (arith, one, c.shaped))
        calls-failed o v n d ws (an_expression ∷ l) g c =
            rw (at-argument an_expression l g)
            (failed edition s v n d ws
            (λ (R : Result Expression). closed edition s (bind R
            (λ e u. arguments edition s (inside edition s levels) (decoded f.opener) false l (g e) u)))
            (λ i p. refl) (decoded start) m k xs (inside edition s levels false expressions (decoded f.opener)
            (decoded start)) r zs w o zs)

        pub calls-next : r.outcome ≡ 0 → (rest : PendingCall) → rest
            ≡ pending f.op (f.shapes / 4) f.operand f.opener
            → Calls edition s levels rest false r.token r.count (k + 1) zs q ys
            → Calls edition s levels f first t m k xs q ys
        unfolding Calls argument closed shapes_code shape_code Completes Reading
        calls-next o rest re p v n d ws [] g c = absurd (z c.shaped)
        calls-next o rest re p v n d ws (an_ere ∷ l) g c = absurd (omega (arith, one, c.shaped))
        calls-next o rest re p v n d ws (an_expression ∷ l) g c =
            rw (at-argument an_expression l g) (go (inside edition s levels false expressions (decoded f.opener)
            (decoded start)) w)
          where
            go : (R : Result Expression) → Reading edition s (decoded start) m k xs R r zs
                → Reading edition s v n d ws (closed edition s
                (bind R (λ e u. arguments edition s (inside edition s levels) (decoded f.opener) false l (g e) u)))
                q ys
            go (no i j) y = absurd (y.1 (sym (ap (λ (x : Read). x.outcome) y.0) ∙ o))
            go (ok e u) y =
                let count : m + size e ≡ r.count = sym (ap (λ (x : Read). x.count) y.answer) in
                let back : decoded r.token ≡ u = decoded-back r.token u
                (ap (λ (x : Read). x.token) y.answer) in
                let starts : r.token.start ≡ u.start = ap (λ (x : Token). x.start) back in
                let stops : r.token.stop ≡ u.stop = ap (λ (x : Token). x.stop) back in
                rw (← back)
                (subst (λ (x : PendingCall). Calls edition s levels x false r.token r.count (k + 1) zs q ys) re
                p v n d ws l
                (g e)
                (record {
                  act = c.act;
                  read = c.read ++ compile e m k;
                  names = c.names;
                  coded = c.coded;
                  shaped = omega (arith, c.shaped);
                  completes = subst (λ (i : ℕ). Completes edition n d c.act l (g e) (c.read ++ compile e m k) i
                      (k + 1) c.names) count (c.completes e);
                  denotes = c.denotes;
                  before = omega (arith, c.before, length-append c.read (compile e m k), size-length e m k, count);
                  wrote = wrote_after edition s ws xs zs n m c.read (compile e m k) c.before c.wrote
                      y.wrote;
                  order = omega (
                    arith,
                    c.order,
                    (start-good edition s first t m h start se).after,
                    (start-good edition s first t m h start se).ordered,
                    y.good.after,
                    y.good.ordered,
                    stops,
                  );
                  bound = omega (
                    arith,
                    c.bound,
                    (start-good edition s first t m h start se).after,
                    h.good.ordered,
                    y.bound,
                    count,
                    starts,
                  );
                }))

      -- an ERE
      module _ (other : f.shapes % 4 ≡ 1 → ⊥) where
        pub calls-no-ere : (start.kind ≡ 6 → ⊥) → q ≡ refusal (refused_by (decoded start)) start.start
            → Calls edition s levels f first t m k xs q ys
        unfolding Calls argument closed shapes_code shape_code rank
        calls-no-ere e a v n d ws [] g c = absurd (z c.shaped)
        calls-no-ere e a v n d ws (an_expression ∷ l) g c = absurd (other (omega (arith, c.shaped)))
        calls-no-ere e a v n d ws (an_ere ∷ l) g c =
            refused-token edition s v n d ws _ q ys (decoded start)
            (rw (
              at-argument an_ere l g,
              rank-of start.kind (start-ready edition s first t m h start se).known,
              ne_eqb start.kind 6 e,
            )) a

        pub calls-ere : start.kind ≡ 6 → (next : Coded) → next ≡ coded (token_after edition s (decoded start))
            → (rest : PendingCall) → rest ≡ pending f.op (f.shapes / 4) start.start f.opener
            → Calls edition s levels rest false next m k xs q ys
            → Calls edition s levels f first t m k xs q ys
        unfolding Calls argument closed shapes_code shape_code Completes Denotes rank
        calls-ere e next ne rest re p v n d ws [] g c = absurd (z c.shaped)
        calls-ere e next ne rest re p v n d ws (an_expression ∷ l) g c = absurd (other (omega (arith, c.shaped)))
        calls-ere e next ne rest re p v n d ws (an_ere ∷ l) g c =
            let back : decoded next ≡ token_after edition s (decoded start) = decoded-back next
            (token_after edition s (decoded start)) ne in
            let after = good-after edition s t.stop (decoded start) (start-good edition s first t m h start se) in
            let starts : next.start ≡ (token_after edition s (decoded start)).start = ap (λ (x : Token). x.start) back
            in
            let stops : next.stop ≡ (token_after edition s (decoded start)).stop = ap (λ (x : Token). x.stop) back in
            let is-ere : is ERE (decoded start) ≡ true = ap (λ (i : ℕ). eqb i 6)
            (rank-of start.kind (start-ready edition s first t m h start se).known)
            ∙ eq-eqb start.kind 6 e in
            rw (at-argument an_ere l g, is-ere, ← back)
            (subst (λ (x : PendingCall). Calls edition s levels x false next m k xs q ys) re p v n d ws l
            (g (ere_in s (decoded start)))
            (record {
              act = c.act;
              read = c.read;
              names = the_ere (ere_in s (decoded start));
              coded = c.coded;
              shaped = omega (arith, c.shaped);
              completes = c.completes (ere_in s (decoded start));
              denotes = ere-placed edition s (decoded start) (start-good edition s first t m h start se).placed
                  is-ere;
              before = c.before;
              wrote = c.wrote;
              order = omega (
                arith,
                c.order,
                (start-good edition s first t m h start se).after,
                (start-good edition s first t m h start se).ordered,
                after.after,
                after.ordered,
                stops,
              );
              bound = omega (
                arith,
                c.bound,
                (start-good edition s first t m h start se).after,
                (start-good edition s first t m h start se).ordered,
                h.good.ordered,
                after.after,
                starts,
              );
            }))
