-- What is shown of each reader: where it ends well the machine walks over what it read, and where it refuses the
-- machine walks to a token that it does not take, or that opens a level too many.
use mathlib.Core.Path.{◌≡◌, refl, sym, ap, subst, ◌∙◌}
use mathlib.Core.Bool.{Bool, true, false, cond}
use mathlib.Core.List.{List, [], ◌∷◌}
use mathlib.Core.Option.{some, none}
use mathlib.Core.Logic.{◌⊎◌, inl, inr}
use Prim.Native.Nat.{ℕ, zero, suc, ◌+◌, ◌≤◌, ◌<◌}
use native.Mathlib.Omega.{arith}
use lib.ListN.{length}
use lib.Dec.{eqb}
use Rattle.lists.proofs.Tests.{or_right, or-none}
use Rattle.edition.specs.Outcomes.{size_passed}
use Rattle.program_tokens.specs.Kinds.{Kind, text_end, newline, ERE, same, among, rank}
use Rattle.program_tokens.specs.Tokens.{Token, is, is_one_of, token_after, as_operand}
use Rattle.program_tokens.proofs.Ranks.{same-is}
use Rattle.program_tree.specs.Functions.{Shape, an_expression, an_ere}
use Rattle.program_grammar.specs.Sets.{starts_joined, starts_expression}
use Rattle.program_reader.specs.Read.{Read, ok, no, map, bind, operand_after, past_in, past_newlines}
use Rattle.program_reader.specs.Operators.{operator_in}
use Rattle.program_parser.specs.Reading.{refused_by, Good as InText}
use Rattle.program_parser.proofs.Tokens.{Slashes}
use Rattle.program_exact.specs.Machine.{Mode, fresh, plain, against, tested, Blocks, Context, group, call, condition, value, listed, pattern, State, start, between, operand, operand_line, operand_field, ere_next, after, Open-next, ere_argument, argument_line, argument-end, condition_next, body, print_next, finished, list, settle, tier_after, printed, argument_end, finished_step, exit, primary_step, field_step, operand_step, operator_step, other_step, argument_step, begin_step, list_step, item_step, step}
use Rattle.program_exact.proofs.Facts.{by-test, after-tier, tier-still}
use Rattle.program_exact.proofs.Walks.{Walk, stay, go, walk-join, read_again, after-in, operand_in, onward-after, onward-operand, at-end, operand-still, operand-test}

module _ (edition : ℕ) where
  -- ---- where the machine takes an ERE, and where not

  pub ere-operand : (m : Mode) (c : Context) → step edition (operand m c) ERE ≡ some (after (settle m) c)
  unfolding step operand_step field_step primary_step among rank
  ere-operand m c = refl

  pub ere-line : (m : Mode) (c : Context) → step edition (operand_line m c) ERE ≡ some (after (settle m) c)
  unfolding step operand_step field_step primary_step among rank
  ere-line m c = refl

  pub ere-field : (m : Mode) (c : Context) → step edition (operand_field m c) ERE ≡ some (after m c)
  unfolding step field_step primary_step among rank
  ere-field m c = refl

  pub ere-body : (n : ℕ) (b : Blocks) → step edition (body n b) ERE ≡ some (after plain (value n b))
  unfolding step begin_step operand_step field_step primary_step among rank
  ere-body n b = refl

  pub ere-list : (n : ℕ) (p : Bool) (b : Blocks) → step edition (list n p b) ERE ≡ some (after plain (value 0 b))
  unfolding step list_step begin_step operand_step field_step primary_step among rank
  ere-list n p b = refl

  starts-ere : starts_expression edition ERE ≡ true
  unfolding starts_expression among rank
  starts-ere = or_right (starts_joined edition ERE) true refl

  pub ere-print : (n : ℕ) (b : Blocks) → step edition (print_next n b) ERE ≡ some (after plain (listed n b))
  unfolding step operand_step field_step primary_step among rank
  ere-print n b = rw starts-ere

  pub ere-start : step edition start ERE ≡ some (after plain pattern)
  unfolding step item_step operand_step field_step primary_step among rank
  ere-start = refl

  pub ere-between : step edition between ERE ≡ some (after plain pattern)
  unfolding step item_step operand_step field_step primary_step among rank
  ere-between = refl

  pub ere-next-takes : (c : Context) → step edition (ere_next c) ERE ≡ some (after tested c)
  unfolding step rank
  ere-next-takes c = refl

  pub ere-argument-takes : (l : List Shape) (m : Mode) (c : Context) → step edition (ere_argument l m c) ERE ≡ some (argument-end l m c)
  unfolding step argument_step rank
  ere-argument-takes l m c = refl

  pub ere-argument-line : (x : Shape) (l : List Shape) (m : Mode) (c : Context) → (y : State) × (step edition (argument_line x l m c) ERE ≡ some y)
  unfolding step argument_step operand_step field_step primary_step among rank
  ere-argument-line an_expression l m c = (after plain (call l m c), refl)
  ere-argument-line an_ere l m c = (argument-end l m c, refl)

  pub argument-end-ere : (l : List Shape) (m : Mode) (c : Context) → step edition (argument-end l m c) ERE ≡ none
  unfolding step argument_end rank
  argument-end-ere [] m c = refl
  argument-end-ere (x ∷ l) m c = refl

  pub open-ere : (l : List Shape) (m : Mode) (c : Context) → step edition (Open-next l m c) ERE ≡ none
  unfolding step rank
  open-ere l m c = refl

  pub condition-ere : (n : ℕ) (b : Blocks) → step edition (condition_next n b) ERE ≡ none
  unfolding step rank
  condition-ere n b = refl

  pub finished-ere : (n : ℕ) (b : Blocks) → step edition (finished n b) ERE ≡ none
  unfolding step finished_step among rank
  finished-ere n b = refl

  exit-ere : (c : Context) → exit c ERE ≡ none
  unfolding exit argument_end finished_step among rank
  exit-ere (group m c) = refl
  exit-ere (call [] m c) = refl
  exit-ere (call (x ∷ l) m c) = refl
  exit-ere (condition n b) = refl
  exit-ere (value n b) = refl
  exit-ere (listed n b) = refl
  exit-ere pattern = refl

  pub after-ere : (m : Mode) (c : Context) → step edition (after m c) ERE ≡ none
  unfolding step tier_after other_step operator_in among rank
  after-ere m c = after-tier edition m c ERE 0 (tier-still edition (printed c) ERE refl refl refl refl) ∙ go m
    where
      go : (m : Mode) → cond (eqb (tier_after m 0) 0) (other_step edition m c ERE) (operator_step edition m c ERE (tier_after m 0)) ≡ none
      go fresh = exit-ere c
      go plain = exit-ere c
      go against = exit-ere c
      go tested = exit-ere c

  module _ (s : List ℕ) where
    -- ---- answers

    abbrev Why : State → Token → ℕ → Type 0
    Why x t o = ((step edition x t.kind ≡ none) × (o ≡ refused_by t)) ⊎ (((y : State) × (step edition x t.kind ≡ some y)) × (o ≡ size_passed))

    pub record Refusal (x : State) (t : Token) (outcome place : ℕ) : Type 0 where
      pub state : State
      pub token : Token
      pub walk : Walk edition s x t state token
      pub at : place ≡ token.start
      pub why : Why state token outcome

    pub record Arrived {A : Type 0} (Q : A → Token → State → Type 0) (x : State) (t : Token) (p : ℕ) (a : A) (u : Token) : Type 0 where
      pub state : State
      pub walk : Walk edition s x t state u
      pub good : InText edition s 0 u
      pub onward : p ≤ u.start
      pub fact : Q a u state

    abbrev pub Reads : {A : Type 0} → (A → Token → State → Type 0) → State → Token → ℕ → Read A → Type 0
    Reads Q x t p (ok a u) = Arrived Q x t p a u
    Reads Q x t p (no outcome place) = Refusal x t outcome place

    pub refused : (x : State) (t : Token) → step edition x t.kind ≡ none → Refusal x t (refused_by t) t.start
    refused x t e = record { state = x; token = t; walk = stay x t; at = refl; why = inl (e, refl) }

    pub too-deep : (x y : State) (t : Token) → step edition x t.kind ≡ some y → Refusal x t size_passed t.start
    too-deep x y t e = record { state = x; token = t; walk = stay x t; at = refl; why = inr ((y, e), refl) }

    pub later : (x : State) (t : Token) (y : State) (u : Token) (o p : ℕ) → Walk edition s x t y u → Refusal y u o p → Refusal x t o p
    later x t y u o p w r =
        record { state = r.state; token = r.token; walk = walk-join edition s x t y u r.state r.token w r.walk; at = r.at; why = r.why }

    -- the same from an earlier token, and with a smaller bound
    pub earlier : {A : Type 0} (Q : A → Token → State → Type 0) (x : State) (t : Token) (y : State) (u : Token) (p q : ℕ) (r : Read A)
        → Walk edition s x t y u → p ≤ q → Reads Q y u q r → Reads Q x t p r
    earlier Q x t y u p q (ok a v) w h g =
        record { state = g.state; walk = walk-join edition s x t y u g.state v w g.walk; good = g.good; onward = omega (arith, g.onward); fact = g.fact }
    earlier Q x t y u p q (no outcome place) w h g = later x t y u outcome place w g

    pub reads-map : {A B : Type 0} (Q : A → Token → State → Type 0) (R : B → Token → State → Type 0) (f : A → B) (x : State) (t : Token) (p : ℕ) (r : Read A)
        → ((a : A) (u : Token) (y : State) → Q a u y → R (f a) u y) → Reads Q x t p r → Reads R x t p (map f r)
    reads-map Q R f x t p (ok a u) k g =
        record { state = g.state; walk = g.walk; good = g.good; onward = g.onward; fact = k a u g.state g.fact }
    reads-map Q R f x t p (no outcome place) k g = g

    -- less is said of it
    pub reads-weaken : {A : Type 0} (Q R : A → Token → State → Type 0) (x : State) (t : Token) (p q : ℕ) (r : Read A)
        → ((a : A) (u : Token) (y : State) → Q a u y → R a u y) → p ≤ q → Reads Q x t q r → Reads R x t p r
    reads-weaken Q R x t p q (ok a u) k h g =
        record { state = g.state; walk = g.walk; good = g.good; onward = omega (arith, g.onward); fact = k a u g.state g.fact }
    reads-weaken Q R x t p q (no outcome place) k h g = g

    pub reads_then : {A B : Type 0} (Q : A → Token → State → Type 0) (R : B → Token → State → Type 0) (x : State) (t : Token) (p : ℕ) (r : Read A) (f : A → Token → Read B)
        → Reads Q x t p r → ((a : A) (u : Token) (y : State) → Q a u y → InText edition s 0 u → p ≤ u.start → Reads R y u p (f a u)) → Reads R x t p (bind r f)
    reads_then Q R x t p (ok a u) f g k =
        earlier R x t g.state u p p (f a u) g.walk (omega arith) (k a u g.state g.fact g.good g.onward)
    reads_then Q R x t p (no outcome place) f g k = g

    -- ---- newlines that may follow

    abbrev pub Line : State → Token → Token → Type 0
    Line x t u = (Walk edition s x t x u) × (InText edition s 0 u) × (t.start ≤ u.start) × (same u.kind newline ≡ false)

    line-end : (t : Token) → InText edition s 0 t → length s ≤ t.start → same t.kind newline ≡ false
    unfolding rank
    line-end t g h = ap (λ (k : Kind). same k newline) (same-is t.kind text_end (at-end edition s t g h))

    pub newline-operand : (t : Token) → is newline t ≡ true → as_operand edition s t ≡ t
    unfolding among rank
    newline-operand t e = operand-still edition s t (ap (among Slashes) (same-is t.kind newline e))

    pub single : (k j : Kind) → among (j ∷ []) k ≡ same k j
    unfolding among
    single k j = or-none (same k j)

    pub lines-in : (x y : State) → step edition x newline ≡ some x → step edition x ERE ≡ some y → (n : ℕ) (t : Token) → InText edition s 0 t → length s ≤ n + t.start
        → Line x (as_operand edition s t) (as_operand edition s (past_in edition s (newline ∷ []) n t))
    unfolding past_in rank
    lines-in x y a e zero t g h =
        (stay x (as_operand edition s t), operand_in edition s t g, omega arith, operand-test edition s newline t (refl, refl, refl, refl, refl) ∙ line-end t g (omega arith))
    lines-in x y a e (suc n) t g h =
        let r = lines-in x y a e n (token_after edition s t) (after-in edition s t g) in
        by-test (λ u. Line x (as_operand edition s t) (as_operand edition s u)) (is_one_of (newline ∷ []) t) (past_in edition s (newline ∷ []) n (token_after edition s t)) t
        (λ q.
        let f : is newline t ≡ true = sym (single t.kind newline) ∙ q in
        let k : t.kind ≡ newline = same-is t.kind newline f in
        let on : t.start < (token_after edition s t).start = onward-after edition s t g (ap (λ (j : Kind). same j text_end) k) in
        let i = r (omega (arith, on)) in
        let v : Token = as_operand edition s (past_in edition s (newline ∷ []) n (token_after edition s t)) in
        let from : t.start < (operand_after edition s t).start = onward-operand edition s t g (ap (λ (j : Kind). same j text_end) k) in
        subst (λ (w : Token). Line x w v) (sym (newline-operand t f))
        (go x t x (operand_after edition s t) x v (ap (step edition x) k ∙ a) (read_again y e) i.0, i.1, omega (arith, i.2, from), i.3))
        (λ q. (stay x (as_operand edition s t), operand_in edition s t g, omega arith, operand-test edition s newline t (refl, refl, refl, refl, refl) ∙ (sym (single t.kind newline) ∙ q)))

    -- a token, and the newlines after it
    pub lines_after : (x z y : State) (t : Token) → step edition x t.kind ≡ some z → step edition z newline ≡ some z → step edition z ERE ≡ some y → InText edition s 0 t
        → same t.kind text_end ≡ false
        → (Walk edition s x t z (past_newlines edition s (token_after edition s t))) × (InText edition s 0 (past_newlines edition s (token_after edition s t)))
        × (t.start < (past_newlines edition s (token_after edition s t)).start) × (same (past_newlines edition s (token_after edition s t)).kind newline ≡ false)
    lines_after x z y t h a e g n =
        let i = lines-in z y a e (length s) (token_after edition s t) (after-in edition s t g) (omega arith) in
        let v : Token = past_newlines edition s (token_after edition s t) in
        let on : t.start < (operand_after edition s t).start = onward-operand edition s t g n in
        (go x t z (operand_after edition s t) z v h (read_again y e) i.0, i.1, omega (arith, i.2, on), i.3)
