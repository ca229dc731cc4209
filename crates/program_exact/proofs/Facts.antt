-- Small laws: kinds in lists, functions, and runs of the machine.
use mathlib.Core.Path.{◌≡◌, refl, sym, ap, subst, ◌∙◌}
use mathlib.Core.Bool.{Bool, true, false, cond}
use mathlib.Core.List.{List, [], ◌∷◌, ◌++◌}
use mathlib.Core.Option.{Option, some, none}
use mathlib.Core.Logic.{◌⊎◌, inl, inr, ⊎_elim}
use Prim.Native.Nat.{ℕ}
use lib.Dec.{eqb}
use Rattle.lists.proofs.Tests.{clash, and-false, or_cases, or-false}
use Rattle.lists.proofs.Options.{none-some}
use Rattle.program_tokens.specs.Kinds.{Kind, text_end, newline, NUMBER, STRING, ERE, fixed_variable, BEGIN, END, IF, ELSE, WHILE, PRINT, NEXT, EXIT, LENGTH, INDEX, SUBSTR, MATCH, open_brace, close_brace, user_name, variable, open_paren, close_paren, comma, semicolon, plus, minus, star, slash, percent, bang, dollar, tilde, no_match, assign, or_or, and_and, greater, same, among, rank}
use Rattle.program_tokens.proofs.Ranks.{same-is}
use Rattle.program_tree.specs.Functions.{Function, function_in, function_of}
use Rattle.program_grammar.specs.Sets.{targets, prefixes, comparisons, starts_joined, starts_expression, is_function}
use Rattle.program_reader.specs.Operators.{fields, products, sums, concatenations, compared, conjunctions, disjunctions, binary, operator_in, tier_of}
use Rattle.program_exact.specs.Machine.{Mode, fresh, plain, against, tested, Context, State, operand, operand_line, operand_field, ere_next, settle, printed, tier_after, exit, call_step, primary_step, field_step, operand_step, operator_step, other_step, after_step, step, step_in, run}

-- ---- kinds in lists

abbrev pub Each : (Kind → Type 0) → List Kind → Type 0
Each P [] = Unit
Each P (a ∷ l) = (P a) × (Each P l)

pub each : (P : Kind → Type 0) (l : List Kind) → Each P l → (k : Kind) → among l k ≡ true → P k
unfolding among
each P [] h k e = absurd (clash (sym e))
each P (a ∷ l) h k e =
    ⊎_elim (λ q. subst P (sym (same-is k a q)) h.0) (λ q. each P l h.1 k q) (or_cases (same k a) (among l k) e)

-- a test, by its two cases
pub by-test : {A : Type 0} (P : A → Type 0) (b : Bool) (x y : A) → (b ≡ true → P x) → (b ≡ false → P y) → P (cond b x y)
by-test P true x y f g = f refl
by-test P false x y f g = g refl

-- ---- functions

abbrev pub words : List Kind
words = LENGTH ∷ INDEX ∷ SUBSTR ∷ MATCH ∷ []

abbrev pub NotTested : Mode → Type 0
NotTested fresh = Unit
NotTested plain = Unit
NotTested against = Unit
NotTested tested = ⊥

abbrev pub Loose : Mode → Type 0
Loose fresh = Unit
Loose plain = Unit
Loose against = ⊥
Loose tested = ⊥

abbrev pub joined : List Kind
joined = NUMBER ∷ STRING ∷ open_paren ∷ dollar ∷ user_name ∷ variable ∷ fixed_variable ∷ []

-- kinds that begin no operator and no operand
abbrev pub quiet : List Kind
quiet = text_end ∷ newline ∷ open_brace ∷ close_brace ∷ close_paren ∷ comma ∷ semicolon ∷ []

-- kinds that begin an operand
abbrev pub operands : List Kind
operands = bang ∷ plus ∷ minus ∷ dollar ∷ NUMBER ∷ STRING ∷ ERE ∷ fixed_variable ∷ user_name ∷ variable ∷ open_paren ∷ []

-- kinds that begin none
abbrev pub idle : List Kind
idle =
    text_end ∷ newline ∷ open_brace ∷ close_brace ∷ close_paren ∷ comma ∷ semicolon ∷ ELSE ∷ IF ∷ WHILE ∷ PRINT ∷ EXIT ∷ NEXT ∷ BEGIN ∷ END ∷ []

-- ---- modes

pub settle-twice : (m : Mode) → settle (settle m) ≡ settle m
settle-twice fresh = refl
settle-twice plain = refl
settle-twice against = refl
settle-twice tested = refl

pub settled : (m : Mode) → NotTested m → NotTested (settle m)
settled fresh h = h
settled plain h = h
settled against h = h
settled tested h = h

unsettled : (m : Mode) → NotTested (settle m) → NotTested m
unsettled fresh h = h
unsettled plain h = h
unsettled against h = h
unsettled tested h = h

pub keep : (m n : Mode) → settle n ≡ settle m → NotTested m → NotTested n
keep m n e h = unsettled n (subst NotTested (sym e) (settled m h))

loose-settled : (m : Mode) → Loose m → Loose (settle m)
loose-settled fresh h = h
loose-settled plain h = h
loose-settled against h = h
loose-settled tested h = h

loose-unsettled : (m : Mode) → Loose (settle m) → Loose m
loose-unsettled fresh h = h
loose-unsettled plain h = h
loose-unsettled against h = h
loose-unsettled tested h = h

pub keep-loose : (m n : Mode) → settle n ≡ settle m → Loose m → Loose n
keep-loose m n e h = loose-unsettled n (subst Loose (sym e) (loose-settled m h))

pub loose-not : (m : Mode) → Loose m → NotTested m
loose-not fresh h = h
loose-not plain h = h
loose-not against h = tt
loose-not tested h = h

module _ (edition : ℕ) where
  pub no-function : (k : Kind) → among words k ≡ false → function_of edition k ≡ none
  unfolding function_in among
  no-function k h =
      let a = or-false (same k LENGTH) _ h in
      let b = or-false (same k INDEX) _ a.1 in
      let c = or-false (same k SUBSTR) _ b.1 in
      let d = or-false (same k MATCH) _ c.1 in
      simp (a.0, b.0, c.0, d.0, and-false)

  pub function-word : (k : Kind) (f : Function) → function_of edition k ≡ some f → among words k ≡ true
  function-word k f h = go (among words k) refl
    where
      go : (b : Bool) → among words k ≡ b → among words k ≡ true
      go true e = e
      go false e = absurd (none-some (sym (no-function k e) ∙ h))

  -- ---- tiers

  pub tier-product : (p : Bool) (k : Kind) → among (star ∷ slash ∷ percent ∷ []) k ≡ true → tier_of edition p k ≡ products
  unfolding tier_of operator_in rank
  tier-product true k h = each (λ k. tier_of edition true k ≡ products) _ (refl, (refl, (refl, tt))) k h
  tier-product false k h = each (λ k. tier_of edition false k ≡ products) _ (refl, (refl, (refl, tt))) k h

  pub tier-sum : (p : Bool) (k : Kind) → among (plus ∷ minus ∷ []) k ≡ true → tier_of edition p k ≡ sums
  unfolding tier_of operator_in rank
  tier-sum true k h = each (λ k. tier_of edition true k ≡ sums) _ (refl, (refl, tt)) k h
  tier-sum false k h = each (λ k. tier_of edition false k ≡ sums) _ (refl, (refl, tt)) k h

  pub tier-and : (p : Bool) → tier_of edition p and_and ≡ conjunctions
  unfolding tier_of operator_in rank
  tier-and true = refl
  tier-and false = refl

  pub tier-or : (p : Bool) → tier_of edition p or_or ≡ disjunctions
  unfolding tier_of operator_in rank
  tier-or true = refl
  tier-or false = refl

  pub tier-compared : (k : Kind) → among comparisons k ≡ true → tier_of edition false k ≡ compared
  unfolding tier_of operator_in rank
  tier-compared k h = each (λ k. tier_of edition false k ≡ compared) _ (refl, (refl, (refl, (refl, (refl, (refl, tt)))))) k h

  pub tier-printed : (k : Kind) → among comparisons k ≡ true → same k greater ≡ false → tier_of edition true k ≡ compared
  unfolding tier_of
  tier-printed k h g = rw g (tier-compared k h)

  pub tier-still : (p : Bool) (k : Kind) → same k greater ≡ false → operator_in k binary ≡ none → among joined k ≡ false → among words k ≡ false
      → tier_of edition p k ≡ fields
  unfolding tier_of starts_joined
  tier-still p k g o j w = simp (g, o, j, no-function k w, and-false)

  pub tier-quiet : (p : Bool) (k : Kind) → among quiet k ≡ true → tier_of edition p k ≡ fields
  unfolding operator_in rank among
  tier-quiet p k h =
      let known = each (λ k. (same k greater ≡ false) × (operator_in k binary ≡ none) × (among joined k ≡ false) × (among words k ≡ false)) quiet
      ((refl, refl, refl, refl), ((refl, refl, refl, refl), ((refl, refl, refl, refl), ((refl, refl, refl, refl), ((refl, refl, refl, refl), ((refl, refl, refl, refl), ((refl, refl, refl, refl), tt))))))) k h in
      tier-still p k known.0 known.1 known.2 known.3

  -- ---- runs

  pub run_none : (l : List Kind) → run edition l none ≡ none
  unfolding run
  run_none [] = refl
  run_none (k ∷ l) = run_none l

  pub run-append : (a b : List Kind) (x : Option State) → run edition (a ++ b) x ≡ run edition b (run edition a x)
  unfolding run
  run-append [] b x = refl
  run-append (k ∷ a) b x = run-append a b (step_in edition x k)

  -- a run from what one kind gives
  abbrev pub from : (Kind → Option State) → List Kind → Option State
  from f [] = none
  from f (k ∷ l) = run edition l (f k)

  pub from_then : (f : Kind → Option State) (a b : List Kind) (x : State) → from f a ≡ some x → from f (a ++ b) ≡ run edition b (some x)
  from_then f [] b x h = absurd (none-some h)
  from_then f (k ∷ a) b x h = run-append a b (f k) ∙ ap (run edition b) h

  -- what is done after an operand, by the tier of the kind
  pub after-tier : (m : Mode) (c : Context) (k : Kind) (n : ℕ) → tier_of edition (printed c) k ≡ n
      → after_step edition m c k ≡ cond (eqb (tier_after m n) fields) (other_step edition m c k) (operator_step edition m c k (tier_after m n))
  unfolding after_step
  after-tier m c k n e = rw e

  pub after-product : (m : Mode) (c : Context) (k : Kind) → NotTested m → among (star ∷ slash ∷ percent ∷ []) k ≡ true
      → after_step edition m c k ≡ some (operand (settle m) c)
  unfolding tier_after operator_step
  after-product fresh c k n h = after-tier fresh c k products (tier-product (printed c) k h)
  after-product plain c k n h = after-tier plain c k products (tier-product (printed c) k h)
  after-product against c k n h = after-tier against c k products (tier-product (printed c) k h)
  after-product tested c k n h = absurd n

  pub after-sum : (m : Mode) (c : Context) (k : Kind) → NotTested m → among (plus ∷ minus ∷ []) k ≡ true
      → after_step edition m c k ≡ some (operand (settle m) c)
  unfolding tier_after operator_step
  after-sum fresh c k n h = after-tier fresh c k sums (tier-sum (printed c) k h)
  after-sum plain c k n h = after-tier plain c k sums (tier-sum (printed c) k h)
  after-sum against c k n h = after-tier against c k sums (tier-sum (printed c) k h)
  after-sum tested c k n h = absurd n

  pub after-joined : (m : Mode) (c : Context) (k : Kind) → NotTested m → tier_of edition (printed c) k ≡ concatenations
      → after_step edition m c k ≡ operand_step edition (settle m) c k
  unfolding tier_after operator_step
  after-joined fresh c k n h = after-tier fresh c k concatenations h
  after-joined plain c k n h = after-tier plain c k concatenations h
  after-joined against c k n h = after-tier against c k concatenations h
  after-joined tested c k n h = absurd n

  pub after-compared : (m : Mode) (c : Context) (k : Kind) → Loose m → tier_of edition (printed c) k ≡ compared
      → after_step edition m c k ≡ some (operand against c)
  unfolding tier_after operator_step
  after-compared fresh c k n h = after-tier fresh c k compared h
  after-compared plain c k n h = after-tier plain c k compared h
  after-compared against c k n h = absurd n
  after-compared tested c k n h = absurd n

  pub after-and : (m : Mode) (c : Context) → after_step edition m c and_and ≡ some (operand_line plain c)
  unfolding tier_after operator_step
  after-and m c = after-tier m c and_and conjunctions (tier-and (printed c))

  pub after-or : (m : Mode) (c : Context) → after_step edition m c or_or ≡ some (operand_line plain c)
  unfolding tier_after operator_step
  after-or m c = after-tier m c or_or disjunctions (tier-or (printed c))

  -- what is no operator comes after the whole expression
  pub after-quiet : (m : Mode) (c : Context) (k : Kind) → among quiet k ≡ true → after_step edition m c k ≡ exit c k
  unfolding tier_after other_step among rank
  after-quiet m c k h =
      let known = each (λ k. (among (tilde ∷ no_match ∷ []) k ≡ false) × (same k assign ≡ false)) quiet
      ((refl, refl), ((refl, refl), ((refl, refl), ((refl, refl), ((refl, refl), ((refl, refl), ((refl, refl), tt))))))) k h in
      after-tier m c k fields (tier-quiet (printed c) k h) ∙ go m known.0 known.1
    where
      go : (m : Mode) → among (tilde ∷ no_match ∷ []) k ≡ false → same k assign ≡ false
          → cond (eqb (tier_after m fields) fields) (other_step edition m c k) (operator_step edition m c k (tier_after m fields)) ≡ exit c k
      go fresh a b = rw (a, b)
      go plain a b = rw (a, b)
      go against a b = rw (a, b)
      go tested a b = rw (a, b)

  -- ---- operands

  pub no_operand : (m : Mode) (c : Context) (k : Kind) → among operands k ≡ false → function_of edition k ≡ none → operand_step edition m c k ≡ none
  unfolding operand_step field_step primary_step among
  no_operand m c k h n =
      let a = or-false (same k bang) _ h in
      let b = or-false (same k plus) _ a.1 in
      let d = or-false (same k minus) _ b.1 in
      let e = or-false (same k dollar) _ d.1 in
      let f = or-false (same k NUMBER) _ e.1 in
      let g = or-false (same k STRING) _ f.1 in
      let i = or-false (same k ERE) _ g.1 in
      let j = or-false (same k fixed_variable) _ i.1 in
      let u = or-false (same k user_name) _ j.1 in
      let v = or-false (same k variable) _ u.1 in
      let w = or-false (same k open_paren) _ v.1 in
      rw (a.0, b.0, d.0, e.0, f.0, g.0, i.0, j.0, u.0, v.0, w.0, n)

  pub idle-operand : (m : Mode) (c : Context) (k : Kind) → among idle k ≡ true → operand_step edition m c k ≡ none
  unfolding among rank
  idle-operand m c k h =
      let two : (k : Kind) → Type 0 = λ k. (among operands k ≡ false) × (among words k ≡ false) in
      let known = each two idle ((refl, refl), ((refl, refl), ((refl, refl), ((refl, refl), ((refl, refl), ((refl, refl), ((refl, refl), ((refl, refl), ((refl, refl), ((refl, refl), ((refl, refl), ((refl, refl), ((refl, refl), ((refl, refl), ((refl, refl), tt))))))))))))))) k h in
      no_operand m c k known.0 (no-function k known.1)

  -- a run that begins at a state that takes a kind as f does, or where f takes none
  abbrev pub Begins : State → (Kind → Option State) → Type 0
  Begins x f = (k : Kind) → (f k ≡ none) ⊎ (step edition x k ≡ f k)

  pub begun : (x y : State) (f : Kind → Option State) (l : List Kind) → Begins x f → from f l ≡ some y → run edition l (some x) ≡ some y
  unfolding run
  begun x y f [] b h = absurd (none-some h)
  begun x y f (k ∷ l) b h =
      ⊎_elim (λ e. absurd (none-some (sym (run_none l) ∙ (ap (run edition l) (sym e) ∙ h)))) (λ e. ap (run edition l) e ∙ h) (b k)

  pub from-operand : (m : Mode) (c : Context) → Begins (operand m c) (operand_step edition m c)
  unfolding step
  from-operand m c k = inr refl

  pub from-line : (m : Mode) (c : Context) → Begins (operand_line m c) (operand_step edition m c)
  unfolding step among rank
  from-line m c k =
      by-test (λ x. (operand_step edition m c k ≡ none) ⊎ (x ≡ operand_step edition m c k)) (same k newline) _ _
      (λ e. inl (ap (operand_step edition m c) (same-is k newline e) ∙ idle-operand m c newline refl)) (λ e. inr refl)

  pub from_field : (m : Mode) (c : Context) → Begins (operand_field m c) (field_step edition m m c)
  unfolding step
  from_field m c k = inr refl

  -- ---- concatenations

  tier-called : (p : Bool) (k : Kind) (f : Function) → function_of edition k ≡ some f → same k greater ≡ false → operator_in k binary ≡ none → among joined k ≡ false
      → tier_of edition p k ≡ concatenations
  unfolding tier_of starts_joined
  tier-called p k f h a b d = simp (a, b, d, h, and-false)

  function-joins : (p : Bool) (k : Kind) (f : Function) → function_of edition k ≡ some f → tier_of edition p k ≡ concatenations
  unfolding operator_in among rank
  function-joins p k f h =
      let three : (k : Kind) → Type 0 = λ k. (same k greater ≡ false) × (operator_in k binary ≡ none) × (among joined k ≡ false) in
      let known = each three words ((refl, refl, refl), ((refl, refl, refl), ((refl, refl, refl), ((refl, refl, refl), tt)))) k (function-word k f h) in
      tier-called p k f h known.0 known.1 known.2

  value-joins : (p : Bool) (k : Kind) → among joined k ≡ true → tier_of edition p k ≡ concatenations
  unfolding tier_of starts_joined operator_in among rank
  value-joins true k h = each (λ k. tier_of edition true k ≡ concatenations) joined (refl, (refl, (refl, (refl, (refl, (refl, (refl, tt))))))) k h
  value-joins false k h = each (λ k. tier_of edition false k ≡ concatenations) joined (refl, (refl, (refl, (refl, (refl, (refl, (refl, tt))))))) k h

  -- what begins an operand, and is no ERE and no prefix, joins
  pub joins : (p : Bool) (m : Mode) (c : Context) (k : Kind) → among (ERE ∷ prefixes) k ≡ false
      → (operand_step edition m c k ≡ none) ⊎ (tier_of edition p k ≡ concatenations)
  unfolding among
  joins p m c k h = go (among joined k) refl (function_of edition k) refl
    where
      go : (b : Bool) → among joined k ≡ b → (o : Option Function) → function_of edition k ≡ o
          → (operand_step edition m c k ≡ none) ⊎ (tier_of edition p k ≡ concatenations)
      go true e o f = inr (value-joins p k e)
      go false e none f =
          let a = or-false (same k ERE) _ h in
          let b = or-false (same k bang) _ a.1 in
          let d = or-false (same k plus) _ b.1 in
          let u = or-false (same k minus) _ d.1 in
          let n = or-false (same k NUMBER) _ e in
          let q = or-false (same k STRING) _ n.1 in
          let r = or-false (same k open_paren) _ q.1 in
          let s = or-false (same k dollar) _ r.1 in
          let t = or-false (same k user_name) _ s.1 in
          let v = or-false (same k variable) _ t.1 in
          let w = or-false (same k fixed_variable) _ v.1 in
          inl (no_operand m c k (rw (a.0, b.0, d.0, u.0, n.0, q.0, r.0, s.0, t.0, v.0, w.0)) f)
      go false e (some x) f = inr (function-joins p k x f)

  -- ---- what follows an operand and is no operator of a tier

  pub tier-other : (p : Bool) (k : Kind) → among (tilde ∷ no_match ∷ assign ∷ []) k ≡ true → tier_of edition p k ≡ fields
  unfolding operator_in rank among
  tier-other p k h =
      let known = each (λ k. (same k greater ≡ false) × (operator_in k binary ≡ none) × (among joined k ≡ false) × (among words k ≡ false)) (tilde ∷ no_match ∷ assign ∷ [])
      ((refl, refl, refl, refl), ((refl, refl, refl, refl), ((refl, refl, refl, refl), tt))) k h in
      tier-still p k known.0 known.1 known.2 known.3

  pub after-match : (m : Mode) (c : Context) (k : Kind) → NotTested m → among (tilde ∷ no_match ∷ []) k ≡ true → after_step edition m c k ≡ some (ere_next c)
  unfolding tier_after other_step among rank
  after-match m c k n h =
      after-tier m c k fields (tier-other (printed c) k (each (λ k. among (tilde ∷ no_match ∷ assign ∷ []) k ≡ true) (tilde ∷ no_match ∷ []) (refl, (refl, tt)) k h)) ∙ go m n
    where
      go : (m : Mode) → NotTested m
          → cond (eqb (tier_after m fields) fields) (other_step edition m c k) (operator_step edition m c k (tier_after m fields)) ≡ some (ere_next c)
      go fresh n = rw h
      go plain n = rw h
      go against n = rw h
      go tested n = absurd n

  pub after-assign : (c : Context) → after_step edition fresh c assign ≡ some (operand fresh c)
  unfolding tier_after other_step among rank
  after-assign c = after-tier fresh c assign fields (tier-other (printed c) assign refl)

  -- ---- what an expression begins with

  starts-still : (k : Kind) → among joined k ≡ false → among words k ≡ false → among (ERE ∷ prefixes) k ≡ false → starts_expression edition k ≡ false
  unfolding starts_expression starts_joined
  starts-still k a b d = rw (a, no-function k b, d)

  pub quiet-starts : (k : Kind) → among quiet k ≡ true → starts_expression edition k ≡ false
  unfolding among rank
  quiet-starts k h =
      let three : (k : Kind) → Type 0 = λ k. (among joined k ≡ false) × (among words k ≡ false) × (among (ERE ∷ prefixes) k ≡ false) in
      let known = each three quiet ((refl, refl, refl), ((refl, refl, refl), ((refl, refl, refl), ((refl, refl, refl), ((refl, refl, refl), ((refl, refl, refl), ((refl, refl, refl), tt))))))) k h in
      starts-still k known.0 known.1 known.2

  called-none : (k : Kind) → is_function (function_of edition k) ≡ false → function_of edition k ≡ none
  called-none k h = go (function_of edition k) refl
    where
      go : (o : Option Function) → function_of edition k ≡ o → function_of edition k ≡ none
      go none e = e
      go (some f) e = absurd (clash (sym (ap is_function e) ∙ h))

  pub operand-starts : (m : Mode) (c : Context) (k : Kind) → starts_expression edition k ≡ false → operand_step edition m c k ≡ none
  unfolding starts_expression starts_joined among
  operand-starts m c k h =
      let x = or-false (starts_joined edition k) _ h in
      let y = or-false (among joined k) (is_function (function_of edition k)) x.0 in
      let a = or-false (same k ERE) _ x.1 in
      let b = or-false (same k bang) _ a.1 in
      let d = or-false (same k plus) _ b.1 in
      let u = or-false (same k minus) _ d.1 in
      let n = or-false (same k NUMBER) _ y.0 in
      let q = or-false (same k STRING) _ n.1 in
      let r = or-false (same k open_paren) _ q.1 in
      let s = or-false (same k dollar) _ r.1 in
      let t = or-false (same k user_name) _ s.1 in
      let v = or-false (same k variable) _ t.1 in
      let w = or-false (same k fixed_variable) _ v.1 in
      no_operand m c k (rw (a.0, b.0, d.0, u.0, n.0, q.0, r.0, s.0, t.0, v.0, w.0)) (called-none k y.1)

  -- what begins no operand begins no expression
  called-some : (m : Mode) (c : Context) (k : Kind) → call_step edition m c (function_of edition k) ≡ none → function_of edition k ≡ none
  called-some m c k h = go (function_of edition k) refl
    where
      go : (o : Option Function) → function_of edition k ≡ o → function_of edition k ≡ none
      go none e = e
      go (some f) e = absurd (none-some (sym (sym (ap (call_step edition m c) e) ∙ h)))

  none-begins : (k : Kind) → among prefixes k ≡ false → same k dollar ≡ false → among (NUMBER ∷ STRING ∷ ERE ∷ fixed_variable ∷ []) k ≡ false → among targets k ≡ false
      → same k open_paren ≡ false → function_of edition k ≡ none → starts_expression edition k ≡ false
  unfolding starts_expression starts_joined among
  none-begins k q1 q2 q3 q4 q5 q6 =
      let a = or-false (same k bang) _ q1 in
      let b = or-false (same k plus) _ a.1 in
      let d = or-false (same k minus) _ b.1 in
      let n = or-false (same k NUMBER) _ q3 in
      let t = or-false (same k STRING) _ n.1 in
      let e = or-false (same k ERE) _ t.1 in
      let f = or-false (same k fixed_variable) _ e.1 in
      let u = or-false (same k user_name) _ q4 in
      let v = or-false (same k variable) _ u.1 in
      rw (a.0, b.0, d.0, q2, n.0, t.0, e.0, f.0, u.0, v.0, q5, q6)

  pub nothing-starts : (m : Mode) (c : Context) (k : Kind) → operand_step edition m c k ≡ none → starts_expression edition k ≡ false
  unfolding operand_step field_step primary_step
  nothing-starts m c k =
      let P : Option State → Type 0 = λ o. o ≡ none → starts_expression edition k ≡ false in
      by-test P (among prefixes k) _ _ (λ q e. absurd (none-some (sym e)))
      (λ q1. by-test P (same k dollar) _ _ (λ q e. absurd (none-some (sym e)))
      (λ q2. by-test P (among (NUMBER ∷ STRING ∷ ERE ∷ fixed_variable ∷ []) k) _ _ (λ q e. absurd (none-some (sym e)))
      (λ q3. by-test P (among targets k) _ _ (λ q e. absurd (none-some (sym e)))
      (λ q4. by-test P (same k open_paren) _ _ (λ q e. absurd (none-some (sym e)))
      (λ q5 e. none-begins k q1 q2 q3 q4 q5 (called-some (settle m) c k e))))))
