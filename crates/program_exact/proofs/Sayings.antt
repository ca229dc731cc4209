-- The tree of an expression that is read is the one that each derivation of its tokens says.
use mathlib.Core.Path.{◌≡◌, refl, sym, ap, subst, ◌∙◌}
use mathlib.Core.Bool.{Bool, true, false, cond, ◌||◌}
use mathlib.Core.List.{List, [], ◌∷◌, ◌++◌}
use mathlib.Core.Option.{Option, some, none}
use mathlib.Core.Logic.{◌⊎◌, inl, inr, ⊎_elim}
use Prim.Native.Nat.{ℕ, zero, suc, ◌+◌, ◌≤◌, ◌<◌}
use native.Mathlib.Omega.{arith}
use lib.ListN.{length}
use lib.Dec.{eqb}
use borrow.Author.Tests.{ne_eqb, eq-eqb}
use Rattle.lists.proofs.Tests.{clash, or-false}
use Rattle.lists.proofs.Options.{none-some}
use Rattle.edition.specs.Outcomes.{size_passed}
use Rattle.program_tokens.specs.Kinds.{Kind, text_end, newline, bad, bad-ere, NUMBER, STRING, ERE, fixed_variable, open_paren, close_paren, comma, dollar, assign as assign-kind, tilde, no_match as no-match-kind, or_or, and_and, plus, minus, star, percent, slash, div_assign, same, among, rank}
use Rattle.program_tokens.specs.Tokens.{Token, is, is_one_of, token_after, as_operand, ere_in, spelling}
use Rattle.program_tokens.proofs.Ranks.{same-is}
use Rattle.program_tree.specs.Tree.{Expression, variable, parentheses as parentheses-tree, field, prefix as prefix-tree, matches, no_match, assign, assign_field}
use Rattle.program_tree.specs.Functions.{Shape, an_expression, an_ere, Call, Function, function_of}
use Rattle.program_grammar.specs.Sets.{names, targets, prefixes, comparisons}
use Rattle.program_grammar.specs.Grammar.{Newlines, none as no-newline, more as newline-more, Place, in_print, elsewhere, Compares, any, no_greater, Part, expression, disjunction, conjunction, matching, comparison, concatenation, sum, product, prefixed, field as field-part, primary, argument, arguments, Form, to_name, to_field, value as value-form, or, no_or, and, no_and, match, no_ere, compare, no_compare, join, no_join, add, no_add, multiply, no_multiply, prefix, no_prefix, of_field, no_field, one_token, parentheses, call as call-form, last_argument, next_argument, expression_argument, ere_argument as ere-form}
use Rattle.program_reader.specs.Read.{Read, ok, no, map, bind, operand_after, past_in, past_newlines}
use Rattle.program_reader.specs.Operators.{tier_of, tree_of, prefix_of}
use Rattle.program_reader.specs.Expressions.{assign_to, closed, argument as argument-of, arguments as arguments-of, call as call-of, calling, primary as primary-of, field_form, prefix_form, right_of, more, match_with, matching as matching-of, assigned, assignment, step_tier, tier, inside, expression_at}
use Rattle.program_parser.specs.Reading.{Good as InText}
use Rattle.program_parser.proofs.Tokens.{ere-kind, Slashes, Again, good-after, good-operand}
use Rattle.program_exact.specs.Trees.{first, rest, head, tail, Said, said, leaf, applied}
use Rattle.program_exact.specs.Machine.{Mode, fresh, plain, action, Context, listed, pattern, State, after, call_step, primary_step, field_step, operand_step, run}
use Rattle.program_exact.proofs.Facts.{each, by-test, words, operands, quiet, function-word, no-function, no_operand, run_none, from, tier-product, tier-sum, tier-and, tier-or, tier-compared, tier-printed, tier-quiet, tier-other, joins}
use Rattle.program_exact.proofs.Forms.{At, one_of, not-prefix, runs}
use Rattle.program_exact.proofs.Walks.{after-in, operand-after-in, onward-after, onward-operand, operand-still, operand-test}
use Rattle.program_exact.proofs.Bodies.{fuelled}
use Rattle.program_exact.proofs.Kept.{has-shapes}
use Rattle.program_exact.proofs.Meaning.{NonEmpty}
use Rattle.program_exact.proofs.Operands.{named}
use Rattle.program_tokens.specs.Words.{word_kind}

-- the kinds of tokens
abbrev pub kinds_of : List Token → List Kind
kinds_of [] = []
kinds_of (t ∷ ts) = t.kind ∷ kinds_of ts

abbrev pub first_kind : List Kind → Kind
first_kind [] = text_end
first_kind (k ∷ l) = k

abbrev pub other_kinds : List Kind → List Kind
other_kinds [] = []
other_kinds (k ∷ l) = l

abbrev pub IsEmpty : List Kind → Type 0
IsEmpty [] = Unit
IsEmpty (k ∷ l) = ⊥

-- a kind that a token has only as it is
abbrev pub Raw : Kind → Type 0
Raw k = among (ERE ∷ bad ∷ bad-ere ∷ []) k ≡ false

module _ (edition : ℕ) (s : List ℕ) where
  abbrev pub Follow : Token → Token → Type 0
  Follow t v = (v ≡ token_after edition s t) ⊎ (v ≡ operand_after edition s t)

  -- tokens from one on, up to another
  abbrev pub Trail : Token → List Token → Token → Type 0
  Trail t [] u = t ≡ u
  Trail t (a ∷ ts) u = (v : Token) × (a ≡ t) × (Follow t v) × (Trail v ts u)

  pub record Cut (l m : List Kind) (t : Token) (ts : List Token) (u : Token) : Type 0 where
    pub middle : Token
    pub left : Trail t (first l ts) middle
    pub right : Trail middle (rest l ts) u
    pub left-kinds : kinds_of (first l ts) ≡ l
    pub right-kinds : kinds_of (rest l ts) ≡ m

  pub cut : (l m : List Kind) (t : Token) (ts : List Token) (u : Token) → kinds_of ts ≡ l ++ m → Trail t ts u → Cut l m t ts u
  cut [] m t ts u e w = record { middle = t; left = refl; right = w; left-kinds = refl; right-kinds = e }
  cut (k ∷ l) m t [] u e w = absurd (subst IsEmpty e tt)
  cut (k ∷ l) m t (a ∷ ts) u e w =
      let i = cut l m w.0 ts u (ap other_kinds e) w.3 in
      record {
        middle = i.middle;
        left = (w.0, w.1, w.2, i.left);
        right = i.right;
        left-kinds = subst (λ (j : Kind). a.kind ∷ kinds_of (first l ts) ≡ j ∷ l) (ap first_kind e) (ap (λ (x : List Kind). a.kind ∷ x) i.left-kinds);
        right-kinds = i.right-kinds;
      }

  pub record OneStep (k : Kind) (l : List Kind) (t : Token) (ts : List Token) (u : Token) : Type 0 where
    pub next : Token
    pub kind : t.kind ≡ k
    pub follow : Follow t next
    pub trail : Trail next (tail ts) u
    pub kinds : kinds_of (tail ts) ≡ l
    pub here : head ts ≡ t

  pub one-step : (k : Kind) (l : List Kind) (t : Token) (ts : List Token) (u : Token) → kinds_of ts ≡ k ∷ l → Trail t ts u → OneStep k l t ts u
  one-step k l t [] u e w = absurd (subst IsEmpty e tt)
  one-step k l t (a ∷ ts) u e w =
      record { next = w.0; kind = sym (ap (λ (x : Token). x.kind) w.1) ∙ ap first_kind e; follow = w.2; trail = w.3; kinds = ap other_kinds e; here = w.1 }

  -- a token, and as it is read: as it is, or again where an operand may be
  abbrev pub Reread : Token → Token → Type 0
  Reread x v = (v ≡ x) ⊎ (v ≡ as_operand edition s x)

  pub raw-again : (x v : Token) → Reread x v → Raw v.kind → v ≡ x
  unfolding as_operand among rank
  raw-again x v (inl e) h = e
  raw-again x v (inr e) h =
      by-test (λ (y : Token). v ≡ y → v ≡ x) (is_one_of Slashes x) (Again edition s x) x
      (λ q f. absurd (clash (sym (ere-kind (λ (k : Kind). among (ERE ∷ bad ∷ bad-ere ∷ []) k ≡ true) refl refl refl edition _ _ _) ∙ (sym (ap (λ (y : Token). among (ERE ∷ bad ∷ bad-ere ∷ []) y.kind) f) ∙ h))))
      (λ q f. f) e

  pub operand-again : (x v : Token) → Reread x v → among Slashes v.kind ≡ false → v ≡ as_operand edition s x
  operand-again x v (inr e) h = e
  operand-again x v (inl e) h = e ∙ sym (operand-still edition s x (sym (ap (λ (y : Token). among Slashes y.kind) e) ∙ h))

  -- how the next token is read
  pub raw-next : (t v : Token) → Follow t v → Raw v.kind → v ≡ token_after edition s t
  raw-next t v f h = raw-again (token_after edition s t) v f h

  pub operand-next : (t v : Token) → Follow t v → among Slashes v.kind ≡ false → v ≡ operand_after edition s t
  operand-next t v f h = operand-again (token_after edition s t) v f h

  pub next-in : (t v : Token) → Follow t v → InText edition s 0 t → InText edition s 0 v
  next-in t v (inl e) g = subst (InText edition s 0) (sym e) (after-in edition s t g)
  next-in t v (inr e) g = subst (InText edition s 0) (sym e) (operand-after-in edition s t g)

  pub next-on : (t v : Token) → Follow t v → InText edition s 0 t → same t.kind text_end ≡ false → t.start < v.start
  next-on t v (inl e) g n = subst (λ (x : Token). t.start < x.start) (sym e) (onward-after edition s t g n)
  next-on t v (inr e) g n = subst (λ (x : Token). t.start < x.start) (sym e) (onward-operand edition s t g n)

  pub trail-in : (t : Token) (ts : List Token) (u : Token) → InText edition s 0 t → Trail t ts u → InText edition s 0 u
  trail-in t [] u g w = subst (InText edition s 0) w g
  trail-in t (a ∷ ts) u g w = trail-in w.0 ts u (next-in t w.0 w.2 g) w.3

  -- ---- tokens that may follow

  -- each of some kinds is one that may be passed
  abbrev pub AllOf : List Kind → List Kind → Type 0
  AllOf ks [] = Unit
  AllOf ks (k ∷ n) = (among ks k ≡ true) × (AllOf ks n)

  -- kinds that a token has only as it is, and not at the text's end
  abbrev pub Passed : List Kind → Type 0
  Passed ks = ((k : Kind) → among ks k ≡ true → (Raw k) × (same k text_end ≡ false))
      × ((x : Token) → is_one_of ks (as_operand edition s x) ≡ is_one_of ks x)

  past-still : (ks : List Kind) (i : ℕ) (x : Token) → is_one_of ks x ≡ false → past_in edition s ks i x ≡ x
  unfolding past_in
  past-still ks zero x q = refl
  past-still ks (suc i) x q = rw q

  pub past-turn : (ks : List Kind) (i : ℕ) (x : Token) → is_one_of ks x ≡ true → past_in edition s ks (suc i) x ≡ past_in edition s ks i (token_after edition s x)
  unfolding past_in
  past-turn ks i x q = rw q

  -- tokens of such kinds are passed, up to the first of another kind
  pub past-trail : (ks : List Kind) → Passed ks → (n : List Kind) → AllOf ks n → (i : ℕ) (x v : Token) (ts : List Token) (w : Token) → InText edition s 0 x → length s ≤ i + x.start
      → Reread x v → kinds_of ts ≡ n → Trail v ts w → among ks w.kind ≡ false → among Slashes w.kind ≡ false
      → as_operand edition s (past_in edition s ks i x) ≡ w
  past-trail ks p [] z i x v [] w g f h e k a b =
      let read : w ≡ as_operand edition s x = sym k ∙ operand-again x v h (ap (λ (y : Token). among Slashes y.kind) k ∙ b) in
      ap (as_operand edition s) (past-still ks i x (sym (p.1 x) ∙ (ap (λ (y : Token). is_one_of ks y) (sym read) ∙ a))) ∙ sym read
  past-trail ks p [] z i x v (c ∷ ts) w g f h e k a b = absurd (subst IsEmpty (sym e) tt)
  past-trail ks p (j ∷ n) z i x v [] w g f h e k a b = absurd (subst IsEmpty e tt)
  past-trail ks p (j ∷ n) z i x v (c ∷ ts) w g f h e k a b =
      let kind : v.kind ≡ j = sym (ap (λ (y : Token). y.kind) k.1) ∙ ap first_kind e in
      let two = p.0 j z.0 in
      let own : v ≡ x = raw-again x v h (ap (among (ERE ∷ bad ∷ bad-ere ∷ [])) kind ∙ two.0) in
      let kind-x : x.kind ≡ j = ap (λ (y : Token). y.kind) (sym own) ∙ kind in
      let no_end : same x.kind text_end ≡ false = ap (λ (j : Kind). same j text_end) kind-x ∙ two.1 in
      let fuel = fuelled edition s x i g no_end f in
      let on : x.start < (token_after edition s x).start = onward-after edition s x g no_end in
      ap (λ (m : ℕ). as_operand edition s (past_in edition s ks m x)) fuel.1
      ∙ (ap (as_operand edition s) (past-turn ks fuel.0 x (ap (among ks) kind-x ∙ z.0))
      ∙ past-trail ks p n z.1 fuel.0 (token_after edition s x) k.0 ts w (after-in edition s x g) (omega (arith, f, on, fuel.1)) (subst (λ (y : Token). Follow y k.0) own k.2) (ap other_kinds e) k.3 a b)

  pub all_lines : (n : List Kind) → Newlines n → AllOf (newline ∷ []) n
  unfolding among rank
  all_lines _ no-newline = tt
  all_lines _ (newline-more {l = n} d) = (refl, all_lines n d)

  pub lines-passed : Passed (newline ∷ [])
  unfolding among rank
  lines-passed = (
    λ k q. each (λ k. (Raw k) × (same k text_end ≡ false)) (newline ∷ []) ((refl, refl), tt) k q,
    λ x. ap (λ (b : Bool). b || false) (operand-test edition s newline x (refl, refl, refl, refl, refl)),
  )

  lines-trail : (n : List Kind) → Newlines n → (i : ℕ) (t v : Token) (ts : List Token) (w : Token) → InText edition s 0 t → same t.kind text_end ≡ false → length s ≤ i + (token_after edition s t).start
      → Follow t v → kinds_of ts ≡ n → Trail v ts w → same w.kind newline ≡ false → among Slashes w.kind ≡ false
      → as_operand edition s (past_in edition s (newline ∷ []) i (token_after edition s t)) ≡ w
  unfolding among
  lines-trail n d i t v ts w g z f h e k a b =
      past-trail (newline ∷ []) lines-passed n (all_lines n d) i (token_after edition s t) v ts w (after-in edition s t g) f h e k (rw a) b

  -- ---- answers

  -- the answer is 6, and a number is less than the text's length
  abbrev pub Deep6 : ℕ → Read Expression → Type 0
  Deep6 n r = (place : ℕ) × (r ≡ no size_passed place) × (n < length s)

  -- or what was read, and the token after it; the number is that of the levels that are left, and of the bytes before
  -- what is read: where it is great enough, the answer isn't 6
  abbrev pub Exact : ℕ → Read Expression → Expression → Token → Type 0
  Exact n r e u = (Deep6 n r) ⊎ (r ≡ ok e u)

  pub weaker : (m n : ℕ) (r : Read Expression) (e : Expression) (u : Token) → m ≤ n → Exact n r e u → Exact m r e u
  weaker m n r e u h (inl d) = inl (d.0, d.1, omega (arith, h, d.2))
  weaker m n r e u h (inr q) = inr q

  abbrev pub Tier : ℕ → Bool → ℕ → Token → Read Expression
  Tier levels p n t = tier edition s (inside edition s levels) p n t

  abbrev pub Loop : ℕ → Bool → ℕ → ℕ → Read Expression → Read Expression
  Loop levels p n i r = more edition s p (suc n) (tier edition s (inside edition s levels) p n) i r

  abbrev pub Looped : ℕ → Bool → ℕ → Token → Expression → Token → Type 0
  Looped levels p n t e u = (Deep6 (levels + t.start) (Loop levels p n (length s) (Tier levels p n t)))
      ⊎ ((j : ℕ) × (length s ≤ j + u.start) × (Loop levels p n (length s) (Tier levels p n t) ≡ Loop levels p n j (ok e u)))

  abbrev pub Halt : Bool → ℕ → Kind → Type 0
  Halt p n k = (tier_of edition p k ≡ 0) ⊎ (n < tier_of edition p k)

  halt-lower : (p : Bool) (n : ℕ) (k : Kind) → Halt p (suc n) k → Halt p n k
  halt-lower p n k (inl e) = inl e
  halt-lower p n k (inr e) = inr (omega (arith, e))

  halt-not : (p : Bool) (n : ℕ) (k : Kind) → Halt p (suc n) k → eqb (tier_of edition p k) (suc n) ≡ false
  halt-not p n k (inl e) = ne_eqb (tier_of edition p k) (suc n) (λ z. omega (arith, e, z))
  halt-not p n k (inr e) = ne_eqb (tier_of edition p k) (suc n) (λ z. omega (arith, e, z))

  loop-deep : (levels : ℕ) (p : Bool) (n i place : ℕ) → Loop levels p n i (no size_passed place) ≡ no size_passed place
  unfolding more
  loop-deep levels p n zero place = refl
  loop-deep levels p n (suc i) place = refl

  loop-stop : (levels : ℕ) (p : Bool) (n i : ℕ) (e : Expression) (u : Token) → eqb (tier_of edition p u.kind) (suc n) ≡ false → Loop levels p n i (ok e u) ≡ ok e u
  unfolding more
  loop-stop levels p n zero e u q = refl
  loop-stop levels p n (suc i) e u q = rw q

  loop-turn : (levels : ℕ) (p : Bool) (n i : ℕ) (e : Expression) (u : Token) → eqb (tier_of edition p u.kind) (suc n) ≡ true
      → Loop levels p n (suc i) (ok e u) ≡ Loop levels p n i (map (tree_of u.kind e) (Tier levels p n (right_of edition s (suc n) u)))
  unfolding more
  loop-turn levels p n i e u q = rw q

  loop-start : (levels : ℕ) (p : Bool) (n : ℕ) (t : Token) (e : Expression) (u : Token) → Exact (levels + t.start) (Tier levels p n t) e u → Looped levels p n t e u
  loop-start levels p n t e u (inl d) = inl (d.0, ap (Loop levels p n (length s)) d.1 ∙ loop-deep levels p n (length s) d.0, d.2)
  loop-start levels p n t e u (inr q) = inr (length s, omega arith, ap (Loop levels p n (length s)) q)

  loop-exact : (levels : ℕ) (p : Bool) (n : ℕ) (t : Token) (e : Expression) (u : Token) → Halt p (suc n) u.kind → Looped levels p n t e u
      → Exact (levels + t.start) (Loop levels p n (length s) (Tier levels p n t)) e u
  loop-exact levels p n t e u h (inl d) = inl d
  loop-exact levels p n t e u h (inr z) = inr (z.2 ∙ loop-stop levels p n z.0 e u (halt-not p n u.kind h))

  loop-more : (levels : ℕ) (p : Bool) (n : ℕ) (t : Token) (e : Expression) (w : Token) (a : Expression) (u : Token) (q : ℕ) → InText edition s 0 w → same w.kind text_end ≡ false
      → w.start < u.start → levels + t.start ≤ q → tier_of edition p w.kind ≡ suc n → Looped levels p n t e w → Exact q (Tier levels p n (right_of edition s (suc n) w)) a u
      → Looped levels p n t (tree_of w.kind e a) u
  loop-more levels p n t e w a u m g z on le q (inl d) x = inl d
  loop-more levels p n t e w a u m g z on le q (inr l) x =
      let f = fuelled edition s w l.0 g z l.1 in
      let counted : l.0 ≡ suc f.0 = f.1 in
      let r : Read Expression = Tier levels p n (right_of edition s (suc n) w) in
      let to : Loop levels p n (length s) (Tier levels p n t) ≡ Loop levels p n f.0 (map (tree_of w.kind e) r) =
      l.2 ∙ (ap (λ (j : ℕ). Loop levels p n j (ok e w)) counted ∙ loop-turn levels p n f.0 e w (eq-eqb (tier_of edition p w.kind) (suc n) q)) in
      ⊎_elim
      (λ d. inl (d.0, to ∙ (ap (λ (y : Read Expression). Loop levels p n f.0 (map (tree_of w.kind e) y)) d.1 ∙ loop-deep levels p n f.0 d.0), omega (arith, le, d.2)))
      (λ y. inr (f.0, omega (arith, l.1, counted, on), to ∙ ap (λ (y : Read Expression). Loop levels p n f.0 (map (tree_of w.kind e) y)) y)) x

  -- ---- a form's tokens

  -- tokens of these kinds lead from the first to the token after them, which is no ERE
  pub record Span (l : List Kind) (t : Token) (ts : List Token) (u : Token) : Type 0 where
    pub good : InText edition s 0 t
    pub kinds : kinds_of ts ≡ l
    pub trail : Trail t ts u
    pub raw : Raw u.kind

  next_le : (t v : Token) → Follow t v → InText edition s 0 t → t.start ≤ v.start
  next_le t v (inl e) g = subst (λ (x : Token). t.start ≤ x.start) (sym e) (omega (arith, (good-after edition s 0 t g).after, g.ordered))
  next_le t v (inr e) g =
      subst (λ (x : Token). t.start ≤ x.start) (sym e) (omega (arith, (good-operand edition s t.stop (token_after edition s t) (good-after edition s 0 t g)).after, g.ordered))

  pub trail-on : (t : Token) (ts : List Token) (u : Token) → InText edition s 0 t → Trail t ts u → t.start ≤ u.start
  trail-on t [] u g w = subst (λ (x : Token). t.start ≤ x.start) w (omega arith)
  trail-on t (a ∷ ts) u g w = omega (arith, next_le t w.0 w.2 g, trail-on w.0 ts u (next-in t w.0 w.2 g) w.3)

  abbrev pub Starts : Kind → Type 0
  Starts k = (among Slashes k ≡ false) × (same k newline ≡ false) × (same k text_end ≡ false)

  pub first_of : (l : List Kind) (t : Token) (ts : List Token) (u : Token) → kinds_of ts ≡ l → Trail t ts u → (IsEmpty l → ⊥) → t.kind ≡ first_kind l
  first_of l t [] u e w n = absurd (n (subst IsEmpty e tt))
  first_of l t (a ∷ ts) u e w n = sym (ap (λ (x : Token). x.kind) w.1) ∙ ap first_kind e

  no-slash-operand : (m : Mode) (c : Context) (k : Kind) → among (slash ∷ div_assign ∷ newline ∷ text_end ∷ []) k ≡ true → operand_step edition m c k ≡ none
  unfolding among rank
  no-slash-operand m c k h =
      let two : (k : Kind) → Type 0 = λ k. (among operands k ≡ false) × (among words k ≡ false) in
      let both = each two (slash ∷ div_assign ∷ newline ∷ text_end ∷ []) ((refl, refl), ((refl, refl), ((refl, refl), ((refl, refl), tt)))) k h in
      no_operand edition m c k both.0 (no-function edition k both.1)

  starts-form : (m : Mode) (c : Context) (x : State) (l : List Kind) → from edition (operand_step edition m c) l ≡ some x → (IsEmpty l → ⊥) × (Starts (first_kind l))
  unfolding among
  starts-form m c x [] h = absurd (none-some h)
  starts-form m c x (k ∷ l) h =
      let none_of = decide (among (slash ∷ div_assign ∷ newline ∷ text_end ∷ []) k) refl in
      let a = or-false (same k slash) _ none_of in
      let b = or-false (same k div_assign) _ a.1 in
      let d = or-false (same k newline) _ b.1 in
      let f = or-false (same k text_end) _ d.1 in
      ((λ z. z), (rw (a.0, b.0), d.0, f.0))
    where
      decide : (b : Bool) → among (slash ∷ div_assign ∷ newline ∷ text_end ∷ []) k ≡ b → among (slash ∷ div_assign ∷ newline ∷ text_end ∷ []) k ≡ false
      decide false e = e
      decide true e = absurd (none-some (sym (run_none edition l) ∙ (ap (run edition l) (sym (no-slash-operand m c k e)) ∙ h)))

  -- what a form begins with
  span-starts : (m : Mode) (c : Context) (x : State) (l : List Kind) (t : Token) (ts : List Token) (u : Token) → from edition (operand_step edition m c) l ≡ some x → kinds_of ts ≡ l → Trail t ts u
      → Starts t.kind
  span-starts m c x l t ts u h e w =
      let i = starts-form m c x l h in
      subst Starts (sym (first_of l t ts u e w i.0)) i.1

  context_of : Place → Context
  context_of in_print = listed 0 (action true)
  context_of elsewhere = pattern

  context-at : (p : Place) → At p (context_of p)
  unfolding context_of
  context-at in_print = refl
  context-at elsewhere = refl

  abbrev pub IsAt : Place → Bool → Type 0
  IsAt in_print b = b ≡ true
  IsAt elsewhere b = b ≡ false

  -- what is shown of each form
  abbrev pub Spoken : (part : Part) (l : List Kind) → Form edition part l → Type 0
  Spoken (expression p) l d = (levels : ℕ) (b : Bool) (t : Token) (ts : List Token) (u : Token) → IsAt p b → Span l t ts u → among quiet u.kind ≡ true
      → Exact (levels + t.start) (Tier levels b 10 t) (said edition s d ts) u
  Spoken (disjunction p) l d = (levels : ℕ) (b : Bool) (t : Token) (ts : List Token) (u : Token) → IsAt p b → Span l t ts u → Halt b 8 u.kind
      → among (tilde ∷ no-match-kind ∷ []) u.kind ≡ false → Looped levels b 8 t (said edition s d ts) u
  Spoken (conjunction p) l d = (levels : ℕ) (b : Bool) (t : Token) (ts : List Token) (u : Token) → IsAt p b → Span l t ts u → Halt b 7 u.kind
      → among (tilde ∷ no-match-kind ∷ []) u.kind ≡ false → Looped levels b 7 t (said edition s d ts) u
  Spoken (matching p) l d = (levels : ℕ) (b : Bool) (t : Token) (ts : List Token) (u : Token) → IsAt p b → Span l t ts u → Halt b 7 u.kind
      → among (tilde ∷ no-match-kind ∷ []) u.kind ≡ false → Exact (levels + t.start) (Tier levels b 7 t) (said edition s d ts) u
  Spoken (comparison p) l d = (levels : ℕ) (b : Bool) (t : Token) (ts : List Token) (u : Token) → IsAt p b → Span l t ts u → Halt b 5 u.kind → Exact (levels + t.start) (Tier levels b 5 t) (said edition s d ts) u
  Spoken concatenation l d = (levels : ℕ) (b : Bool) (t : Token) (ts : List Token) (u : Token) → Span l t ts u → Halt b 3 u.kind → Looped levels b 3 t (said edition s d ts) u
  Spoken sum l d = (levels : ℕ) (b : Bool) (t : Token) (ts : List Token) (u : Token) → Span l t ts u → Halt b 2 u.kind → Looped levels b 2 t (said edition s d ts) u
  Spoken product l d = (levels : ℕ) (b : Bool) (t : Token) (ts : List Token) (u : Token) → Span l t ts u → Looped levels b 1 t (said edition s d ts) u
  Spoken prefixed l d = (levels : ℕ) (b : Bool) (t : Token) (ts : List Token) (u : Token) → Span l t ts u → Exact (levels + t.start) (Tier levels b 1 t) (said edition s d ts) u
  Spoken field-part l d = (levels : ℕ) (b : Bool) (t : Token) (ts : List Token) (u : Token) → Span l t ts u → Exact (levels + t.start) (Tier levels b 0 t) (said edition s d ts) u
  Spoken primary l d = (levels : ℕ) (t : Token) (ts : List Token) (u : Token) → Span l t ts u → Exact (levels + t.start) (primary-of edition s (inside edition s levels) t) (said edition s d ts) u
  Spoken (argument an_expression) l d = (levels : ℕ) (o t : Token) (ts : List Token) (u : Token) → Span l t ts u → among quiet u.kind ≡ true → o.start < t.start
      → Exact (levels + o.start) (inside edition s levels false 10 o t) (said edition s d ts) u
  Spoken (argument an_ere) l d = (t : Token) (ts : List Token) (u : Token) → Span l t ts u → (t.kind ≡ ERE) × (u ≡ token_after edition s t) × (said edition s d ts ≡ ere_in s t)
  Spoken (arguments []) l d = Unit
  Spoken (arguments (x ∷ xs)) l d = (levels : ℕ) (o : Token) (f : Call (x ∷ xs)) (t : Token) (ts : List Token) (u : Token) → Span l t ts u → u.kind ≡ close_paren → o.start < t.start
      → Exact (levels + o.start) (argument-of edition s (inside edition s levels) o x xs f t (arguments-of edition s (inside edition s levels) o false xs)) (said edition s d ts f) u

  -- ---- two forms and a kind between them

  record Pieces (l : List Kind) (k : Kind) (r : List Kind) (t : Token) (ts : List Token) (u : Token) : Type 0 where
    middle : Token
    next : Token
    left : Span l t (first l ts) middle
    kind : middle.kind ≡ k
    good : InText edition s 0 middle
    follow : Follow middle next
    right : Span r next (tail (rest l ts)) u
    onward : middle.start < u.start
    begin : t.start ≤ middle.start
    over : middle.start < next.start
    whole : Span (k ∷ r) middle (rest l ts) u
    here : head (rest l ts) ≡ middle

  pieces : (l : List Kind) (k : Kind) (r : List Kind) (t : Token) (ts : List Token) (u : Token) → Raw k → same k text_end ≡ false → Span (l ++ (k ∷ r)) t ts u → Pieces l k r t ts u
  pieces l k r t ts u a z p =
      let c = cut l (k ∷ r) t ts u p.kinds p.trail in
      let o = one-step k r c.middle (rest l ts) u c.right-kinds c.right in
      let w : Token = c.middle in
      let g : InText edition s 0 w = trail-in t (first l ts) w p.good c.left in
      let gv : InText edition s 0 o.next = next-in w o.next o.follow g in
      let on : w.start < o.next.start = next-on w o.next o.follow g (ap (λ (j : Kind). same j text_end) o.kind ∙ z) in
      let far : o.next.start ≤ u.start = trail-on o.next (tail (rest l ts)) u gv o.trail in
      record {
        middle = w;
        next = o.next;
        left = record { good = p.good; kinds = c.left-kinds; trail = c.left; raw = ap (among (ERE ∷ bad ∷ bad-ere ∷ [])) o.kind ∙ a };
        kind = o.kind;
        good = g;
        follow = o.follow;
        right = record { good = gv; kinds = o.kinds; trail = o.trail; raw = p.raw };
        onward = omega (arith, on, far);
        begin = trail-on t (first l ts) w p.good c.left;
        over = on;
        whole = record { good = g; kinds = c.right-kinds; trail = c.right; raw = p.raw };
        here = o.here;
      }

  abbrev StartsAll : List Kind → Type 0
  StartsAll r = (v : Token) (ts : List Token) (u : Token) → kinds_of ts ≡ r → Trail v ts u → Starts v.kind

  -- a turn of a loop whose right operand is after the operator
  turn-case : (levels : ℕ) (b : Bool) (n : ℕ) (l : List Kind) (k : Kind) (r : List Kind) (t : Token) (ts : List Token) (u : Token) (x y : Expression) → Raw k → same k text_end ≡ false
      → tier_of edition b k ≡ suc n → ((w : Token) → right_of edition s (suc n) w ≡ operand_after edition s w) → StartsAll r → Span (l ++ (k ∷ r)) t ts u
      → ((w : Token) → Span l t (first l ts) w → Halt b n w.kind → Looped levels b n t x w)
      → ((v : Token) → Span r v (tail (rest l ts)) u → Exact (levels + v.start) (Tier levels b n v) y u) → Looped levels b n t (tree_of k x y) u
  turn-case levels b n l k r t ts u x y a z q at st p left right =
      let i = pieces l k r t ts u a z p in
      let w : Token = i.middle in
      let tier-w : tier_of edition b w.kind ≡ suc n = ap (tier_of edition b) i.kind ∙ q in
      let begins = st i.next (tail (rest l ts)) u i.right.kinds i.right.trail in
      let own : i.next ≡ right_of edition s (suc n) w = operand-next w i.next i.follow begins.0 ∙ sym (at w) in
      subst (λ (j : Kind). Looped levels b n t (tree_of j x y) u) i.kind
      (loop-more levels b n t x w y u (levels + i.next.start) i.good (ap (λ (j : Kind). same j text_end) i.kind ∙ z) i.onward (omega (arith, i.begin, i.over)) tier-w (left w i.left (inr (omega (arith, tier-w))))
      (subst (λ (v : Token). Exact (levels + i.next.start) (Tier levels b n v) y u) own (right i.next i.right)))

  join-case : (levels : ℕ) (b : Bool) (l : List Kind) (k : Kind) (r : List Kind) (t : Token) (ts : List Token) (u : Token) (x y : Expression) → Raw k → same k text_end ≡ false
      → tier_of edition b k ≡ 4 → Span (l ++ (k ∷ r)) t ts u → ((w : Token) → Span l t (first l ts) w → Halt b 3 w.kind → Looped levels b 3 t x w)
      → ((v : Token) → Span (k ∷ r) v (rest l ts) u → Exact (levels + v.start) (Tier levels b 3 v) y u) → Looped levels b 3 t (tree_of k x y) u
  unfolding right_of
  join-case levels b l k r t ts u x y a z q p left right =
      let i = pieces l k r t ts u a z p in
      let w : Token = i.middle in
      let tier-w : tier_of edition b w.kind ≡ 4 = ap (tier_of edition b) i.kind ∙ q in
      subst (λ (j : Kind). Looped levels b 3 t (tree_of j x y) u) i.kind
      (loop-more levels b 3 t x w y u (levels + w.start) i.good (ap (λ (j : Kind). same j text_end) i.kind ∙ z) i.onward (omega (arith, i.begin)) tier-w (left w i.left (inr (omega (arith, tier-w)))) (right w i.whole))

  -- a turn whose right operand newlines may come before
  line-case : (levels : ℕ) (b : Bool) (n : ℕ) (l : List Kind) (k : Kind) (m r : List Kind) (t : Token) (ts : List Token) (u : Token) (x y : Expression) → Raw k → same k text_end ≡ false
      → tier_of edition b k ≡ suc n → ((w : Token) → right_of edition s (suc n) w ≡ past_newlines edition s (token_after edition s w)) → Newlines m → StartsAll r → Span (l ++ (k ∷ (m ++ r))) t ts u
      → ((w : Token) → Span l t (first l ts) w → w.kind ≡ k → Halt b n w.kind → Looped levels b n t x w)
      → ((v : Token) → Span r v (rest m (tail (rest l ts))) u → Exact (levels + v.start) (Tier levels b n v) y u) → Looped levels b n t (tree_of (head (rest l ts)).kind x y) u
  line-case levels b n l k m r t ts u x y a z q at nl st p left right =
      let i = pieces l k (m ++ r) t ts u a z p in
      let w : Token = i.middle in
      let tier-w : tier_of edition b w.kind ≡ suc n = ap (tier_of edition b) i.kind ∙ q in
      let c = cut m r i.next (tail (rest l ts)) u i.right.kinds i.right.trail in
      let v : Token = c.middle in
      let gv : InText edition s 0 v = trail-in i.next (first m (tail (rest l ts))) v i.right.good c.left in
      let begins = st v (rest m (tail (rest l ts))) u c.right-kinds c.right in
      let no_end : same w.kind text_end ≡ false = ap (λ (j : Kind). same j text_end) i.kind ∙ z in
      let far : i.next.start ≤ v.start = trail-on i.next (first m (tail (rest l ts))) v i.right.good c.left in
      let own : right_of edition s (suc n) w ≡ v =
      at w ∙ lines-trail m nl (length s) w i.next (first m (tail (rest l ts))) v i.good no_end (omega arith) i.follow c.left-kinds c.left begins.1 begins.0 in
      subst (λ (j : Token). Looped levels b n t (tree_of j.kind x y) u) (sym i.here)
      (loop-more levels b n t x w y u (levels + v.start) i.good no_end i.onward (omega (arith, i.begin, i.over, far)) tier-w (left w i.left i.kind (inr (omega (arith, tier-w))))
      (subst (λ (j : Token). Exact (levels + v.start) (Tier levels b n j) y u) (sym own) (right v (record { good = gv; kinds = c.right-kinds; trail = c.right; raw = p.raw }))))

  -- ---- from tier to tier

  exact-map : (f : Expression → Expression) (n : ℕ) (r : Read Expression) (e : Expression) (u : Token) → Exact n r e u → Exact n (map f r) (f e) u
  exact-map f n r e u (inl d) = inl (d.0, ap (map f) d.1, d.2)
  exact-map f n r e u (inr q) = inr (ap (map f) q)

  one_up : (levels : ℕ) (b : Bool) (t : Token) (e : Expression) (u : Token) → is_one_of prefixes t ≡ false → Exact (levels + t.start) (Tier levels b 0 t) e u → Exact (levels + t.start) (Tier levels b 1 t) e u
  unfolding tier step_tier prefix_form
  one_up levels b t e u q h = subst (λ (r : Read Expression). Exact (levels + t.start) r e u) (sym (rw q)) h

  two_up : (levels : ℕ) (b : Bool) (t : Token) (e : Expression) (u : Token) → Halt b 2 u.kind → Looped levels b 1 t e u → Exact (levels + t.start) (Tier levels b 2 t) e u
  unfolding tier step_tier
  two_up levels b t e u h l = loop-exact levels b 1 t e u h l

  three_up : (levels : ℕ) (b : Bool) (t : Token) (e : Expression) (u : Token) → Halt b 3 u.kind → Looped levels b 2 t e u → Exact (levels + t.start) (Tier levels b 3 t) e u
  unfolding tier step_tier
  three_up levels b t e u h l = loop-exact levels b 2 t e u h l

  four-up : (levels : ℕ) (b : Bool) (t : Token) (e : Expression) (u : Token) → Halt b 4 u.kind → Looped levels b 3 t e u → Exact (levels + t.start) (Tier levels b 4 t) e u
  unfolding tier step_tier
  four-up levels b t e u h l = loop-exact levels b 3 t e u h l

  five-up : (levels : ℕ) (b : Bool) (t : Token) (e : Expression) (u : Token) → Halt b 5 u.kind → Exact (levels + t.start) (Tier levels b 4 t) e u → Exact (levels + t.start) (Tier levels b 5 t) e u
  unfolding tier step_tier
  five-up levels b t e u h (inl d) = inl (d.0, ap (Loop levels b 4 1) d.1 ∙ loop-deep levels b 4 1 d.0, d.2)
  five-up levels b t e u h (inr q) = inr (ap (Loop levels b 4 1) q ∙ loop-stop levels b 4 1 e u (halt-not b 4 u.kind h))

  unmatched : (e : Expression) (u : Token) → is_one_of (tilde ∷ no-match-kind ∷ []) u ≡ false → matching-of edition s (ok e u) ≡ ok e u
  unfolding matching-of
  unmatched e u q = rw q

  matched-deep : (place : ℕ) → matching-of edition s (no size_passed place) ≡ no size_passed place
  unfolding matching-of
  matched-deep place = refl

  six-up : (levels : ℕ) (b : Bool) (t : Token) (e : Expression) (u : Token) → is_one_of (tilde ∷ no-match-kind ∷ []) u ≡ false → Exact (levels + t.start) (Tier levels b 5 t) e u → Exact (levels + t.start) (Tier levels b 6 t) e u
  unfolding tier step_tier
  six-up levels b t e u h (inl d) = inl (d.0, ap (matching-of edition s) d.1 ∙ matched-deep d.0, d.2)
  six-up levels b t e u h (inr q) = inr (ap (matching-of edition s) q ∙ unmatched e u h)

  seven-up : (levels : ℕ) (b : Bool) (t : Token) (e : Expression) (u : Token) → Halt b 7 u.kind → Exact (levels + t.start) (Tier levels b 6 t) e u → Exact (levels + t.start) (Tier levels b 7 t) e u
  unfolding tier step_tier
  seven-up levels b t e u h x = loop-exact levels b 6 t e u h (loop-start levels b 6 t e u x)

  eight-up : (levels : ℕ) (b : Bool) (t : Token) (e : Expression) (u : Token) → Halt b 8 u.kind → Looped levels b 7 t e u → Exact (levels + t.start) (Tier levels b 8 t) e u
  unfolding tier step_tier
  eight-up levels b t e u h l = loop-exact levels b 7 t e u h l

  nine-up : (levels : ℕ) (b : Bool) (t : Token) (e : Expression) (u : Token) → Halt b 9 u.kind → Looped levels b 8 t e u → Exact (levels + t.start) (Tier levels b 9 t) e u
  unfolding tier step_tier
  nine-up levels b t e u h l = loop-exact levels b 8 t e u h l

  -- a field form before what is no operator but `=`
  nine-of : (levels : ℕ) (b : Bool) (t : Token) (e : Expression) (u : Token) → tier_of edition b u.kind ≡ 0 → is_one_of (tilde ∷ no-match-kind ∷ []) u ≡ false → is_one_of prefixes t ≡ false
      → Exact (levels + t.start) (Tier levels b 0 t) e u → Exact (levels + t.start) (Tier levels b 9 t) e u
  nine-of levels b t e u z n q h =
      let a2 = two_up levels b t e u (inl z) (loop-start levels b 1 t e u (one_up levels b t e u q h)) in
      let a3 = three_up levels b t e u (inl z) (loop-start levels b 2 t e u a2) in
      let a4 = four-up levels b t e u (inl z) (loop-start levels b 3 t e u a3) in
      let a7 = seven-up levels b t e u (inl z) (six-up levels b t e u n (five-up levels b t e u (inl z) a4)) in
      let a8 = eight-up levels b t e u (inl z) (loop-start levels b 7 t e u a7) in
      nine-up levels b t e u (inl z) (loop-start levels b 8 t e u a8)

  -- ---- comparisons and matches

  compared-run : (levels : ℕ) (b : Bool) (x : Expression) (w : Token) → tier_of edition b w.kind ≡ 5
      → Loop levels b 4 1 (ok x w) ≡ map (tree_of w.kind x) (Tier levels b 4 (operand_after edition s w))
  unfolding more right_of
  compared-run levels b x w q = rw (eq-eqb (tier_of edition b w.kind) 5 q)

  compare-case : (levels : ℕ) (b : Bool) (l : List Kind) (k : Kind) (r : List Kind) (t : Token) (ts : List Token) (u : Token) (x y : Expression) → Raw k → same k text_end ≡ false
      → tier_of edition b k ≡ 5 → StartsAll r → Span (l ++ (k ∷ r)) t ts u → ((w : Token) → Span l t (first l ts) w → Halt b 4 w.kind → Exact (levels + t.start) (Tier levels b 4 t) x w)
      → ((v : Token) → Span r v (tail (rest l ts)) u → Exact (levels + v.start) (Tier levels b 4 v) y u) → Exact (levels + t.start) (Tier levels b 5 t) (tree_of k x y) u
  unfolding tier step_tier
  compare-case levels b l k r t ts u x y a z q st p left right =
      let i = pieces l k r t ts u a z p in
      let w : Token = i.middle in
      let tier-w : tier_of edition b w.kind ≡ 5 = ap (tier_of edition b) i.kind ∙ q in
      let begins = st i.next (tail (rest l ts)) u i.right.kinds i.right.trail in
      let own : i.next ≡ operand_after edition s w = operand-next w i.next i.follow begins.0 in
      let r2 = weaker (levels + t.start) (levels + i.next.start) (map (tree_of w.kind x) (Tier levels b 4 (operand_after edition s w))) (tree_of w.kind x y) u (omega (arith, i.begin, i.over))
      (exact-map (tree_of w.kind x) (levels + i.next.start) (Tier levels b 4 (operand_after edition s w)) y u
      (subst (λ (v : Token). Exact (levels + i.next.start) (Tier levels b 4 v) y u) own (right i.next i.right))) in
      ⊎_elim
      (λ d. inl (d.0, ap (Loop levels b 4 1) d.1 ∙ loop-deep levels b 4 1 d.0, d.2))
      (λ e. subst (λ (j : Kind). Exact (levels + t.start) (Tier levels b 5 t) (tree_of j x y) u) i.kind
      (subst (λ (m : Read Expression). Exact (levels + t.start) m (tree_of w.kind x y) u) (sym (ap (Loop levels b 4 1) e ∙ compared-run levels b x w tier-w)) r2))
      (left w i.left (inr (omega (arith, tier-w))))

  matched-run : (x : Expression) (k : Kind) (w v : Token) → w.kind ≡ k → among (tilde ∷ no-match-kind ∷ []) k ≡ true → operand_after edition s w ≡ v → v.kind ≡ ERE
      → matching-of edition s (ok x w) ≡ ok (cond (same k tilde) (matches x (ere_in s v)) (no_match x (ere_in s v))) (token_after edition s v)
  unfolding matching-of match_with rank
  matched-run x k w v e q o f =
      let one : is_one_of (tilde ∷ no-match-kind ∷ []) w ≡ true = ap (among (tilde ∷ no-match-kind ∷ [])) e ∙ q in
      let two : is ERE v ≡ true = ap (λ (j : Kind). same j ERE) f in
      rw (one, o, two, e)

  ended : (ts : List Token) (x u : Token) → kinds_of ts ≡ [] → Trail x ts u → x ≡ u
  ended [] x u e w = w
  ended (c ∷ ts) x u e w = absurd (subst IsEmpty (sym e) tt)

  match-case : (levels : ℕ) (b : Bool) (l : List Kind) (k : Kind) (t : Token) (ts : List Token) (u : Token) (x : Expression) → Raw k → same k text_end ≡ false
      → tier_of edition b k ≡ 0 → among (tilde ∷ no-match-kind ∷ []) k ≡ true → Span (l ++ (k ∷ ERE ∷ [])) t ts u
      → ((w : Token) → Span l t (first l ts) w → Halt b 5 w.kind → Exact (levels + t.start) (Tier levels b 5 t) x w)
      → Exact (levels + t.start) (Tier levels b 6 t) (cond (same k tilde) (matches x (ere_in s (head (tail (rest l ts))))) (no_match x (ere_in s (head (tail (rest l ts)))))) u
  unfolding tier step_tier among rank
  match-case levels b l k t ts u x a z q m p left =
      let i = pieces l k (ERE ∷ []) t ts u a z p in
      let w : Token = i.middle in
      let o = one-step ERE [] i.next (tail (rest l ts)) u i.right.kinds i.right.trail in
      let v : Token = i.next in
      let own : v ≡ operand_after edition s w = operand-next w v i.follow (ap (among Slashes) o.kind) in
      let last : Follow v u = subst (Follow v) (ended (tail (tail (rest l ts))) o.next u o.kinds o.trail) o.follow in
      let after-v : u ≡ token_after edition s v = raw-next v u last p.raw in
      let said-tree : Expression = cond (same k tilde) (matches x (ere_in s (head (tail (rest l ts))))) (no_match x (ere_in s (head (tail (rest l ts))))) in
      ⊎_elim
      (λ d. inl (d.0, ap (matching-of edition s) d.1 ∙ matched-deep d.0, d.2))
      (λ e. inr (ap (matching-of edition s) e ∙ (matched-run x k w v i.kind m (sym own) o.kind
      ∙ (ap (λ (j : Token). ok (cond (same k tilde) (matches x (ere_in s j)) (no_match x (ere_in s j))) (token_after edition s v)) (sym o.here) ∙ ap (λ (j : Token). ok said-tree j) (sym after-v)))))
      (left w i.left (inl (ap (tier_of edition b) i.kind ∙ q)))

  -- ---- levels

  -- a form one level further in
  pub inner-exact : (levels : ℕ) (b : Bool) (n : ℕ) (o t : Token) (e : Expression) (u : Token) → o.start < t.start → InText edition s 0 t → ((l : ℕ) → Exact (l + t.start) (Tier l b n t) e u)
      → Exact (levels + o.start) (inside edition s levels b n o t) e u
  unfolding inside
  inner-exact zero b n o t e u on g h = inl (o.start, refl, omega (arith, on, g.ordered, g.within))
  inner-exact (suc l) b n o t e u on g h = weaker (suc l + o.start) (l + t.start) (Tier l b n t) e u (omega (arith, on)) (h l)

  -- ---- prefixes and `$`

  prefix-run : (levels : ℕ) (b : Bool) (t : Token) → is_one_of prefixes t ≡ true
      → Tier levels b 1 t ≡ map (prefix-tree (prefix_of t.kind)) (inside edition s levels false 1 t (operand_after edition s t))
  unfolding tier step_tier prefix_form
  prefix-run levels b t q = rw q

  prefix-goes : (k : Kind) → among prefixes k ≡ true → same k text_end ≡ false
  unfolding among rank
  prefix-goes k q = each (λ k. same k text_end ≡ false) prefixes (refl, (refl, (refl, tt))) k q

  prefix-case : (levels : ℕ) (b : Bool) (k : Kind) (l : List Kind) (t : Token) (ts : List Token) (u : Token) (x : Expression) → among prefixes k ≡ true → StartsAll l → Span (k ∷ l) t ts u
      → ((m : ℕ) (v : Token) → Span l v (tail ts) u → Exact (m + v.start) (Tier m false 1 v) x u) → Exact (levels + t.start) (Tier levels b 1 t) (prefix-tree (prefix_of k) x) u
  prefix-case levels b k l t ts u x q st p h =
      let o = one-step k l t ts u p.kinds p.trail in
      let v : Token = o.next in
      let begins = st v (tail ts) u o.kinds o.trail in
      let own : v ≡ operand_after edition s t = operand-next t v o.follow begins.0 in
      let pv : Span l v (tail ts) u = record { good = next-in t v o.follow p.good; kinds = o.kinds; trail = o.trail; raw = p.raw } in
      let no_end : same t.kind text_end ≡ false = ap (λ (j : Kind). same j text_end) o.kind ∙ prefix-goes k q in
      let i : Exact (levels + t.start) (inside edition s levels false 1 t (operand_after edition s t)) x u =
      subst (λ (j : Token). Exact (levels + t.start) (inside edition s levels false 1 t j) x u) own
      (inner-exact levels false 1 t v x u (next-on t v o.follow p.good no_end) pv.good (λ m. h m v pv)) in
      subst (λ (j : Kind). Exact (levels + t.start) (Tier levels b 1 t) (prefix-tree (prefix_of j) x) u) o.kind
      (subst (λ (r : Read Expression). Exact (levels + t.start) r (prefix-tree (prefix_of t.kind) x) u) (sym (prefix-run levels b t (ap (among prefixes) o.kind ∙ q)))
      (exact-map (prefix-tree (prefix_of t.kind)) (levels + t.start) (inside edition s levels false 1 t (operand_after edition s t)) x u i))

  field-run : (levels : ℕ) (b : Bool) (t : Token) → is dollar t ≡ true → Tier levels b 0 t ≡ map field (inside edition s levels false 0 t (operand_after edition s t))
  unfolding tier field_form
  field-run levels b t q = rw q

  dollar-case : (levels : ℕ) (b : Bool) (l : List Kind) (t v : Token) (ts : List Token) (u : Token) (x : Expression) → t.kind ≡ dollar → Follow t v → t.start < v.start → StartsAll l → Span l v ts u
      → ((m : ℕ) → Exact (m + v.start) (Tier m false 0 v) x u) → Exact (levels + t.start) (Tier levels b 0 t) (field x) u
  unfolding rank
  dollar-case levels b l t v ts u x k f on st p h =
      let begins = st v ts u p.kinds p.trail in
      let own : v ≡ operand_after edition s t = operand-next t v f begins.0 in
      let i : Exact (levels + t.start) (inside edition s levels false 0 t (operand_after edition s t)) x u =
      subst (λ (j : Token). Exact (levels + t.start) (inside edition s levels false 0 t j) x u) own (inner-exact levels false 0 t v x u on p.good h) in
      subst (λ (r : Read Expression). Exact (levels + t.start) r (field x) u) (sym (field-run levels b t (ap (λ (j : Kind). same j dollar) k)))
      (exact-map field (levels + t.start) (inside edition s levels false 0 t (operand_after edition s t)) x u i)

  no-dollar : (levels : ℕ) (b : Bool) (t : Token) (e : Expression) (u : Token) → is dollar t ≡ false → Exact (levels + t.start) (primary-of edition s (inside edition s levels) t) e u → Exact (levels + t.start) (Tier levels b 0 t) e u
  unfolding tier field_form
  no-dollar levels b t e u q h = subst (λ (r : Read Expression). Exact (levels + t.start) r e u) (sym (rw q)) h

  -- ---- primaries

  token-run : (levels : ℕ) (t : Token) → among (NUMBER ∷ STRING ∷ ERE ∷ names) t.kind ≡ true
      → primary-of edition s (inside edition s levels) t ≡ ok (leaf edition s t.kind t) (token_after edition s t)
  unfolding primary-of leaf among
  token-run levels t q =
      by-test (λ (r : Read Expression). r ≡ ok (leaf edition s t.kind t) (token_after edition s t)) (is NUMBER t) _ _ (λ a. rw a)
      (λ a. by-test (λ (r : Read Expression). r ≡ ok (leaf edition s t.kind t) (token_after edition s t)) (is STRING t) _ _ (λ c. rw (a, c))
      (λ c. by-test (λ (r : Read Expression). r ≡ ok (leaf edition s t.kind t) (token_after edition s t)) (is ERE t) _ _ (λ d. rw (a, c, d))
      (λ d. by-test (λ (r : Read Expression). r ≡ ok (leaf edition s t.kind t) (token_after edition s t)) (is_one_of names t) _ _ (λ f. rw (a, c, d)) (λ f. absurd (clash (sym q ∙ rw (a, c, d, f)))))))

  -- a whole expression in parentheses, at its `(`
  closed-case : (levels : ℕ) (l : List Kind) (o v : Token) (ts : List Token) (u : Token) (x : Expression) → Follow o v → o.start < v.start → StartsAll l → Span (l ++ (close_paren ∷ [])) v ts u
      → ((m : ℕ) (w : Token) → Span l v (first l ts) w → among quiet w.kind ≡ true → Exact (m + v.start) (Tier m false 10 v) x w)
      → Exact (levels + o.start) (closed edition s (inside edition s levels false 10 o (operand_after edition s o))) x u
  unfolding closed among rank
  closed-case levels l o v ts u x f on st p h =
      let i = pieces l close_paren [] v ts u refl refl p in
      let w : Token = i.middle in
      let begins = st v (first l ts) w i.left.kinds i.left.trail in
      let own : v ≡ operand_after edition s o = operand-next o v f begins.0 in
      let last : Follow w u = subst (Follow w) (ended (tail (rest l ts)) i.next u i.right.kinds i.right.trail) i.follow in
      let after-w : u ≡ token_after edition s w = raw-next w u last p.raw in
      let a : Exact (levels + o.start) (inside edition s levels false 10 o (operand_after edition s o)) x w =
      subst (λ (j : Token). Exact (levels + o.start) (inside edition s levels false 10 o j) x w) own (inner-exact levels false 10 o v x w on p.good (λ m. h m w i.left (ap (among quiet) i.kind))) in
      ⊎_elim (λ d. inl (d.0, ap (closed edition s) d.1, d.2))
      (λ e. inr (ap (closed edition s) e ∙ (close-run x w (ap (λ (j : Kind). same j close_paren) i.kind) ∙ ap (λ (j : Token). ok x j) (sym after-w)))) a
    where
      close-run : (x : Expression) (w : Token) → is close_paren w ≡ true → closed edition s (ok x w) ≡ ok x (token_after edition s w)
      close-run x w q = rw q

  group-run : (levels : ℕ) (t : Token) → t.kind ≡ open_paren → primary-of edition s (inside edition s levels) t
      ≡ map parentheses-tree (closed edition s (inside edition s levels false 10 t (operand_after edition s t)))
  unfolding primary-of among rank
  group-run levels t k =
      let a : is NUMBER t ≡ false = ap (λ (j : Kind). same j NUMBER) k in
      let b : is STRING t ≡ false = ap (λ (j : Kind). same j STRING) k in
      let c : is ERE t ≡ false = ap (λ (j : Kind). same j ERE) k in
      let d : is_one_of names t ≡ false = ap (among names) k in
      let e : is open_paren t ≡ true = ap (λ (j : Kind). same j open_paren) k in
      choose-group (is NUMBER t) (is STRING t) (is ERE t) (is_one_of names t) (is open_paren t) a b c d e _ _ _ _ _ _
    where
      choose-group : {A : Type 0} (p q r n o : Bool) → p ≡ false → q ≡ false → r ≡ false → n ≡ false → o ≡ true → (v w x y g z : A)
          → cond p v (cond q w (cond r x (cond n y (cond o g z)))) ≡ g
      choose-group p q r n o a b c d e v w x y g z = rw (a, b, c, d, e)

  -- ---- what forms begin with

  pub starts-expression : (p : Place) (l : List Kind) → Form edition (expression p) l → (IsEmpty l → ⊥) × (Starts (first_kind l))
  starts-expression p l d = let i = runs edition d (context_of p) (context-at p) in starts-form fresh (context_of p) (after i.0 (context_of p)) l i.1

  starts-argument : (x : Shape) (l : List Kind) → Form edition (argument x) l → (IsEmpty l → ⊥) × (Starts (first_kind l))
  unfolding among rank
  starts-argument x l (expression_argument d) = starts-expression elsewhere l d
  starts-argument x l ere-form = ((λ z. z), (refl, refl, refl))

  pub first-append : (l m : List Kind) → (IsEmpty l → ⊥) → first_kind (l ++ m) ≡ first_kind l
  first-append [] m n = absurd (n tt)
  first-append (k ∷ l) m n = refl

  pub still-some : (l m : List Kind) → (IsEmpty l → ⊥) → IsEmpty (l ++ m) → ⊥
  still-some [] m n = λ z. n tt
  still-some (k ∷ l) m n = λ z. z

  starts-arguments : (xs : List Shape) (l : List Kind) → Form edition (arguments xs) l → (IsEmpty l → ⊥) × (Starts (first_kind l))
  starts-arguments xs l (last_argument {x = x} d) = starts-argument x l d
  starts-arguments xs l (next_argument {x = x} {l = a} {n = n} {r = r} d h e) =
      let i = starts-argument x a d in
      (still-some a (comma ∷ (n ++ r)) i.0, subst Starts (sym (first-append a (comma ∷ (n ++ r)) i.0)) i.1)

  all_start : (l : List Kind) → (IsEmpty l → ⊥) × (Starts (first_kind l)) → StartsAll l
  all_start l i v ts u e w = subst Starts (sym (first_of l v ts u e w i.0)) i.1

  -- ---- calls

  call-run : (levels : ℕ) (t : Token) (f : Function) → function_of edition t.kind ≡ some f → primary-of edition s (inside edition s levels) t ≡ call-of edition s (inside edition s levels) f (token_after edition s t)
  unfolding primary-of calling among rank
  call-run levels t f h =
      let five : (k : Kind) → Type 0 = λ k. (same k NUMBER ≡ false) × (same k STRING ≡ false) × (same k ERE ≡ false) × (among names k ≡ false) × (same k open_paren ≡ false) in
      let z = each five words ((refl, refl, refl, refl, refl), ((refl, refl, refl, refl, refl), ((refl, refl, refl, refl, refl), ((refl, refl, refl, refl, refl), tt)))) t.kind (function-word edition t.kind f h) in
      choose-last (is NUMBER t) (is STRING t) (is ERE t) (is_one_of names t) (is open_paren t) z.0 z.1 z.2 z.3 z.4 _ _ _ _ _ _
      ∙ ap (calling edition s (inside edition s levels) t) h
    where
      choose-last : {A : Type 0} (p q r n o : Bool) → p ≡ false → q ≡ false → r ≡ false → n ≡ false → o ≡ false → (v w x y g z : A)
          → cond p v (cond q w (cond r x (cond n y (cond o g z)))) ≡ z
      choose-last p q r n o a b c d e v w x y g z = rw (a, b, c, d, e)

  opened-run : (levels : ℕ) (x : Shape) (xs : List Shape) (f : Call (x ∷ xs)) (u : Token)
      → arguments-of edition s (inside edition s levels) u true (x ∷ xs) f u ≡ argument-of edition s (inside edition s levels) u x xs f (operand_after edition s u) (arguments-of edition s (inside edition s levels) u false xs)
  unfolding arguments-of
  opened-run levels x xs f u = refl

  paren-run : (levels : ℕ) (f : Function) (u : Token) → is open_paren u ≡ true
      → call-of edition s (inside edition s levels) f u ≡ closed edition s (arguments-of edition s (inside edition s levels) u true f.shapes f.tree u)
  unfolding call-of
  paren-run levels f u q = rw q

  close-run : (x : Expression) (w : Token) → is close_paren w ≡ true → closed edition s (ok x w) ≡ ok x (token_after edition s w)
  unfolding closed
  close-run x w q = rw q

  close_deep : (place : ℕ) → closed edition s (no size_passed place) ≡ no size_passed place
  unfolding closed
  close_deep place = refl

  abbrev ArgumentsSay : ℕ → Token → (l : List Shape) → Call l → Token → List Kind → List Token → Expression → Type 0
  ArgumentsSay levels o [] f t l ts e = Unit
  ArgumentsSay levels o (x ∷ xs) f t l ts e = (w : Token) → Span l t (first l ts) w → w.kind ≡ close_paren → o.start < t.start
      → Exact (levels + o.start) (argument-of edition s (inside edition s levels) o x xs f t (arguments-of edition s (inside edition s levels) o false xs)) e w

  called-exact : (levels : ℕ) (xs : List Shape) (f : Call xs) (o v : Token) (l : List Kind) (ts : List Token) (u : Token) (e : Expression) → NonEmpty xs → Follow o v → o.start < v.start
      → StartsAll l → Span (l ++ (close_paren ∷ [])) v ts u → ArgumentsSay levels o xs f v l ts e
      → Exact (levels + o.start) (closed edition s (arguments-of edition s (inside edition s levels) o true xs f o)) e u
  unfolding among rank
  called-exact levels [] f o v l ts u e z fo on st p h = absurd z
  called-exact levels (x ∷ xs) f o v l ts u e z fo on st p h =
      let i = pieces l close_paren [] v ts u refl refl p in
      let w : Token = i.middle in
      let begins = st v (first l ts) w i.left.kinds i.left.trail in
      let own : v ≡ operand_after edition s o = operand-next o v fo begins.0 in
      let last : Follow w u = subst (Follow w) (ended (tail (rest l ts)) i.next u i.right.kinds i.right.trail) i.follow in
      let after-w : u ≡ token_after edition s w = raw-next w u last p.raw in
      let a : Exact (levels + o.start) (arguments-of edition s (inside edition s levels) o true (x ∷ xs) f o) e w =
      subst (λ (r : Read Expression). Exact (levels + o.start) r e w) (sym (opened-run levels x xs f o))
      (subst (λ (j : Token). Exact (levels + o.start) (argument-of edition s (inside edition s levels) o x xs f j (arguments-of edition s (inside edition s levels) o false xs)) e w) own (h w i.left i.kind on)) in
      ⊎_elim (λ d. inl (d.0, ap (closed edition s) d.1 ∙ close_deep d.0, d.2))
      (λ q. inr (ap (closed edition s) q ∙ (close-run e w (ap (λ (j : Kind). same j close_paren) i.kind) ∙ ap (λ (j : Token). ok e j) (sym after-w)))) a

  call-case : (levels : ℕ) (k : Kind) (f : Function) (l : List Kind) (t : Token) (ts : List Token) (u : Token) (e : Expression) → function_of edition k ≡ some f → StartsAll l
      → Span (k ∷ open_paren ∷ (l ++ (close_paren ∷ []))) t ts u
      → ((o v : Token) → ArgumentsSay levels o f.shapes f.tree v l (tail (tail ts)) e) → Exact (levels + t.start) (primary-of edition s (inside edition s levels) t) e u
  unfolding among rank
  call-case levels k f l t ts u e h st p say =
      let a = one-step k (open_paren ∷ (l ++ (close_paren ∷ []))) t ts u p.kinds p.trail in
      let o : Token = a.next in
      let b = one-step open_paren (l ++ (close_paren ∷ [])) o (tail ts) u a.kinds a.trail in
      let go : InText edition s 0 o = next-in t o a.follow p.good in
      let own : o ≡ token_after edition s t = raw-next t o a.follow (ap (among (ERE ∷ bad ∷ bad-ere ∷ [])) b.kind) in
      let found : function_of edition t.kind ≡ some f = ap (function_of edition) a.kind ∙ h in
      let r = called-exact levels f.shapes f.tree o b.next l (tail (tail ts)) u e (has-shapes edition k f h) b.follow (next-on o b.next b.follow go (ap (λ (j : Kind). same j text_end) b.kind)) st
      (record { good = next-in o b.next b.follow go; kinds = b.kinds; trail = b.trail; raw = p.raw }) (say o b.next) in
      subst (λ (m : Read Expression). Exact (levels + t.start) m e u)
      (sym (call-run levels t f found ∙ (ap (call-of edition s (inside edition s levels) f) (sym own) ∙ paren-run levels f o (ap (λ (j : Kind). same j open_paren) b.kind))))
      (weaker (levels + t.start) (levels + o.start) (closed edition s (arguments-of edition s (inside edition s levels) o true f.shapes f.tree o)) e u (omega (arith, next_le t o a.follow p.good)) r)

  -- ---- arguments

  abbrev ArgumentSays : ℕ → Token → (x : Shape) → Said (argument x) → Token → Token → Type 0
  ArgumentSays levels o an_expression a t w = Exact (levels + o.start) (inside edition s levels false 10 o t) a w
  ArgumentSays levels o an_ere a t w = (t.kind ≡ ERE) × (w ≡ token_after edition s t) × (a ≡ ere_in s t)

  -- an argument, and what is read after it
  argument-run : (levels : ℕ) (o : Token) (x : Shape) (xs : List Shape) (f : Call (x ∷ xs)) (t w : Token) (a : Said (argument x)) (rest_of : Call xs → Token → Read Expression) (e : Expression) (u : Token)
      → ArgumentSays levels o x a t w → Exact (levels + o.start) (rest_of (applied x xs a f) w) e u → Exact (levels + o.start) (argument-of edition s (inside edition s levels) o x xs f t rest_of) e u
  unfolding argument-of rank
  argument-run levels o an_expression xs f t w a rest_of e u (inl d) h = inl (d.0, ap (λ (r : Read Expression). bind r (λ e v. rest_of (f e) v)) d.1, d.2)
  argument-run levels o an_expression xs f t w a rest_of e u (inr q) h =
      subst (λ (r : Read Expression). Exact (levels + o.start) r e u) (sym (ap (λ (r : Read Expression). bind r (λ e v. rest_of (f e) v)) q)) h
  argument-run levels o an_ere xs f t w a rest_of e u z h =
      subst (λ (r : Read Expression). Exact (levels + o.start) r e u)
      (ap (λ (r : List ℕ). rest_of (f r) w) z.2 ∙ (ap (rest_of (f (ere_in s t))) z.1 ∙ sym (ere-run (ap (λ (j : Kind). same j ERE) z.0)))) h
    where
      ere-run : is ERE t ≡ true → argument-of edition s (inside edition s levels) o an_ere xs f t rest_of ≡ rest_of (f (ere_in s t)) (token_after edition s t)
      ere-run q = rw q

  ended-run : (levels : ℕ) (o : Token) (e : Expression) (w : Token) → arguments-of edition s (inside edition s levels) o false [] e w ≡ ok e w
  unfolding arguments-of
  ended-run levels o e w = refl

  comma-run : (levels : ℕ) (o : Token) (x : Shape) (xs : List Shape) (f : Call (x ∷ xs)) (w : Token) → is comma w ≡ true
      → arguments-of edition s (inside edition s levels) o false (x ∷ xs) f w
      ≡ argument-of edition s (inside edition s levels) o x xs f (past_newlines edition s (token_after edition s w)) (arguments-of edition s (inside edition s levels) o false xs)
  unfolding arguments-of
  comma-run levels o x xs f w q = rw q

  next-case : (levels : ℕ) (o : Token) (x y : Shape) (xs : List Shape) (f : Call (x ∷ y ∷ xs)) (l n r : List Kind) (t : Token) (ts : List Token) (u : Token) (a : Said (argument x)) (e : Expression)
      → Newlines n → StartsAll r → Span (l ++ (comma ∷ (n ++ r))) t ts u → o.start < t.start → ((w : Token) → Span l t (first l ts) w → among quiet w.kind ≡ true → ArgumentSays levels o x a t w)
      → ((v : Token) → Span r v (rest n (tail (rest l ts))) u → o.start < v.start
      → Exact (levels + o.start) (argument-of edition s (inside edition s levels) o y xs (applied x (y ∷ xs) a f) v (arguments-of edition s (inside edition s levels) o false xs)) e u)
      → Exact (levels + o.start) (argument-of edition s (inside edition s levels) o x (y ∷ xs) f t (arguments-of edition s (inside edition s levels) o false (y ∷ xs))) e u
  unfolding among rank
  next-case levels o x y xs f l n r t ts u a e nl st p on left right =
      let i = pieces l comma (n ++ r) t ts u refl refl p in
      let w : Token = i.middle in
      let c = cut n r i.next (tail (rest l ts)) u i.right.kinds i.right.trail in
      let v : Token = c.middle in
      let gv : InText edition s 0 v = trail-in i.next (first n (tail (rest l ts))) v i.right.good c.left in
      let begins = st v (rest n (tail (rest l ts))) u c.right-kinds c.right in
      let no_end : same w.kind text_end ≡ false = ap (λ (j : Kind). same j text_end) i.kind in
      let own : past_newlines edition s (token_after edition s w) ≡ v =
      lines-trail n nl (length s) w i.next (first n (tail (rest l ts))) v i.good no_end (omega arith) i.follow c.left-kinds c.left begins.1 begins.0 in
      let far : i.next.start ≤ v.start = trail-on i.next (first n (tail (rest l ts))) v i.right.good c.left in
      let g : Call (y ∷ xs) = applied x (y ∷ xs) a f in
      argument-run levels o x (y ∷ xs) f t w a (arguments-of edition s (inside edition s levels) o false (y ∷ xs)) e u (left w i.left (ap (among quiet) i.kind))
      (subst (λ (m : Read Expression). Exact (levels + o.start) m e u)
      (sym (comma-run levels o y xs g w (ap (λ (j : Kind). same j comma) i.kind) ∙ ap (λ (j : Token). argument-of edition s (inside edition s levels) o y xs g j (arguments-of edition s (inside edition s levels) o false xs)) own))
      (right v (record { good = gv; kinds = c.right-kinds; trail = c.right; raw = p.raw }) (omega (arith, on, i.begin, i.over, far))))

  -- ---- assignments

  assigned-run : (levels : ℕ) (b : Bool) (e : Expression) (w : Token) (f : Expression → Expression) → is assign-kind w ≡ true → assign_to edition e ≡ some f
      → assignment edition s (inside edition s levels) b (ok e w) ≡ map f (inside edition s levels b 10 w (operand_after edition s w))
  unfolding assignment assigned
  assigned-run levels b e w f q h = rw (q, h)

  assigned-deep : (levels : ℕ) (b : Bool) (place : ℕ) → assignment edition s (inside edition s levels) b (no size_passed place) ≡ no size_passed place
  unfolding assignment
  assigned-deep levels b place = refl

  unassigned-run : (levels : ℕ) (b : Bool) (e : Expression) (u : Token) → is assign-kind u ≡ false → assignment edition s (inside edition s levels) b (ok e u) ≡ ok e u
  unfolding assignment
  unassigned-run levels b e u q = rw q

  ten-up : (levels : ℕ) (b : Bool) (t : Token) (e : Expression) (u : Token) → is assign-kind u ≡ false → Exact (levels + t.start) (Tier levels b 9 t) e u → Exact (levels + t.start) (Tier levels b 10 t) e u
  unfolding tier step_tier
  ten-up levels b t e u h (inl d) = inl (d.0, ap (assignment edition s (inside edition s levels) b) d.1 ∙ assigned-deep levels b d.0, d.2)
  ten-up levels b t e u h (inr q) = inr (ap (assignment edition s (inside edition s levels) b) q ∙ unassigned-run levels b e u h)

  -- a left side, `=`, and the right side
  assign-case : (levels : ℕ) (b : Bool) (e : Expression) (f : Expression → Expression) (t w v : Token) (r : List Kind) (ts : List Token) (u : Token) (y : Expression) → assign_to edition e ≡ some f
      → is_one_of prefixes t ≡ false → w.kind ≡ assign-kind → Follow w v → t.start ≤ w.start → w.start < v.start → StartsAll r → Span r v ts u → Exact (levels + t.start) (Tier levels b 0 t) e w → ((m : ℕ) → Exact (m + v.start) (Tier m b 10 v) y u)
      → Exact (levels + t.start) (Tier levels b 10 t) (f y) u
  unfolding tier step_tier among rank
  assign-case levels b e f t w v r ts u y a np k fo le on st p left right =
      let begins = st v ts u p.kinds p.trail in
      let own : v ≡ operand_after edition s w = operand-next w v fo begins.0 in
      let zero-tier : tier_of edition b w.kind ≡ 0 = ap (tier_of edition b) k ∙ tier-other edition b assign-kind refl in
      let nine = nine-of levels b t e w zero-tier (ap (among (tilde ∷ no-match-kind ∷ [])) k) np left in
      let i : Exact (levels + w.start) (inside edition s levels b 10 w (operand_after edition s w)) y u =
      subst (λ (j : Token). Exact (levels + w.start) (inside edition s levels b 10 w j) y u) own (inner-exact levels b 10 w v y u on p.good right) in
      ⊎_elim (λ d. inl (d.0, ap (assignment edition s (inside edition s levels) b) d.1 ∙ assigned-deep levels b d.0, d.2))
      (λ q. subst (λ (m : Read Expression). Exact (levels + t.start) m (f y) u)
      (sym (ap (assignment edition s (inside edition s levels) b) q ∙ assigned-run levels b e w f (ap (λ (j : Kind). same j assign-kind) k) a))
      (weaker (levels + t.start) (levels + w.start) (map f (inside edition s levels b 10 w (operand_after edition s w))) (f y) u (omega (arith, le))
      (exact-map f (levels + w.start) (inside edition s levels b 10 w (operand_after edition s w)) y u i))) nine

  name-target : (k : Kind) (v : List ℕ) → word_kind edition v ≡ k → among targets k ≡ true → assign_to edition (variable v) ≡ some (assign v)
  unfolding assign_to among rank
  name-target k v e q = rw (e, each (λ k. same k fixed_variable ≡ false) targets (refl, (refl, tt)) k q)

  -- ---- every form

  quiet-halt : (b : Bool) (n : ℕ) (k : Kind) → among quiet k ≡ true → Halt b n k
  quiet-halt b n k q = inl (tier-quiet edition b k q)

  quiet-plain : (k : Kind) → among quiet k ≡ true → (among (tilde ∷ no-match-kind ∷ []) k ≡ false) × (same k assign-kind ≡ false)
  unfolding among rank
  quiet-plain k q =
      each (λ k. (among (tilde ∷ no-match-kind ∷ []) k ≡ false) × (same k assign-kind ≡ false)) quiet
      ((refl, refl), ((refl, refl), ((refl, refl), ((refl, refl), ((refl, refl), ((refl, refl), ((refl, refl), tt))))))) k q

  compared_at : (p : Place) (b : Bool) (k : Kind) → Compares p k → IsAt p b → tier_of edition b k ≡ 5
  compared_at p b k (any o) a = ap (λ (c : Bool). tier_of edition c k) a ∙ tier-compared edition k (one_of o)
  compared_at p b k (no_greater o g) a = ap (λ (c : Bool). tier_of edition c k) a ∙ tier-printed edition k (one_of o) g

  compared-kind : (p : Place) (k : Kind) → Compares p k → among comparisons k ≡ true
  compared-kind p k (any o) = one_of o
  compared-kind p k (no_greater o g) = one_of o

  compared-raw : (k : Kind) → among comparisons k ≡ true → (Raw k) × (same k text_end ≡ false)
  unfolding among rank
  compared-raw k q =
      each (λ k. (Raw k) × (same k text_end ≡ false)) comparisons ((refl, refl), ((refl, refl), ((refl, refl), ((refl, refl), ((refl, refl), ((refl, refl), tt)))))) k q

  starts-sum : (l : List Kind) → Form edition sum l → (IsEmpty l → ⊥) × (Starts (first_kind l))
  starts-sum l d = let i = runs edition d plain pattern tt in starts-form plain pattern (after i.0 pattern) l i.2

  starts-concatenation : (l : List Kind) → Form edition concatenation l → (IsEmpty l → ⊥) × (Starts (first_kind l))
  starts-concatenation l d = let i = runs edition d plain pattern tt in starts-form plain pattern (after i.0 pattern) l i.2

  starts-product : (l : List Kind) → Form edition product l → (IsEmpty l → ⊥) × (Starts (first_kind l))
  starts-product l d = let i = runs edition d plain pattern tt in starts-form plain pattern (after i.0 pattern) l i.2

  starts-prefixed : (l : List Kind) → Form edition prefixed l → (IsEmpty l → ⊥) × (Starts (first_kind l))
  starts-prefixed l d = let i = runs edition d plain pattern tt in starts-form plain pattern (after i.0 pattern) l i.2

  starts-conjunction : (p : Place) (l : List Kind) → Form edition (conjunction p) l → (IsEmpty l → ⊥) × (Starts (first_kind l))
  starts-conjunction p l d = let i = runs edition d plain (context_of p) tt (context-at p) in starts-form plain (context_of p) (after i.0 (context_of p)) l i.2

  starts-matching : (p : Place) (l : List Kind) → Form edition (matching p) l → (IsEmpty l → ⊥) × (Starts (first_kind l))
  starts-matching p l d = let i = runs edition d plain (context_of p) tt (context-at p) in starts-form plain (context_of p) (after i.0 (context_of p)) l i.2

  pub first-not : (test : Kind → Bool) (f : Kind → Option State) (l : List Kind) (x : State) → ((k : Kind) → test k ≡ true → f k ≡ none) → from edition f l ≡ some x → test (first_kind l) ≡ false
  first-not test f [] x h e = absurd (none-some e)
  first-not test f (k ∷ l) x h e = decide (test k) refl
    where
      decide : (b : Bool) → test k ≡ b → test k ≡ false
      decide false q = q
      decide true q = absurd (none-some (sym (run_none edition l) ∙ (ap (run edition l) (sym (h k q)) ∙ e)))

  field-first : (l : List Kind) → Form edition field-part l → among prefixes (first_kind l) ≡ false
  field-first l d =
      ⊎_elim (λ e. first-not (among prefixes) (field_step edition plain plain pattern) l (after plain pattern) (not-prefix edition plain plain pattern) e)
      (λ e. first-not (among prefixes) (field_step edition plain plain pattern) l (after plain pattern) (not-prefix edition plain plain pattern) e) (runs edition d plain plain pattern)

  primary-dollar : (k : Kind) → same k dollar ≡ true → primary_step edition plain plain pattern k ≡ none
  unfolding primary_step among rank
  primary-dollar k q = ap (primary_step edition plain plain pattern) (same-is k dollar q) ∙ ap (call_step edition plain pattern) (no-function edition dollar refl)

  primary-first : (l : List Kind) → Form edition primary l → (IsEmpty l → ⊥) × (same (first_kind l) dollar ≡ false)
  primary-first l d =
      let i = starts-prefixed l (no_prefix (no_field d)) in (
        i.0,
        ⊎_elim (λ e. first-not (λ k. same k dollar) (primary_step edition plain plain pattern) l (after plain pattern) primary-dollar e)
            (λ e. first-not (λ k. same k dollar) (primary_step edition plain plain pattern) l (after plain pattern) primary-dollar e) (runs edition d plain plain pattern),
      )

  -- what joins is a token as it is
  joined-raw : (b : Bool) (k : Kind) (r : List Kind) → Form edition sum (k ∷ r) → among (ERE ∷ prefixes) k ≡ false → (Raw k) × (tier_of edition b k ≡ 4) × (same k text_end ≡ false)
  unfolding among rank
  joined-raw b k r d q =
      let i = runs edition d plain pattern tt in
      let st = starts-sum (k ∷ r) d in
      let not-bad : among (bad ∷ bad-ere ∷ []) k ≡ false =
      first-not (among (bad ∷ bad-ere ∷ [])) (operand_step edition plain pattern) (k ∷ r) (after i.0 pattern) (bad-operand edition) i.2 in
      let e = or-false (same k ERE) _ q in
      (rw e.0 not-bad, ⊎_elim (λ z. absurd (none-some (sym (run_none edition r) ∙ (ap (run edition r) (sym z) ∙ i.2)))) (λ z. z) (joins edition b plain pattern k q), st.1.2)
    where
      bad-operand : (edition : ℕ) (k : Kind) → among (bad ∷ bad-ere ∷ []) k ≡ true → operand_step edition plain pattern k ≡ none
      bad-operand edition k h =
          let two : (k : Kind) → Type 0 = λ k. (among operands k ≡ false) × (among words k ≡ false) in
          let z = each two (bad ∷ bad-ere ∷ []) ((refl, refl), ((refl, refl), tt)) k h in
          no_operand edition plain pattern k z.0 (no-function edition k z.1)

  say-argument : (x : Shape) (l : List Kind) (d : Form edition (argument x) l) → Spoken (argument x) l d → (levels : ℕ) (o t : Token) (ts : List Token) (w : Token) → Span l t ts w
      → among quiet w.kind ≡ true → o.start < t.start → ArgumentSays levels o x (said edition s d ts) t w
  say-argument an_expression l d h levels o t ts w p q on = h levels o t ts w p q on
  say-argument an_ere l d h levels o t ts w p q on = h t ts w p

  say-arguments : (xs : List Shape) (f : Call xs) (l : List Kind) (d : Form edition (arguments xs) l) → Spoken (arguments xs) l d → (levels : ℕ) (o v : Token) (ts : List Token)
      → ArgumentsSay levels o xs f v l ts (said edition s d (first l ts) f)
  say-arguments [] f l d h levels o v ts = tt
  say-arguments (x ∷ xs) f l d h levels o v ts = λ w p k on. h levels o f v (first l ts) w p k on

  pub spoken : {part : Part} {l : List Kind} (d : Form edition part l) → Spoken part l d
  unfolding said assign_to right_of leaf among rank
  spoken (to_name {p = p} {k = k} {r = r} o e) = λ levels b t ts u at sp q.
      let a = one-step k (assign-kind ∷ r) t ts u sp.kinds sp.trail in
      let w : Token = a.next in
      let gw : InText edition s 0 w = next-in t w a.follow sp.good in
      let c = one-step assign-kind r w (tail ts) u a.kinds a.trail in
      let after-t : w ≡ token_after edition s t = raw-next t w a.follow (ap (among (ERE ∷ bad ∷ bad-ere ∷ [])) c.kind) in
      let target : among targets t.kind ≡ true = ap (among targets) a.kind ∙ one_of o in
      let name : is_one_of names t ≡ true = each (λ k. among names k ≡ true) targets (refl, (refl, tt)) t.kind target in
      let is_leaf : leaf edition s t.kind t ≡ variable (spelling s t) = each (λ k. leaf edition s k t ≡ variable (spelling s t)) targets (refl, (refl, tt)) t.kind target in
      let left : Exact (levels + t.start) (Tier levels b 0 t) (variable (spelling s t)) w =
      no-dollar levels b t (variable (spelling s t)) w (each (λ k. same k dollar ≡ false) targets (refl, (refl, tt)) t.kind target)
      (inr (token-run levels t (each (λ k. among (NUMBER ∷ STRING ∷ ERE ∷ names) k ≡ true) targets (refl, (refl, tt)) t.kind target)
      ∙ (ap (λ (x : Expression). ok x (token_after edition s t)) is_leaf ∙ ap (λ (j : Token). ok (variable (spelling s t)) j) (sym after-t)))) in
      let y : Expression = said edition s e (tail (tail ts)) in
      let right : Span r c.next (tail (tail ts)) u = record { good = next-in w c.next c.follow gw; kinds = c.kinds; trail = c.trail; raw = sp.raw } in
      subst (λ (j : Token). Exact (levels + t.start) (Tier levels b 10 t) (assign (spelling s j) y) u) (sym a.here)
      (assign-case levels b (variable (spelling s t)) (assign (spelling s t)) t w c.next r (tail (tail ts)) u y
      (name-target t.kind (spelling s t) (named edition s t sp.good name) target) (each (λ k. among prefixes k ≡ false) targets (refl, (refl, tt)) t.kind target)
      c.kind c.follow (next_le t w a.follow sp.good) (next-on w c.next c.follow gw (ap (λ (j : Kind). same j text_end) c.kind)) (all_start r (starts-expression p r e)) right left (λ m. spoken e m b c.next (tail (tail ts)) u at right q))
  spoken (to_field {p = p} {l = l} {r = r} f e) = λ levels b t ts u at sp q.
      let a = one-step dollar (l ++ (assign-kind ∷ r)) t ts u sp.kinds sp.trail in
      let v : Token = a.next in
      let gv : InText edition s 0 v = next-in t v a.follow sp.good in
      let i = pieces l assign-kind r v (tail ts) u refl refl (record { good = gv; kinds = a.kinds; trail = a.trail; raw = sp.raw }) in
      let w : Token = i.middle in
      let on : t.start < v.start = next-on t v a.follow sp.good (ap (λ (j : Kind). same j text_end) a.kind) in
      let x : Expression = said edition s f (first l (tail ts)) in
      let left : Exact (levels + t.start) (Tier levels b 0 t) (field x) w =
      dollar-case levels b l t v (first l (tail ts)) w x a.kind a.follow on (all_start l (starts-prefixed l (no_prefix f))) i.left (λ m. spoken f m false v (first l (tail ts)) w i.left) in
      assign-case levels b (field x) (assign_field x) t w i.next r (tail (rest l (tail ts))) u (said edition s e (tail (rest l (tail ts)))) refl
      (ap (among prefixes) a.kind) i.kind i.follow (omega (arith, on, i.begin)) i.over (all_start r (starts-expression p r e)) i.right left (λ m. spoken e m b i.next (tail (rest l (tail ts))) u at i.right q)
  spoken (value-form d) = λ levels b t ts u at sp q.
      let z = quiet-plain u.kind q in
      ten-up levels b t (said edition s d ts) u z.1 (nine-up levels b t (said edition s d ts) u (quiet-halt b 9 u.kind q)
      (spoken d levels b t ts u at sp (quiet-halt b 8 u.kind q) z.0))
  spoken (or {p = p} {l = l} {n = n} {r = r} d h e) = λ levels b t ts u at sp ha nt.
      line-case levels b 8 l or_or n r t ts u (said edition s d (first l ts)) (said edition s e (rest n (tail (rest l ts)))) refl refl (tier-or edition b) (λ w. refl) h
      (all_start r (starts-conjunction p r e)) sp
      (λ w k i x. spoken d levels b t (first l ts) w at k x (ap (among (tilde ∷ no-match-kind ∷ [])) i))
      (λ v k. eight-up levels b v (said edition s e (rest n (tail (rest l ts)))) u ha (spoken e levels b v (rest n (tail (rest l ts))) u at k (halt-lower b 7 u.kind ha) nt))
  spoken (no_or d) = λ levels b t ts u at sp ha nt.
      loop-start levels b 8 t (said edition s d ts) u (eight-up levels b t (said edition s d ts) u ha (spoken d levels b t ts u at sp (halt-lower b 7 u.kind ha) nt))
  spoken (and {p = p} {l = l} {n = n} {r = r} d h e) = λ levels b t ts u at sp ha nt.
      line-case levels b 7 l and_and n r t ts u (said edition s d (first l ts)) (said edition s e (rest n (tail (rest l ts)))) refl refl (tier-and edition b) (λ w. refl) h
      (all_start r (starts-matching p r e)) sp
      (λ w k i x. spoken d levels b t (first l ts) w at k x (ap (among (tilde ∷ no-match-kind ∷ [])) i))
      (λ v k. spoken e levels b v (rest n (tail (rest l ts))) u at k ha nt)
  spoken (no_and d) = λ levels b t ts u at sp ha nt. loop-start levels b 7 t (said edition s d ts) u (spoken d levels b t ts u at sp ha nt)
  spoken (match {k = k} {l = l} d o) = λ levels b t ts u at sp ha nt.
      let z = each (λ k. (Raw k) × (same k text_end ≡ false) × (among (tilde ∷ no-match-kind ∷ assign-kind ∷ []) k ≡ true)) (tilde ∷ no-match-kind ∷ []) ((refl, refl, refl), ((refl, refl, refl), tt)) k (one_of o) in
      seven-up levels b t _ u ha
      (match-case levels b l k t ts u (said edition s d (first l ts)) z.0 z.1 (tier-other edition b k z.2) (one_of o) sp (λ w i x. spoken d levels b t (first l ts) w at i x))
  spoken (no_ere d) = λ levels b t ts u at sp ha nt.
      seven-up levels b t (said edition s d ts) u ha (six-up levels b t (said edition s d ts) u nt
      (spoken d levels b t ts u at sp (halt-lower b 5 u.kind (halt-lower b 6 u.kind ha))))
  spoken (compare {p = p} {k = k} {l = l} {r = r} d o e) = λ levels b t ts u at sp ha.
      let z = compared-raw k (compared-kind p k o) in
      compare-case levels b l k r t ts u (said edition s d (first l ts)) (said edition s e (tail (rest l ts))) z.0 z.1 (compared_at p b k o at) (all_start r (starts-concatenation r e)) sp
      (λ w i x. four-up levels b t (said edition s d (first l ts)) w x (spoken d levels b t (first l ts) w i (halt-lower b 3 w.kind x)))
      (λ v i. four-up levels b v (said edition s e (tail (rest l ts))) u (halt-lower b 4 u.kind ha) (spoken e levels b v (tail (rest l ts)) u i (halt-lower b 3 u.kind (halt-lower b 4 u.kind ha))))
  spoken (no_compare d) = λ levels b t ts u at sp ha.
      five-up levels b t (said edition s d ts) u ha (four-up levels b t (said edition s d ts) u (halt-lower b 4 u.kind ha)
      (spoken d levels b t ts u sp (halt-lower b 3 u.kind (halt-lower b 4 u.kind ha))))
  spoken (join {k = k} {l = l} {r = r} d e q) = λ levels b t ts u sp ha.
      let z = joined-raw b k r e q in
      join-case levels b l k r t ts u (said edition s d (first l ts)) (said edition s e (rest l ts)) z.0 z.2 z.1 sp
      (λ w i x. spoken d levels b t (first l ts) w i x)
      (λ v i. three_up levels b v (said edition s e (rest l ts)) u ha (spoken e levels b v (rest l ts) u i (halt-lower b 2 u.kind ha)))
  spoken (no_join d) = λ levels b t ts u sp ha.
      loop-start levels b 3 t (said edition s d ts) u (three_up levels b t (said edition s d ts) u ha (spoken d levels b t ts u sp (halt-lower b 2 u.kind ha)))
  spoken (add {k = k} {l = l} {r = r} d o e) = λ levels b t ts u sp ha.
      let z = each (λ k. (Raw k) × (same k text_end ≡ false)) (plus ∷ minus ∷ []) ((refl, refl), ((refl, refl), tt)) k (one_of o) in
      turn-case levels b 2 l k r t ts u (said edition s d (first l ts)) (said edition s e (tail (rest l ts))) z.0 z.1 (tier-sum edition b k (one_of o)) (λ w. refl) (all_start r (starts-product r e)) sp
      (λ w i x. spoken d levels b t (first l ts) w i x)
      (λ v i. two_up levels b v (said edition s e (tail (rest l ts))) u ha (spoken e levels b v (tail (rest l ts)) u i))
  spoken (no_add d) = λ levels b t ts u sp ha. loop-start levels b 2 t (said edition s d ts) u (two_up levels b t (said edition s d ts) u ha (spoken d levels b t ts u sp))
  spoken (multiply {k = k} {l = l} {r = r} d o e) = λ levels b t ts u sp.
      let z = each (λ k. (Raw k) × (same k text_end ≡ false)) (star ∷ slash ∷ percent ∷ []) ((refl, refl), ((refl, refl), ((refl, refl), tt))) k (one_of o) in
      turn-case levels b 1 l k r t ts u (said edition s d (first l ts)) (said edition s e (tail (rest l ts))) z.0 z.1 (tier-product edition b k (one_of o)) (λ w. refl) (all_start r (starts-prefixed r e)) sp
      (λ w i x. spoken d levels b t (first l ts) w i) (λ v i. spoken e levels b v (tail (rest l ts)) u i)
  spoken (no_multiply d) = λ levels b t ts u sp. loop-start levels b 1 t (said edition s d ts) u (spoken d levels b t ts u sp)
  spoken (prefix {k = k} {l = l} o d) = λ levels b t ts u sp.
      prefix-case levels b k l t ts u (said edition s d (tail ts)) (one_of o) (all_start l (starts-prefixed l d)) sp (λ m v i. spoken d m false v (tail ts) u i)
  spoken (no_prefix {l = l} d) = λ levels b t ts u sp.
      one_up levels b t (said edition s d ts) u (ap (among prefixes) (first_of l t ts u sp.kinds sp.trail (starts-prefixed l (no_prefix d)).0) ∙ field-first l d) (spoken d levels b t ts u sp)
  spoken (of_field {l = l} d) = λ levels b t ts u sp.
      let a = one-step dollar l t ts u sp.kinds sp.trail in
      let pv : Span l a.next (tail ts) u = record { good = next-in t a.next a.follow sp.good; kinds = a.kinds; trail = a.trail; raw = sp.raw } in
      dollar-case levels b l t a.next (tail ts) u (said edition s d (tail ts)) a.kind a.follow
      (next-on t a.next a.follow sp.good (ap (λ (j : Kind). same j text_end) a.kind)) (all_start l (starts-prefixed l (no_prefix d))) pv (λ m. spoken d m false a.next (tail ts) u pv)
  spoken (no_field {l = l} d) = λ levels b t ts u sp.
      let z = primary-first l d in
      no-dollar levels b t (said edition s d ts) u (ap (λ (j : Kind). same j dollar) (first_of l t ts u sp.kinds sp.trail z.0) ∙ z.1) (spoken d levels t ts u sp)
  spoken (one_token {k = k} o) = λ levels t ts u sp.
      let a = one-step k [] t ts u sp.kinds sp.trail in
      let last : Follow t u = subst (Follow t) (ended (tail ts) a.next u a.kinds a.trail) a.follow in
      inr (token-run levels t (ap (among (NUMBER ∷ STRING ∷ ERE ∷ names)) a.kind ∙ one_of o)
      ∙ (ap (λ (j : Token). ok (leaf edition s t.kind t) j) (sym (raw-next t u last sp.raw))
      ∙ (ap (λ (j : Kind). ok (leaf edition s j t) u) a.kind ∙ ap (λ (j : Token). ok (leaf edition s k j) u) (sym a.here))))
  spoken (parentheses {l = l} d) = λ levels t ts u sp.
      let a = one-step open_paren (l ++ (close_paren ∷ [])) t ts u sp.kinds sp.trail in
      let pv : Span (l ++ (close_paren ∷ [])) a.next (tail ts) u = record { good = next-in t a.next a.follow sp.good; kinds = a.kinds; trail = a.trail; raw = sp.raw } in
      let x : Expression = said edition s d (first l (tail ts)) in
      let r : Read Expression = closed edition s (inside edition s levels false 10 t (operand_after edition s t)) in
      subst (λ (m : Read Expression). Exact (levels + t.start) m (parentheses-tree x) u) (sym (group-run levels t a.kind))
      (exact-map parentheses-tree (levels + t.start) r x u (closed-case levels l t a.next (tail ts) u x a.follow
      (next-on t a.next a.follow sp.good (ap (λ (j : Kind). same j text_end) a.kind)) (all_start l (starts-expression elsewhere l d)) pv
      (λ m w i q. spoken d m false a.next (first l (tail ts)) w refl i q)))
  spoken (call-form {k = k} {f = f} {l = l} h d) = λ levels t ts u sp.
      call-case levels k f l t ts u (said edition s d (first l (tail (tail ts))) f.tree) h (all_start l (starts-arguments f.shapes l d)) sp
      (λ o v. say-arguments f.shapes f.tree l d (spoken d) levels o v (tail (tail ts)))
  spoken (last_argument {x = x} {l = l} d) = λ levels o f t ts u sp k on.
      argument-run levels o x [] f t u (said edition s d ts) (arguments-of edition s (inside edition s levels) o false []) (applied x [] (said edition s d ts) f) u
      (say-argument x l d (spoken d) levels o t ts u sp (ap (among quiet) k) on) (inr (ended-run levels o (applied x [] (said edition s d ts) f) u))
  spoken (next_argument {x = x} {y = y} {xs = xs} {l = l} {n = n} {r = r} d h e) = λ levels o f t ts u sp k on.
      next-case levels o x y xs f l n r t ts u (said edition s d (first l ts)) _ h (all_start r (starts-arguments (y ∷ xs) r e)) sp on
      (λ w i q. say-argument x l d (spoken d) levels o t (first l ts) w i q on)
      (λ v i z. spoken e levels o (applied x (y ∷ xs) (said edition s d (first l ts)) f) v (rest n (tail (rest l ts))) u i k z)
  spoken (expression_argument d) = λ levels o t ts u sp q on. inner-exact levels false 10 o t (said edition s d ts) u on sp.good (λ m. spoken d m false t ts u refl sp q)
  spoken ere-form = λ t ts u sp.
      let a = one-step ERE [] t ts u sp.kinds sp.trail in
      let last : Follow t u = subst (Follow t) (ended (tail ts) a.next u a.kinds a.trail) a.follow in
      (a.kind, raw-next t u last sp.raw, ap (ere_in s) a.here)

  -- an expression that is read has the tree that each derivation of its tokens says, and ends where it ends
  pub expression-says : (levels : ℕ) (b : Bool) (p : Place) (l : List Kind) (d : Form edition (expression p) l) (t : Token) (ts : List Token) (u : Token) (e : Expression) (v : Token) → IsAt p b
      → Span l t ts u → among quiet u.kind ≡ true → expression_at edition s levels b t ≡ ok e v → (e ≡ said edition s d ts) × (v ≡ u)
  expression-says levels b p l d t ts u e v at sp q h =
      ⊎_elim (λ z. absurd (refused-read (sym z.1 ∙ h))) (λ z. same_read (sym h ∙ z)) (spoken d levels b t ts u at sp q)
    where
      refused-read : {place : ℕ} {x : Expression} {w : Token} → no size_passed place ≡ ok x w → ⊥
      refused-read f = let z : ◌≡◌ {A = ℕ} 0 1 = cc in omega (arith, z)

      same_read : {x y : Expression} {w z : Token} → ok x w ≡ ok y z → (x ≡ y) × (w ≡ z)
      same_read f = (cc, cc)

  -- two derivations of the tokens of an expression that is read say one tree
  pub one-tree : (levels : ℕ) (b : Bool) (p : Place) (l : List Kind) (c d : Form edition (expression p) l) (t : Token) (ts : List Token) (u : Token) (e : Expression) (v : Token) → IsAt p b
      → Span l t ts u → among quiet u.kind ≡ true → expression_at edition s levels b t ≡ ok e v → said edition s c ts ≡ said edition s d ts
  one-tree levels b p l c d t ts u e v at sp q h =
      sym (expression-says levels b p l c t ts u e v at sp q h).0 ∙ (expression-says levels b p l d t ts u e v at sp q h).0
