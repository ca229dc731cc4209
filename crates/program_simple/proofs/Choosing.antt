-- Conditions in parentheses, and the `else` of an `if`.
use mathlib.Core.Path.{◌≡◌, refl, sym, ap, subst, ◌∙◌}
use mathlib.Core.Bool.{Bool, true, false, not, cond, ◌&&◌, ◌||◌}
use mathlib.Core.List.{List}
use mathlib.Core.Option.{Option, some, none}
use Prim.Native.Nat.{ℕ, zero, suc, ◌+◌, ◌-◌, ◌≤◌, ◌<◌}
use native.Mathlib.Omega.{arith}
use lib.Dec.{eqb}
use lib.ListN.{length}
use borrow.Author.Tests.{eqb-true, eq-eqb, ne_eqb, not-true}
use Rattle.std.specs.Prelude.{Some, None}
use Rattle.lists.proofs.Tests.{clash, and-true, or-none}
use Rattle.lists.proofs.Options.{some_one, none-some}
use Rattle.program_tokens.specs.Kinds.{text_end, newline, close_paren, ELSE, semicolon, rank}
use Rattle.program_tokens.specs.Tokens.{Token, is, token_after}
use Rattle.program_tree.specs.Tree.{Expression}
use Rattle.program_reader.specs.Read.{Read as Result, ok, no, refuse, operand_after}
use Rattle.program_reader.specs.Operators.{expressions}
use Rattle.program_reader.specs.Expressions.{closed, inside}
use Rattle.program_reader.specs.Statements.{condition_at, else_after}
use Rattle.program_code.specs.Expressions.{size}
use Rattle.program_lexer.specs.Coded.{coded, decoded, kind_count}
use Rattle.program_lexer.specs.declared.tokens.Token.{Token as Coded}
use Rattle.program_lexer.proofs.Coding.{rank-of}
use Rattle.program_parser.specs.declared.read.Read.{Read}
use Rattle.program_parser.specs.Reading.{success, refusal, refused_by, closed_of, form_of, Good, Ready, Reading}
use Rattle.program_parser.proofs.Codes.{kind-below, decoded-coded, decoded-back, closed-no}
use Rattle.program_parser.proofs.Tokens.{choose, good-after}
use Rattle.program_simple.specs.Statements.{else_of, ReadingCondition}
use Rattle.program_simple.proofs.Answers.{
  refuse-fails,
  some-refused,
  begun,
  condition-refused,
  lower,
  here,
  ready_of,
  good-next,
}

-- ---- conditions

module _ (edition : ℕ) (s : List ℕ) where
  -- what a `)` has to follow, from a token before it on
  close-reading : (t x : Token) (n : ℕ) (xs ys : List ℕ) (r q : Read) → t.start < t.stop → Good edition s t.stop x
      → (R : Result Expression)
      → Reading edition s x n 0 xs R r ys → q ≡ closed_of edition s r
      → ReadingCondition edition s t n xs (closed edition s R) q ys
  unfolding Reading ReadingCondition closed
  close-reading t x n xs ys r q l g (no o p) h e =
      (e ∙ (sym (closed-no edition s r (λ z. h.1 (sym (ap (λ (y : Read). y.outcome) h.0) ∙ z))) ∙ h.0), h.1)
  close-reading t x n xs ys r q l g (ok a v) h e =
      let f : q ≡ closed_of edition s (success v (n + size a) (form_of edition a)) = e
      ∙ ap (closed_of edition s) h.answer in
      go (is close_paren v)
      (subst (λ (y : Token). q ≡ cond (is close_paren y) (success (token_after edition s y) (n + size a) 0)
      (refusal (refused_by y) y.start))
      (decoded-coded v) f)
    where
      go : (b : Bool) → q ≡ cond b (success (token_after edition s v) (n + size a) 0) (refusal (refused_by v) v.start)
          → ReadingCondition edition s t n xs (cond b (ok a (token_after edition s v)) (refuse v)) q ys
      go true f =
          let k = good-after edition s x.stop v h.good in
          record {
            answer = f;
            good = lower edition s (omega (arith, g.after, g.ordered, h.good.after, h.good.ordered)) k;
            bound = omega (arith, l, g.after, h.bound, h.good.ordered, k.after);
            wrote = h.wrote;
          }
      go false f = (f, some-refused v)

  module _ (u : Coded) (n : ℕ) (xs : List ℕ) (levels : ℕ) (rd : Ready edition s u n) where
    no-paren : (u.kind ≡ 38 → ⊥) → condition_at edition s levels (decoded u) ≡ refuse (decoded u)
    unfolding condition_at rank
    no-paren z = rw (rank-of u.kind rd.known, ne_eqb u.kind 38 z)

    pub condition-unopened : (r : Read) (ys : List ℕ) → (u.kind ≡ 38 → ⊥) → r
        ≡ refusal (refused_by (decoded u)) u.start
        → ReadingCondition edition s (decoded u) n xs (condition_at edition s levels (decoded u)) r ys
    condition-unopened r ys z h =
        condition-refused edition s (decoded u) n xs (condition_at edition s levels (decoded u)) r ys
        (refuse-fails (decoded u) (no-paren z) h)

    module _ (k : u.kind ≡ 38) (first : Coded) (fe : first ≡ coded (operand_after edition s (decoded u))) where
      paren-longer : u.start < u.stop
      paren-longer = rd.good.longer (begun u rd.known (λ z. omega (arith, k)))

      pub condition-ready : Ready edition s first n
      condition-ready =
          let g = good-next edition s 0 (decoded u) rd.good in
          ready_of edition s first (operand_after edition s (decoded u)) u.stop n fe g rd.small
          (omega (arith, g.after, paren-longer, rd.count))

      opened : condition_at edition s levels (decoded u)
          ≡ closed edition s (inside edition s levels false expressions (decoded u)
          (operand_after edition s (decoded u)))
      unfolding condition_at rank
      opened = rw (rank-of u.kind rd.known, eq-eqb u.kind 38 k)

      pub condition-closed : (r q : Read) (ys : List ℕ)
          → Reading edition s (decoded first) n 0 xs
          (inside edition s levels false expressions (decoded u) (decoded first)) r ys
          → q ≡ closed_of edition s r → ReadingCondition edition s (decoded u) n xs
          (condition_at edition s levels (decoded u)) q ys
      condition-closed r q ys h e =
          let x : Token = operand_after edition s (decoded u) in
          let w : Reading edition s x n 0 xs (inside edition s levels false expressions (decoded u) x) r ys =
          subst (λ (y : Token). Reading edition s y n 0 xs (inside edition s levels false expressions (decoded u) y) r
          ys) (decoded-back first x fe) h in
          subst (λ (R : Result Expression). ReadingCondition edition s (decoded u) n xs R q ys) (sym opened)
          (close-reading (decoded u) x n xs ys r q paren-longer (good-next edition s 0 (decoded u) rd.good)
          (inside edition s levels false expressions (decoded u) x) w e)

-- ---- `else`

-- what is left to look for from u on is what was from t on
pub record ElseTurn (edition : ℕ) (s : List ℕ) (t : Coded) (free : Bool) (u : Coded) (ended semicolons : Bool) : Type 0
  where
    pub good : Good edition s 0 (decoded u)
    pub known : u.kind < kind_count
    pub left : ℕ
    pub enough : length s ≤ left + u.start
    pub same : else_after edition s left ended semicolons (decoded u)
        ≡ else_after edition s (length s) free false (decoded t)

one-mark : (a b : Bool) → (not a || b) ≡ true → (a && not b) ≡ false
one-mark true true h = refl
one-mark true false h = absurd (clash (sym h))
one-mark false b h = refl

-- a newline, or the first `;`
goes_on : (a b c : Bool) → (not a && (not b || c)) ≡ false → a ≡ false → (b ≡ true) × (c ≡ false)
goes_on true b c h z = absurd (clash z)
goes_on false true true h z = absurd (clash h)
goes_on false true false h z = (refl, refl)
goes_on false false c h z = absurd (clash h)

module _ (edition : ℕ) (s : List ℕ) (u : Coded) (known : u.kind < kind_count) (ended semicolons : Bool) where
  step-found : (m : ℕ) → 0 < m → (eqb u.kind 14 && ended) ≡ true
      → else_after edition s m ended semicolons (decoded u) ≡ some (token_after edition s (decoded u))
  unfolding else_after rank
  step-found zero l e = absurd (omega arith)
  step-found (suc m) l e =
      let both = and-true (eqb u.kind 14) ended e in
      let k : u.kind ≡ 14 = eqb-true u.kind 14 both.0 in
      rw (rank-of u.kind known, ne_eqb u.kind 1 (λ z. omega arith), ne_eqb u.kind 43 (λ z. omega arith), e)

  step-none : (m : ℕ) → (eqb u.kind 14 && ended) ≡ false
      → (not (eqb u.kind 1) && (not (eqb u.kind 43) || semicolons)) ≡ true
      → else_after edition s m ended semicolons (decoded u) ≡ none
  unfolding else_after rank
  step-none zero e h = refl
  step-none (suc m) e h =
      let both = and-true (not (eqb u.kind 1)) (not (eqb u.kind 43) || semicolons) h in
      rw (
        rank-of u.kind known,
        not-true (eqb u.kind 1) both.0,
        one-mark (eqb u.kind 43) semicolons
            both.1,
        e,
      )

  step-more : (m : ℕ) → (not (eqb u.kind 1) && (not (eqb u.kind 43) || semicolons)) ≡ false
      → else_after edition s (suc m) ended semicolons (decoded u)
      ≡ else_after edition s m true (semicolons || eqb u.kind 43) (token_after edition s (decoded u))
  unfolding else_after rank
  step-more m h = go (eqb u.kind 1) refl
    where
      go : (b : Bool) → eqb u.kind 1 ≡ b → else_after edition s (suc m) ended semicolons (decoded u)
          ≡ else_after edition s m true (semicolons || eqb u.kind 43) (token_after edition s (decoded u))
      go true e =
          let k : u.kind ≡ 1 = eqb-true u.kind 1 e in
          rw (rank-of u.kind known, e, ne_eqb u.kind 43 (λ z. omega arith), or-none semicolons)
      go false e =
          let both = goes_on (eqb u.kind 1) (eqb u.kind 43) semicolons h e in
          rw (rank-of u.kind known, e, both.0, both.1)

  -- such a token has bytes
  pub else-begun : (not (eqb u.kind 1) && (not (eqb u.kind 43) || semicolons)) ≡ false → u.kind ≡ 0 → ⊥
  else-begun h z =
      let k : (u.kind ≡ 1 → ⊥) = λ y. omega arith in
      let both = goes_on (eqb u.kind 1) (eqb u.kind 43) semicolons h (ne_eqb u.kind 1 k) in
      omega (arith, eqb-true u.kind 43 both.0)

module _ (edition : ℕ) (s : List ℕ) (t : Coded) (free : Bool) where
  pub else-start : Good edition s 0 (decoded t) → t.kind < kind_count → ElseTurn edition s t free t free false
  else-start g h = record { good = g; known = h; left = length s; enough = omega arith; same = refl }

  module _ (u : Coded) (ended semicolons : Bool) (p : ElseTurn edition s t free u ended semicolons) where
    pub else-none : (eqb u.kind 14 && ended) ≡ false
        → (not (eqb u.kind 1) && (not (eqb u.kind 43) || semicolons)) ≡ true
        → None ≡ else_of (else_after edition s (length s) free false (decoded t))
    else-none e h = ap else_of (sym (step-none edition s u p.known ended semicolons p.left e h) ∙ p.same)

    module _ (v : Coded) (f : v ≡ coded (token_after edition s (decoded u))) where
      pub else-found : (eqb u.kind 14 && ended) ≡ true
          → Some v ≡ else_of (else_after edition s (length s) free false (decoded t))
      else-found e =
          let k : u.kind ≡ 14 = eqb-true u.kind 14 (and-true (eqb u.kind 14) ended e).0 in
          let longer = p.good.longer (begun u p.known (λ z. omega arith)) in
          ap Some f
          ∙ ap else_of
          (sym (step-found edition s u p.known ended semicolons p.left
          (omega (arith, longer, p.enough, p.good.within)) e)
          ∙ p.same)

      module _ (h : (not (eqb u.kind 1) && (not (eqb u.kind 43) || semicolons)) ≡ false) where
        longer : u.start < u.stop
        longer = p.good.longer (begun u p.known (else-begun edition s u p.known ended semicolons h))

        after : Good edition s u.stop (token_after edition s (decoded u))
        after = good-after edition s 0 (decoded u) p.good

        starts : v.start ≡ (token_after edition s (decoded u)).start
        starts = ap (λ (x : Coded). x.start) f

        pub else-nearer : length s - v.start < length s - u.start
        else-nearer = omega (arith, longer, after.after, starts, p.good.within)

        pub else-more : ElseTurn edition s t free v true (semicolons || eqb u.kind 43)
        else-more = go p.left refl
          where
            go : (m : ℕ) → p.left ≡ m → ElseTurn edition s t free v true (semicolons || eqb u.kind 43)
            go zero e = absurd (omega (arith, e, longer, p.enough, p.good.within))
            go (suc m) e =
                let x : Token = token_after edition s (decoded u) in
                record {
                  good = subst (Good edition s 0) (sym (decoded-back v x f)) (lower edition s (omega arith) after);
                  known = omega (arith, ap (λ (y : Coded). y.kind) f, kind-below x.kind);
                  left = m;
                  enough = omega (arith, e, longer, after.after, starts, p.enough);
                  same =
                      ap (else_after edition s m true (semicolons || eqb u.kind 43)) (decoded-back v x f)
                      ∙ (sym (step-more edition s u p.known ended semicolons m h)
                      ∙ (ap (λ (i : ℕ). else_after edition s i ended semicolons (decoded u)) (sym e) ∙ p.same));
                }

-- ---- the token after an `else` is of the text

not_end : (t : Token) (n : ℕ) → eqb (rank t.kind) n ≡ true → 0 < n → is text_end t ≡ false
unfolding rank
not_end t n e l = ne_eqb (rank t.kind) 0 (λ z. omega (arith, eqb-true (rank t.kind) n e))

module _ (edition : ℕ) (s : List ℕ) where
  later-good : (t x : Token) → Good edition s t.start t → is text_end t ≡ false
      → Good edition s ((token_after edition s t).start + 1) x → Good edition s (t.start + 1) x
  later-good t x g e h =
      lower edition s (omega (arith, g.longer e, (good-after edition s t.start t g).after)) h

  pub else-good : (m : ℕ) (free semicolons : Bool) (t x : Token) → Good edition s t.start t
      → else_after edition s m free semicolons t ≡ some x → Good edition s (t.start + 1) x
  unfolding else_after rank
  else-good zero free semicolons t x g e = absurd (none-some e)
  else-good (suc m) free semicolons t x g e =
      let later = good-after edition s t.start t g in
      choose (λ (o : Option Token). o ≡ some x → Good edition s (t.start + 1) x) (is newline t) _ _
      (λ k h. later-good t x g (not_end t 1 k (omega arith))
      (else-good m true semicolons (token_after edition s t) x (here edition s later) h))
      (λ _. choose (λ (o : Option Token). o ≡ some x → Good edition s (t.start + 1) x)
      (is semicolon t && not semicolons) _ _
      (λ k h. later-good t x g (not_end t 43 (and-true (is semicolon t) (not semicolons) k).0 (omega arith))
      (else-good m true true (token_after edition s t) x (here edition s later) h))
      (λ _. choose (λ (o : Option Token). o ≡ some x → Good edition s (t.start + 1) x) (is ELSE t && free) _ _
      (λ k h. subst (Good edition s (t.start + 1)) (some_one refl h)
      (lower edition s (omega (arith, g.longer (not_end t 14 (and-true (is ELSE t) free k).0 (omega arith)))) later))
      (λ _ h. absurd (none-some h)))) e
