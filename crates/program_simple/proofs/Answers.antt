-- Readings taken apart: what was read, or what was refused; and the tokens that a reader may begin at.
use mathlib.Core.Path.{◌≡◌, refl, sym, ap, subst, ◌∙◌}
use mathlib.Core.Bool.{Bool, true, false, cond}
use mathlib.Core.List.{List}
use Prim.Native.Nat.{ℕ, ◌*◌, ◌≤◌, ◌<◌}
use native.Mathlib.Omega.{arith}
use lib.Dec.{eqb}
use lib.ListN.{length}
use borrow.Author.Tests.{ne_eqb}
use Rattle.edition.specs.Limits.{filter_text}
use Rattle.edition.specs.Outcomes.{bad_token, misplaced_token, bad_ere, size_passed}
use Rattle.program_tokens.specs.Kinds.{bad, bad-ere, text_end, rank}
use Rattle.program_tokens.specs.Tokens.{Token, is}
use Rattle.program_tree.specs.Tree.{Expression, Statement}
use Rattle.program_reader.specs.Statements.{ended}
use Rattle.program_reader.specs.Read.{Read as Result, ok, no, refuse, too_deep, operand_after, past_newlines}
use Rattle.program_lexer.specs.Coded.{coded, decoded, kind_count}
use Rattle.program_lexer.specs.declared.tokens.Token.{Token as Coded}
use Rattle.program_lexer.proofs.Coding.{rank-of}
use Rattle.program_parser.specs.declared.read.Read.{Read}
use Rattle.program_parser.specs.Reading.{
  answered,
  success,
  refusal,
  refused_by,
  end_of,
  Good,
  Ready,
  ReadExpression,
  Reading,
  ReadStatement,
  ReadingStatement,
}
use Rattle.program_parser.proofs.Codes.{kind-below, decoded-back}
use Rattle.program_parser.proofs.Tokens.{good-after, good-operand, good-past}
use Rattle.program_simple.specs.Statements.{ReadCondition, ReadingCondition}

-- ---- what was refused

pub record Fails {A : Type 0} (R : Result A) (r : Read) : Type 0 where
  pub number : ℕ
  pub place : ℕ
  pub result : R ≡ no number place
  pub answer : r ≡ refusal number place
  pub some_number : number ≡ 0 → ⊥

-- a refusal goes up
pub fails-up : {A B : Type 0} (F : Result A → Result B) → ((o p : ℕ) → F (no o p) ≡ no o p) → {R : Result A} {r : Read}
    → Fails R r
    → Fails (F R) r
fails-up F h f =
    record {
      number = f.number;
      place = f.place;
      result = ap F f.result ∙ h f.number f.place;
      answer = f.answer;
      some_number = f.some_number;
    }

pub fails_by : {A : Type 0} {R Q : Result A} {r : Read} → Q ≡ R → Fails R r → Fails Q r
fails_by e f =
    record {
      number = f.number;
      place = f.place;
      result = e
          ∙ f.result;
      answer = f.answer;
      some_number = f.some_number;
    }

pub some-refused : (u : Token) → refused_by u ≡ 0 → ⊥
some-refused u = go (is bad u) (is bad-ere u)
  where
    go : (x y : Bool) → cond x bad_token (cond y bad_ere misplaced_token) ≡ 0 → ⊥
    go true y z = omega arith
    go false true z = omega arith
    go false false z = omega arith

pub refuse-fails : {A : Type 0} {R : Result A} {r : Read} (u : Token) → R ≡ refuse u → r
    ≡ refusal (refused_by u) u.start → Fails R r
refuse-fails u e h =
    record { number = refused_by u; place = u.start; result = e; answer = h; some_number = some-refused u }

pub deep-fails : {A : Type 0} {R : Result A} {r : Read} (u : Token) → R ≡ too_deep u → r ≡ refusal size_passed u.start
    → Fails R r
deep-fails u e h = record {
  number = size_passed;
  place = u.start;
  result = e;
  answer = h;
  some_number = λ z. omega
      arith;
}

-- a token that is not the text's end has bytes
pub begun : (t : Coded) → t.kind < kind_count → (t.kind ≡ 0 → ⊥) → is text_end (decoded t) ≡ false
unfolding rank
begun t h z = rw (rank-of t.kind h) (ne_eqb t.kind 0 z)

-- ---- an answer that was made

pub answers : (r : Read) (v : Coded) (x : Token) (m k f : ℕ) → r ≡ answered v m f → v ≡ coded x → m ≡ k → r
    ≡ success x k f
answers r v x m k f e t c = e ∙ (ap (λ (y : Coded). answered y m f) t ∙ ap (λ (i : ℕ). success x i f) c)

-- the number of what a statement is tells whether it is ended
pub end_is : (a : Statement) → eqb (end_of a) 3 ≡ ended a
end_is a = go (ended a)
  where
    go : (b : Bool) → eqb (cond b 3 0) 3 ≡ b
    go true = refl
    go false = refl

module _ (edition : ℕ) (s : List ℕ) where
  module _ (t : Token) (n : ℕ) (xs : List ℕ) where
    -- ---- expressions

    pub record GotExpression (d : ℕ) (R : Result Expression) (r : Read) (ys : List ℕ) : Type 0 where
      pub tree : Expression
      pub next : Token
      pub result : R ≡ ok tree next
      pub reads : ReadExpression edition s t n d xs tree next r ys

    pub expression-worked : (d : ℕ) (R : Result Expression) (r : Read) (ys : List ℕ)
        → Reading edition s t n d xs R r ys → r.outcome ≡ 0
        → GotExpression d R r ys
    unfolding Reading
    expression-worked d (ok e u) r ys h z = record { tree = e; next = u; result = refl; reads = h }
    expression-worked d (no o p) r ys h z = absurd (h.1 (sym (ap (λ (x : Read). x.outcome) h.0) ∙ z))

    pub expression-failed : (d : ℕ) (R : Result Expression) (r : Read) (ys : List ℕ) → Reading edition s t n d xs R r ys
        → (r.outcome ≡ 0 → ⊥) → Fails R r
    unfolding Reading
    expression-failed d (ok e u) r ys h z = absurd (z (ap (λ (x : Read). x.outcome) h.answer))
    expression-failed d (no o p) r ys h z = record
        { number = o; place = p; result = refl; answer = h.0; some_number = h.1 }

    -- the answer's token has a kind
    pub expression-known : (d : ℕ) (R : Result Expression) (r : Read) (ys : List ℕ) → Reading edition s t n d xs R r ys
        → r.token.kind < kind_count
    unfolding Reading
    expression-known d (ok e u) r ys h = omega
        (arith, ap (λ (x : Read). x.token.kind) h.answer, kind-below u.kind)
    expression-known d (no o p) r ys h = omega (arith, ap (λ (x : Read). x.token.kind) h.0)

    -- ---- conditions

    pub record GotCondition (R : Result Expression) (r : Read) (ys : List ℕ) : Type 0 where
      pub tree : Expression
      pub next : Token
      pub result : R ≡ ok tree next
      pub reads : ReadCondition edition s t n xs tree next r ys

    pub condition-worked : (R : Result Expression) (r : Read) (ys : List ℕ) → ReadingCondition edition s t n xs R r ys
        → r.outcome ≡ 0
        → GotCondition R r ys
    unfolding ReadingCondition
    condition-worked (ok e u) r ys h z = record { tree = e; next = u; result = refl; reads = h }
    condition-worked (no o p) r ys h z = absurd (h.1 (sym (ap (λ (x : Read). x.outcome) h.0) ∙ z))

    pub condition-failed : (R : Result Expression) (r : Read) (ys : List ℕ) → ReadingCondition edition s t n xs R r ys
        → (r.outcome ≡ 0 → ⊥) → Fails R r
    unfolding ReadingCondition
    condition-failed (ok e u) r ys h z = absurd (z (ap (λ (x : Read). x.outcome) h.answer))
    condition-failed (no o p) r ys h z = record
        { number = o; place = p; result = refl; answer = h.0; some_number = h.1 }

    pub condition-refused : (R : Result Expression) (r : Read) (ys : List ℕ) → Fails R r
        → ReadingCondition edition s t n xs R r ys
    unfolding ReadingCondition
    condition-refused R r ys f = rw f.result (f.answer, f.some_number)

    -- ---- statements

    pub record GotStatement (R : Result Statement) (r : Read) (ys : List ℕ) : Type 0 where
      pub tree : Statement
      pub next : Token
      pub result : R ≡ ok tree next
      pub reads : ReadStatement edition s t n xs tree next r ys

    pub statement-worked : (R : Result Statement) (r : Read) (ys : List ℕ) → ReadingStatement edition s t n xs R r ys
        → r.outcome ≡ 0
        → GotStatement R r ys
    unfolding ReadingStatement
    statement-worked (ok a u) r ys h z = record { tree = a; next = u; result = refl; reads = h }
    statement-worked (no o p) r ys h z = absurd (h.1 (sym (ap (λ (x : Read). x.outcome) h.0) ∙ z))

    pub statement-failed : (R : Result Statement) (r : Read) (ys : List ℕ) → ReadingStatement edition s t n xs R r ys
        → (r.outcome ≡ 0 → ⊥) → Fails R r
    unfolding ReadingStatement
    statement-failed (ok a u) r ys h z = absurd (z (ap (λ (x : Read). x.outcome) h.answer))
    statement-failed (no o p) r ys h z = record
        { number = o; place = p; result = refl; answer = h.0; some_number = h.1 }

    pub statement-refused : (R : Result Statement) (r : Read) (ys : List ℕ) → Fails R r
        → ReadingStatement edition s t n xs R r ys
    unfolding ReadingStatement
    statement-refused R r ys f = rw f.result (f.answer, f.some_number)

    pub statement-read : (R : Result Statement) (r : Read) (ys : List ℕ) (a : Statement) (u : Token) → R ≡ ok a u
        → ReadStatement edition s t n xs a u r ys → ReadingStatement edition s t n xs R r ys
    unfolding ReadingStatement
    statement-read R r ys a u e h = rw e h

    pub statement-known : (R : Result Statement) (r : Read) (ys : List ℕ) → ReadingStatement edition s t n xs R r ys
        → r.token.kind < kind_count
    unfolding ReadingStatement
    statement-known (ok a u) r ys h = omega (arith, ap (λ (x : Read). x.token.kind) h.answer, kind-below u.kind)
    statement-known (no o p) r ys h = omega (arith, ap (λ (x : Read). x.token.kind) h.0)

  -- ---- tokens

  pub lower : {p q : ℕ} {t : Token} → q ≤ p → Good edition s p t → Good edition s q t
  lower h g =
      record {
        after = omega (arith, g.after);
        ordered = g.ordered;
        within = g.within;
        longer = g.longer;
        placed
            = g.placed;
      }

  -- a reading from a token is one from an earlier token
  pub earlier : (p t : Token) (n : ℕ) (xs : List ℕ) (R : Result Statement) (r : Read) (ys : List ℕ)
      → p.start ≤ t.start → p.stop ≤ t.stop
      → ReadingStatement edition s t n xs R r ys → ReadingStatement edition s p n xs R r ys
  unfolding ReadingStatement
  earlier p t n xs (ok a u) r ys h l w =
      record { answer = w.answer; good = lower l w.good; bound = omega (arith, w.bound); wrote = w.wrote }
  earlier p t n xs (no o q) r ys h l w = w

  pub ready_of : (u : Coded) (x : Token) (p n : ℕ) → u ≡ coded x → Good edition s p x → length s ≤ filter_text
      → n ≤ 8 * x.start
      → Ready edition s u n
  ready_of u x p n e g small h =
      record {
        good = subst (Good edition s 0) (sym (decoded-back u x e)) (lower (omega arith) g);
        known = omega (arith, ap (λ (y : Coded). y.kind) e, kind-below x.kind);
        small = small;
        count = omega (arith, ap (λ (y : Coded). y.start) e);
      }

  pub token-ready : (u : Coded) (x : Token) (p : ℕ) → u ≡ coded x → Good edition s p x → Good edition s 0 (decoded u)
      × (u.kind < kind_count)
  token-ready u x p e g = (
    subst (Good edition s 0) (sym (decoded-back u x e)) (lower (omega arith) g),
    omega (arith, ap (λ (y : Coded). y.kind) e, kind-below x.kind),
  )

  -- a token, from its own place on
  pub here : {p : ℕ} {t : Token} → Good edition s p t → Good edition s t.start t
  here g = record {
    after = omega arith;
    ordered = g.ordered;
    within = g.within;
    longer = g.longer;
    placed
        = g.placed;
  }

  -- the token after newlines, where the grammar allows an operand
  pub good-newlines : (p : ℕ) (t : Token) → Good edition s p t → Good edition s p (past_newlines edition s t)
  good-newlines p t g = good-operand edition s p _ (good-past edition s p _ (length s) t g)

  -- the token after t, where the grammar allows an operand
  pub good-next : (p : ℕ) (t : Token) → Good edition s p t → Good edition s t.stop (operand_after edition s t)
  good-next p t g = good-operand edition s t.stop _ (good-after edition s p t g)
