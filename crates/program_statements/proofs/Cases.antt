-- What a statement is, by the number of its first token's kind.
use mathlib.Core.Path.{◌≡◌, refl, sym, ap, ◌∙◌}
use mathlib.Core.Bool.{Bool, true, false, ◌&&◌}
use mathlib.Core.List.{List}
use Prim.Native.Nat.{ℕ, zero, suc, ◌-◌, ◌<◌}
use native.Mathlib.Omega.{arith}
use lib.Dec.{eqb}
use borrow.Author.Tests.{eqb-true, eq-eqb, ne_eqb}
use Rattle.lists.proofs.Tests.{clash, and-true}
use Rattle.program_tokens.specs.Kinds.{rank}
use Rattle.program_tokens.specs.Tokens.{Token, token_after}
use Rattle.program_tree.specs.Tree.{Expression, Statement, expression, next, exit, empty}
use Rattle.program_reader.specs.Read.{Read as Result, ok, no, map, too_deep, operand_after}
use Rattle.program_reader.specs.Expressions.{expression_at}
use Rattle.program_reader.specs.Statements.{print_at, if_at, while_at, statement_of, statement_at, block_of}
use Rattle.program_code.specs.Sections.{size_of}
use Rattle.program_lexer.specs.Coded.{decoded, kind_count}
use Rattle.program_lexer.specs.declared.tokens.Token.{Token as Coded}
use Rattle.program_lexer.proofs.Coding.{rank-of}
use Rattle.program_parser.specs.declared.read.Read.{Read}
use Rattle.program_parser.specs.Reading.{Ready, ReadStatement}
use Rattle.program_simple.specs.Statements.{body_of, braces_of}
use Rattle.program_simple.proofs.Answers.{begun}

module _ (edition : ℕ) (s : List ℕ) (in_main : Bool) where
  at_level : (levels : ℕ) (t : Token) → statement_at edition s in_main levels t
      ≡ statement_of edition s in_main levels (body_of edition s in_main levels) (braces_of edition s in_main levels) t
  unfolding statement_at
  at_level zero t = refl
  at_level (suc levels) t = refl

  -- the levels that are left inside
  pub body-none : (levels : ℕ) → levels ≡ 0 → body_of edition s in_main levels ≡ body_of edition s in_main 0
  body-none levels e = ap (body_of edition s in_main) e

  pub body-inside : (levels : ℕ) → (levels ≡ 0 → ⊥) → body_of edition s in_main levels
      ≡ statement_at edition s in_main (levels - 1)
  body-inside zero z = absurd (z refl)
  body-inside (suc levels) z = let e : levels ≡ suc levels - 1 = omega arith in ap (statement_at edition s in_main) e

  braces-inside : (levels : ℕ) → (levels ≡ 0 → ⊥) → braces_of edition s in_main levels
      ≡ block_of edition s (statement_at edition s in_main (levels - 1))
  braces-inside zero z = absurd (z refl)
  braces-inside (suc levels) z =
      let e : levels ≡ suc levels - 1 = omega arith in
      ap (λ (l : ℕ). block_of edition s (statement_at edition s in_main l)) e

  module _ (levels : ℕ) (t : Coded) (h : t.kind < kind_count) where
    at-braces : t.kind ≡ 36 → statement_at edition s in_main levels (decoded t)
        ≡ braces_of edition s in_main levels (decoded t)
    unfolding statement_of rank
    at-braces e = at_level levels (decoded t)
        ∙ simp (rank-of t.kind h, ne_eqb t.kind 43 (λ z. omega arith), eq-eqb t.kind 36 e)

    pub kind-deep : t.kind ≡ 36 → levels ≡ 0 → statement_at edition s in_main levels (decoded t) ≡ too_deep (decoded t)
    kind-deep e z = at-braces e ∙ ap (λ (l : ℕ). braces_of edition s in_main l (decoded t)) z

    pub kind-block : t.kind ≡ 36 → (levels ≡ 0 → ⊥)
        → statement_at edition s in_main levels (decoded t)
        ≡ block_of edition s (statement_at edition s in_main (levels - 1)) (decoded t)
    kind-block e z = at-braces e ∙ ap (λ (f : Token → Result Statement). f (decoded t)) (braces-inside levels z)

    pub kind-empty : t.kind ≡ 43 → statement_at edition s in_main levels (decoded t)
        ≡ ok empty (token_after edition s (decoded t))
    unfolding statement_of rank
    kind-empty e = at_level levels (decoded t) ∙ simp (rank-of t.kind h, eq-eqb t.kind 43 e)

    pub kind-if : t.kind ≡ 13
        → statement_at edition s in_main levels (decoded t) ≡ if_at edition s (body_of edition s in_main levels) levels
        (token_after edition s (decoded t))
    unfolding statement_of rank
    kind-if e =
        at_level levels (decoded t)
        ∙ simp (
          rank-of t.kind h,
          ne_eqb t.kind 43 (λ z. omega arith),
          ne_eqb t.kind 36 (λ z. omega arith),
          eq-eqb t.kind 13 e,
        )

    pub kind-while : t.kind ≡ 15
        → statement_at edition s in_main levels (decoded t) ≡ while_at edition s (body_of edition s in_main levels) levels
        (token_after edition s (decoded t))
    unfolding statement_of rank
    kind-while e =
        at_level levels (decoded t)
        ∙ simp (
          rank-of t.kind h,
          ne_eqb t.kind 43 (λ z. omega arith),
          ne_eqb t.kind 36 (λ z. omega arith),
          ne_eqb t.kind 13 (λ z. omega arith),
          eq-eqb t.kind 15 e,
        )

    pub kind-print : t.kind ≡ 16
        → statement_at edition s in_main levels (decoded t)
        ≡ print_at edition s levels (operand_after edition s (decoded t))
    unfolding statement_of rank
    kind-print e =
        at_level levels (decoded t)
        ∙ simp (
          rank-of t.kind h,
          ne_eqb t.kind 43 (λ z. omega arith),
          ne_eqb t.kind 36 (λ z. omega arith),
          ne_eqb t.kind 13 (λ z. omega arith),
          ne_eqb t.kind 15 (λ z. omega arith),
          eq-eqb t.kind 16 e,
        )

    pub kind-exit : t.kind ≡ 18 → statement_at edition s in_main levels (decoded t)
        ≡ ok exit (token_after edition s (decoded t))
    unfolding statement_of rank
    kind-exit e =
        at_level levels (decoded t)
        ∙ simp (
          rank-of t.kind h,
          ne_eqb t.kind 43 (λ z. omega arith),
          ne_eqb t.kind 36 (λ z. omega arith),
          ne_eqb t.kind 13 (λ z. omega arith),
          ne_eqb t.kind 15 (λ z. omega arith),
          ne_eqb t.kind 16 (λ z. omega arith),
          eq-eqb t.kind 18 e,
        )

    -- `next` "(not in BEGIN or END)"
    pub kind-next : (eqb t.kind 17 && in_main) ≡ true
        → statement_at edition s in_main levels (decoded t) ≡ ok next (token_after edition s (decoded t))
    unfolding statement_of rank
    kind-next b =
        let e : t.kind ≡ 17 = eqb-true t.kind 17 (and-true (eqb t.kind 17) in_main b).0 in
        at_level levels (decoded t)
        ∙ simp (
          rank-of t.kind h,
          ne_eqb t.kind 43 (λ z. omega arith),
          ne_eqb t.kind 36 (λ z. omega arith),
          ne_eqb t.kind 13 (λ z. omega arith),
          ne_eqb t.kind 15 (λ z. omega arith),
          ne_eqb t.kind 16 (λ z. omega arith),
          ne_eqb t.kind 18 (λ z. omega arith),
          b,
        )

    pub kind-expression : (t.kind ≡ 36 → ⊥) → (t.kind ≡ 43 → ⊥) → (t.kind ≡ 13 → ⊥) → (t.kind ≡ 15 → ⊥)
        → (t.kind ≡ 16 → ⊥)
        → (t.kind ≡ 18 → ⊥) → (eqb t.kind 17 && in_main) ≡ false
        → statement_at edition s in_main levels (decoded t)
        ≡ map expression (expression_at edition s levels false (decoded t))
    unfolding statement_of rank
    kind-expression a b c d e f g =
        at_level levels (decoded t)
        ∙ simp (
          rank-of t.kind h,
          ne_eqb t.kind 43 b,
          ne_eqb t.kind 36 a,
          ne_eqb t.kind 13 c,
          ne_eqb t.kind 15 d,
          ne_eqb t.kind 16 e,
          ne_eqb t.kind 18 f,
          g,
        )

    -- an expression statement has an instruction
    some_code : (R : Result Expression) (a : Statement) (u : Token) → map expression R ≡ ok a u → 0 < size_of a
    unfolding size_of
    some_code (ok e v) a u q =
        let same-tree : expression e ≡ a = cc in
        rw (← same-tree) (omega arith)
    some_code (no o p) a u q = let z : ◌≡◌ {A = ℕ} 0 1 = cc in absurd (omega arith)

    -- what follows a statement starts after it
    pub statement-further : (n m : ℕ) (xs ys : List ℕ) (a : Statement) (u : Token) (r : Read) → Ready edition s t n
        → statement_at edition s in_main levels (decoded t) ≡ ok a u → ReadStatement edition s (decoded t) m xs a u r ys
        → t.start < u.start
    statement-further n m xs ys a u r rd q w = go (eqb t.kind 0) refl
      where
        no_zero : t.kind ≡ 0 → eqb t.kind 0 ≡ false → ⊥
        no_zero z e = let q : ◌≡◌ {A = Bool} true false = sym (eq-eqb t.kind 0 z) ∙ e in clash q

        go : (b : Bool) → eqb t.kind 0 ≡ b → t.start < u.start
        go true e =
            let z : t.kind ≡ 0 = eqb-true t.kind 0 e in
            let other : (eqb t.kind 17 && in_main) ≡ false = rw z in
            let is_one = kind-expression (λ k. omega arith) (λ k. omega arith) (λ k. omega arith) (λ k. omega arith)
            (λ k. omega arith)
            (λ k. omega arith) other in
            omega (arith, w.bound, some_code (expression_at edition s levels false (decoded t)) a u (sym is_one ∙ q))
        go false e =
            let longer = rd.good.longer (begun t h (λ z. no_zero z e)) in
            omega (arith, longer, w.good.after)
