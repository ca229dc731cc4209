-- The bodies of `if`, `else` and `while`.
use mathlib.Core.Path.{◌≡◌, refl, sym, ap, subst, ◌∙◌}
use mathlib.Core.Bool.{Bool, true, false}
use mathlib.Core.List.{List, [], ◌∷◌}
use mathlib.Core.Option.{Option, some, none}
use Prim.Native.Nat.{ℕ, ◌+◌, ◌-◌, ◌*◌, ◌≤◌, ◌<◌}
use native.Mathlib.Omega.{arith}
use lib.Dec.{eqb}
use lib.ListN.{length}
use lib.Seq.{sets}
use Rattle.edition.specs.Outcomes.{size_passed}
use Rattle.program_tokens.specs.Tokens.{Token}
use Rattle.program_tree.specs.Tree.{Expression, Statement, if, if-else, while}
use Rattle.program_grammar.specs.Sets.{starts_statement}
use Rattle.program_reader.specs.Read.{Read as Result, map, bind, past_newlines}
use Rattle.program_reader.specs.Statements.{
  ended,
  no_body,
  condition_at,
  else_after,
  body_at,
  else_at,
  then_at,
  if_at,
  while_at,
  statement_at,
}
use Rattle.program_code.specs.Emitted.{emit, the_instruction}
use Rattle.program_code.specs.Expressions.{size}
use Rattle.program_code.specs.Sections.{size_of, compile_statement}
use Rattle.image_format.specs.Codes.{jump, jump-if-false, flow}
use Rattle.program_lexer.specs.Coded.{coded, decoded, kind_of, kind_count}
use Rattle.program_lexer.specs.declared.tokens.Token.{Token as Coded}
use Rattle.program_words.specs.Words.{word}
use Rattle.program_parser.specs.declared.read.Read.{Read}
use Rattle.program_parser.specs.Meaning.{Wrote}
use Rattle.program_parser.specs.Reading.{answered, success, refusal, refused_by, end_of, Good, Ready, ReadingStatement}
use Rattle.program_parser.proofs.Codes.{decoded-back}
use Rattle.program_simple.specs.Statements.{place_of, else_of, body_of, ReadingCondition}
use Rattle.std.specs.Prelude.{Option as Answer, Some, None}
use Rattle.program_simple.proofs.Answers.{
  answers,
  end_is,
  fails-up,
  fails_by,
  refuse-fails,
  deep-fails,
  GotCondition,
  condition-worked,
  condition-failed,
  GotStatement,
  statement-worked,
  statement-failed,
  statement-refused,
  statement-read,
  lower,
  earlier,
  here,
  token-ready,
  ready_of,
  good-newlines,
}
use Rattle.program_simple.proofs.Jumps.{jump-wrote, branch-wrote, if-code, if-else-code, while-code}
use Rattle.program_simple.proofs.Choosing.{else-good}
use Rattle.program_statements.proofs.Cases.{body-none, body-inside}

-- ---- a body, from the token after the `)` or the `else` on

module _ (edition : ℕ) (s : List ℕ) (in_main : Bool) (levels : ℕ) (t : Coded) (n : ℕ) (xs : List ℕ)
    (rd : Ready edition s t n) (first : Coded)
    (fe : first ≡ coded (past_newlines edition s (decoded t))) where
  body-good : Good edition s t.start (past_newlines edition s (decoded t))
  body-good = good-newlines edition s t.start (decoded t) (here edition s rd.good)

  pub body-ready : Ready edition s first n
  body-ready =
      ready_of edition s first (past_newlines edition s (decoded t)) t.start n fe body-good rd.small
      (omega (arith, body-good.after, rd.count))

  here-body : decoded first ≡ past_newlines edition s (decoded t)
  here-body = decoded-back first (past_newlines edition s (decoded t)) fe

  -- the body, where no level is left
  no-level : levels ≡ 0 → body_at edition s (body_of edition s in_main levels) (decoded t)
      ≡ no_body edition in_main (decoded first)
  no-level z =
      ap (λ (f : Token → Result Statement). f (past_newlines edition s (decoded t)))
      (body-none edition s in_main levels z)
      ∙ ap (no_body edition in_main) (sym here-body)

  pub body-deep : (r : Read) (ys : List ℕ) → levels ≡ 0 → starts_statement edition in_main (kind_of first.kind) ≡ true
      → r ≡ refusal size_passed first.start
      → ReadingStatement edition s (place_of (decoded t)) n xs
      (body_at edition s (body_of edition s in_main levels) (decoded t)) r ys
  unfolding no_body
  body-deep r ys z e h =
      statement-refused edition s (place_of (decoded t)) n xs
      (body_at edition s (body_of edition s in_main levels) (decoded t)) r ys
      (deep-fails (decoded first) (no-level z ∙ rw e) h)

  pub body-bad : (r : Read) (ys : List ℕ) → levels ≡ 0 → starts_statement edition in_main (kind_of first.kind) ≡ false
      → r ≡ refusal (refused_by (decoded first)) first.start
      → ReadingStatement edition s (place_of (decoded t)) n xs
      (body_at edition s (body_of edition s in_main levels) (decoded t)) r ys
  unfolding no_body
  body-bad r ys z e h =
      statement-refused edition s (place_of (decoded t)) n xs
      (body_at edition s (body_of edition s in_main levels) (decoded t)) r ys
      (refuse-fails (decoded first) (no-level z ∙ rw e) h)

  pub body-read : (r : Read) (ys : List ℕ) → (levels ≡ 0 → ⊥)
      → ReadingStatement edition s (decoded first) n xs (statement_at edition s in_main (levels - 1) (decoded first)) r ys
      → ReadingStatement edition s (place_of (decoded t)) n xs
      (body_at edition s (body_of edition s in_main levels) (decoded t)) r ys
  body-read r ys z h =
      let same_body : statement_at edition s in_main (levels - 1) (decoded first)
      ≡ body_at edition s (body_of edition s in_main levels) (decoded t) =
      ap (statement_at edition s in_main (levels - 1)) here-body
      ∙ ap (λ (f : Token → Result Statement). f (past_newlines edition s (decoded t)))
      (sym (body-inside edition s in_main levels z)) in
      earlier edition s (place_of (decoded t)) (decoded first) n xs
      (body_at edition s (body_of edition s in_main levels) (decoded t)) r ys
      (omega (arith, ap (λ (x : Coded). x.start) fe, body-good.after))
      (omega (arith, ap (λ (x : Coded). x.stop) fe, body-good.after, body-good.ordered))
      (subst (λ (R : Result Statement). ReadingStatement edition s (decoded first) n xs R r ys) same_body h)

-- ---- the condition, and the body after it

module _ (edition : ℕ) (s : List ℕ) (body : Token → Result Statement) (levels : ℕ) (u : Coded) (n : ℕ) (xs : List ℕ)
    (rd : Ready edition s u n)
    (c : Read) (ys : List ℕ) (w : ReadingCondition edition s (decoded u) n xs
    (condition_at edition s levels (decoded u)) c ys) where
  abbrev If : Result Statement
  If = if_at edition s body levels (decoded u)

  abbrev While : Result Statement
  While = while_at edition s body levels (decoded u)

  pub if-unmet : (c.outcome ≡ 0 → ⊥) → ReadingStatement edition s (decoded u) n xs If c ys
  unfolding if_at
  if-unmet z =
      statement-refused edition s (decoded u) n xs If c ys
      (fails-up (λ (R : Result Expression). bind R (then_at edition s body)) (λ o p. refl)
      (condition-failed edition s (decoded u) n xs (condition_at edition s levels (decoded u)) c ys w z))

  pub while-unmet : (c.outcome ≡ 0 → ⊥) → ReadingStatement edition s (decoded u) n xs While c ys
  unfolding while_at
  while-unmet z =
      statement-refused edition s (decoded u) n xs While c ys
      (fails-up (λ (R : Result Expression). bind R (λ e t. map (while e) (body_at edition s body t))) (λ o p. refl)
      (condition-failed edition s (decoded u) n xs (condition_at edition s levels (decoded u)) c ys w z))

  module _ (z : c.outcome ≡ 0) where
    abbrev met : GotCondition edition s (decoded u) n xs (condition_at edition s levels (decoded u)) c ys
    met = condition-worked edition s (decoded u) n xs (condition_at edition s levels (decoded u)) c ys w z

    met-token : c.token ≡ coded met.next
    met-token = ap (λ (x : Read). x.token) met.reads.answer

    met-count : c.count ≡ n + size met.tree
    met-count = ap (λ (x : Read). x.count) met.reads.answer

    -- the body is read with room for the jump
    pub then_ready : Ready edition s c.token (c.count + 1)
    then_ready =
        ready_of edition s c.token met.next u.stop (c.count + 1) met-token met.reads.good rd.small
        (omega (arith, met-count, met.reads.bound, rd.count))

    pub met-small : c.count + 1 < 65537
    met-small = omega (arith, then_ready.count, then_ready.good.ordered, then_ready.good.within, rd.small)

    if-is : If ≡ then_at edition s body met.tree met.next
    unfolding if_at
    if-is = ap (λ (R : Result Expression). bind R (then_at edition s body)) met.result

    while-is : While ≡ map (while met.tree) (body_at edition s body met.next)
    unfolding while_at
    while-is = ap (λ (R : Result Expression). bind R (λ e t. map (while e) (body_at edition s body t))) met.result

    module _ (a : Read) (zs : List ℕ)
        (v : ReadingStatement edition s (place_of (decoded c.token)) (c.count + 1) ys
        (body_at edition s body (decoded c.token)) a zs) where
      -- the same at the definition's token
      then-part : ReadingStatement edition s (place_of met.next) (c.count + 1) ys
          (body_at edition s body met.next) a zs
      then-part =
          subst (λ (t : Token). ReadingStatement edition s (place_of t) (c.count + 1) ys (body_at edition s body t) a zs)
          (decoded-back c.token met.next met-token) v

      pub then-failed : (a.outcome ≡ 0 → ⊥) → ReadingStatement edition s (decoded u) n xs If a zs
      then-failed y =
          statement-refused edition s (decoded u) n xs If a zs
          (fails_by if-is
          (fails-up
          (λ (R : Result Statement). bind R
          (λ b t. else_at edition s body met.tree b t (else_after edition s (length s) (ended b) false t)))
          (λ o p. refl)
          (statement-failed edition s (place_of met.next) (c.count + 1) ys (body_at edition s body met.next) a zs
          then-part y)))

      pub while-failed : (a.outcome ≡ 0 → ⊥) → ReadingStatement edition s (decoded u) n xs While a zs
      while-failed y =
          statement-refused edition s (decoded u) n xs While a zs
          (fails_by while-is
          (fails-up (map (while met.tree)) (λ o p. refl)
          (statement-failed edition s (place_of met.next) (c.count + 1) ys (body_at edition s body met.next) a zs
          then-part y)))

      module _ (y : a.outcome ≡ 0) where
        abbrev done : GotStatement edition s (place_of met.next) (c.count + 1) ys
            (body_at edition s body met.next) a zs
        done = statement-worked edition s (place_of met.next) (c.count + 1) ys (body_at edition s body met.next) a
            zs then-part y

        done-token : a.token ≡ coded done.next
        done-token = ap (λ (x : Read). x.token) done.reads.answer

        done-count : a.count ≡ n + size met.tree + 1 + size_of done.tree
        done-count = omega (arith, ap (λ (x : Read). x.count) done.reads.answer, met-count)

        done-form : a.form ≡ end_of done.tree
        done-form = ap (λ (x : Read). x.form) done.reads.answer

        -- how far the text and the code are
        done-bound : size met.tree + 1 + size_of done.tree + 1 + 8 * u.start ≤ 8 * done.next.start
        done-bound = omega (arith, met.reads.bound, done.reads.bound)

        pub done-small : a.count + 1 < 65537
        done-small =
            omega (
              arith,
              done-count,
              done-bound,
              rd.count,
              rd.small,
              done.reads.good.ordered,
              done.reads.good.within,
            )

        pub done-ready : Good edition s 0 (decoded a.token) × (a.token.kind < kind_count)
        done-ready = token-ready edition s a.token done.next met.next.start done-token done.reads.good

        -- the section and the places, by the definition's sizes
        then-wrote : Wrote edition s ys (n + size met.tree + 1)
            (compile_statement done.tree (n + size met.tree + 1)) zs
        then-wrote =
            subst (λ (i : ℕ). Wrote edition s ys (i + 1) (compile_statement done.tree (i + 1)) zs) met-count
            done.reads.wrote

        branch : (qs vs : List ℕ) (x k : ℕ) → x ≡ k → x < 65537 → vs ≡ sets qs c.count (word 28 1 x ∷ [])
            → Wrote edition s qs (n + size met.tree) (emit (flow jump-if-false) 1 (the_instruction k)) vs
        branch qs vs x k e l h =
            subst (λ (i : ℕ). Wrote edition s qs (n + size met.tree)
            (emit (flow jump-if-false) 1 (the_instruction i)) vs) e
            (branch-wrote edition s qs vs (n + size met.tree) x (omega arith)
            (h ∙ ap (λ (i : ℕ). sets qs i (word 28 1 x ∷ [])) met-count))

        far : Good edition s u.stop done.next
        far = lower edition s met.reads.good.after done.reads.good

        -- ---- `while`

        pub while-done : (q : Read) (m : ℕ) (vs us : List ℕ) → m ≡ a.count + 1 → vs
            ≡ sets zs a.count (word 27 0 n ∷ [])
            → us ≡ sets vs c.count (word 28 1 m ∷ []) → q ≡ answered a.token m a.form
            → ReadingStatement edition s (decoded u) n xs While q us
        unfolding size_of ended
        while-done q m vs us me ve ue qe =
            let i : ℕ = n + size met.tree + 1 + size_of done.tree in
            let end-at : m ≡ i + 1 = omega (arith, me, done-count) in
            statement-read edition s (decoded u) n xs While q us (while met.tree done.tree) done.next
            (while-is ∙ ap (map (while met.tree)) done.result)
            (record {
              answer =
                  answers q a.token done.next m (n + (size met.tree + 1 + size_of done.tree + 1)) a.form
                  qe done-token
                  (omega (arith, end-at))
                  ∙ ap (success done.next (n + (size met.tree + 1 + size_of done.tree + 1))) done-form;
              good = far;
              bound = omega (arith, done-bound);
              wrote =
                  while-code edition s n met.tree xs ys met.reads.wrote done.tree zs then-wrote vs us
                  (jump-wrote edition s zs vs i n
                  (omega (arith, rd.count, rd.small, rd.good.ordered, rd.good.within))
                  (ve ∙ ap (λ (k : ℕ). sets zs k (word 27 0 n ∷ [])) done-count))
                  (branch vs us m (i + 1) end-at (omega (arith, me, done-small)) ue);
            })

        -- ---- `else`

        module _ (x : Answer Coded) (xe : x ≡ else_of
            (else_after edition s (length s) (eqb a.form 3) false (decoded a.token))) where
          abbrev Found : Option Token
          Found = else_after edition s (length s) (ended done.tree) false done.next

          found : x ≡ else_of Found
          found =
              xe
              ∙ (ap (λ (t : Token). else_of (else_after edition s (length s) (eqb a.form 3) false t))
              (decoded-back a.token done.next done-token)
              ∙ ap (λ (b : Bool). else_of (else_after edition s (length s) b false done.next))
              (ap (λ (f : ℕ). eqb f 3) done-form ∙ end_is done.tree))

          then_is : (o : Option Token) → Found ≡ o → If ≡ else_at edition s body met.tree done.tree done.next o
          then_is o e =
              if-is
              ∙ (ap
              (λ (R : Result Statement). bind R
              (λ b t. else_at edition s body met.tree b t (else_after edition s (length s) (ended b) false t)))
              done.result
              ∙ ap (else_at edition s body met.tree done.tree done.next) e)

          pub if-done : (vs : List ℕ) → x ≡ None → vs ≡ sets zs c.count (word 28 1 a.count ∷ [])
              → ReadingStatement edition s (decoded u) n xs If a vs
          unfolding size_of ended
          if-done vs e h =
              let i : ℕ = n + size met.tree + 1 + size_of done.tree in
              statement-read edition s (decoded u) n xs If a vs (if met.tree done.tree) done.next
              (then_is none (none_is Found (sym found ∙ e)))
              (record {
                answer =
                    done.reads.answer
                    ∙ ap (λ (k : ℕ). success done.next k (end_of done.tree)) count-is;
                good = far;
                bound = omega (arith, done-bound);
                wrote =
                    if-code edition s n met.tree xs ys met.reads.wrote done.tree zs then-wrote vs
                    (branch zs vs a.count i done-count (omega (arith, done-small)) h);
              })
            where
              none_is : (o : Option Token) → else_of o ≡ None → o ≡ none
              none_is none q = refl
              none_is (some t) q = let y : ◌≡◌ {A = ℕ} 0 1 = cc in absurd (omega arith)

              count-is : c.count + 1 + size_of done.tree ≡ n + (size met.tree + 1 + size_of done.tree)
              count-is = omega (arith, met-count)

          module _ (wt : Coded) (e : x ≡ Some wt) where
            -- the token after `else`
            after-else : (t : Token) × (Found ≡ some t) × (wt ≡ coded t)
            after-else = go Found (sym found ∙ e)
              where
                go : (o : Option Token) → else_of o ≡ Some wt → (t : Token) × (o ≡ some t) × (wt ≡ coded t)
                go none q = let y : ◌≡◌ {A = ℕ} 0 1 = cc in absurd (omega arith)
                go (some t) q = (t, refl, cc)

            else-place : Good edition s (done.next.start + 1) after-else.0
            else-place =
                else-good edition s (length s) (ended done.tree) false done.next after-else.0
                (here edition s done.reads.good)
                after-else.1

            pub else-ready : Ready edition s wt (a.count + 1)
            else-ready =
                ready_of edition s wt after-else.0 (done.next.start + 1) (a.count + 1) after-else.2 else-place
                rd.small
                (omega (arith, done-count, done-bound, else-place.after, rd.count))

            module _ (b : Read) (vs : List ℕ)
                (h : ReadingStatement edition s (place_of (decoded wt)) (a.count + 1) zs
                (body_at edition s body (decoded wt)) b vs) where
              else-part : ReadingStatement edition s (place_of after-else.0) (a.count + 1) zs
                  (body_at edition s body after-else.0) b vs
              else-part =
                  subst (λ (t : Token). ReadingStatement edition s (place_of t) (a.count + 1) zs
                  (body_at edition s body t) b vs)
                  (decoded-back wt after-else.0 after-else.2) h

              pub else-failed : (b.outcome ≡ 0 → ⊥) → ReadingStatement edition s (decoded u) n xs If b vs
              else-failed k =
                  statement-refused edition s (decoded u) n xs If b vs
                  (fails_by (then_is (some after-else.0) after-else.1)
                  (fails-up (map (if-else met.tree done.tree)) (λ o p. refl)
                  (statement-failed edition s (place_of after-else.0) (a.count + 1) zs
                  (body_at edition s body after-else.0) b vs else-part k)))

              module _ (k : b.outcome ≡ 0) where
                abbrev other : GotStatement edition s (place_of after-else.0) (a.count + 1) zs
                    (body_at edition s body after-else.0) b vs
                other = statement-worked edition s (place_of after-else.0) (a.count + 1) zs
                    (body_at edition s body after-else.0) b vs else-part k

                other-count : b.count ≡ n + size met.tree + 1 + size_of done.tree + 1 + size_of other.tree
                other-count = omega (arith, ap (λ (x : Read). x.count) other.reads.answer, done-count)

                other-bound : size met.tree + 1 + size_of done.tree + 1 + size_of other.tree + 8 * u.start ≤ 8
                    * other.next.start
                other-bound = omega (arith, done-bound, other.reads.bound, else-place.after)

                pub other-small : b.count < 65537
                other-small =
                    omega (
                      arith,
                      other-count,
                      other-bound,
                      rd.count,
                      rd.small,
                      other.reads.good.ordered,
                      other.reads.good.within,
                    )

                pub else-done : (us ts : List ℕ) → us ≡ sets vs a.count (word 27 0 b.count ∷ [])
                    → ts ≡ sets us c.count (word 28 1 (a.count + 1) ∷ [])
                    → ReadingStatement edition s (decoded u) n xs If b ts
                unfolding size_of ended
                else-done us ts ue te =
                    let i : ℕ = n + size met.tree + 1 + size_of done.tree in
                    let j : a.count + 1 ≡ i + 1 = omega (arith, done-count) in
                    statement-read edition s (decoded u) n xs If b ts (if-else met.tree done.tree other.tree)
                    other.next
                    (then_is (some after-else.0) after-else.1
                    ∙ ap (map (if-else met.tree done.tree)) other.result)
                    (record {
                      answer =
                          other.reads.answer
                          ∙ ap (λ (m : ℕ). success other.next m (end_of other.tree)) count-is;
                      good =
                          lower edition s (omega (arith, else-place.after, far.after)) other.reads.good;
                      bound = other-bound;
                      wrote =
                          if-else-code edition s n met.tree xs ys met.reads.wrote done.tree zs then-wrote
                          other.tree vs us ts
                          (subst (λ (m : ℕ). Wrote edition s zs (m + 1) (compile_statement other.tree (m + 1)) vs)
                          done-count other.reads.wrote)
                          (subst (λ (m : ℕ). Wrote edition s vs i (emit (flow jump) 0 (the_instruction m)) us)
                          other-count
                          (jump-wrote edition s vs us i b.count (omega (arith, other-small))
                          (ue ∙ ap (λ (m : ℕ). sets vs m (word 27 0 b.count ∷ [])) done-count)))
                          (branch us ts (a.count + 1) (i + 1) j (omega (arith, done-small)) te);
                    })
                  where
                    count-is : a.count + 1 + size_of other.tree
                        ≡ n + (size met.tree + 1 + size_of done.tree + 1 + size_of other.tree)
                    count-is = omega (arith, done-count)
