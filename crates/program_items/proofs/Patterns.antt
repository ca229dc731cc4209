-- Actions, and the items of the main section.
use mathlib.Core.Path.{◌≡◌, refl, sym, ap, subst, ◌∙◌}
use mathlib.Core.Bool.{Bool, true, false, cond, ◌||◌}
use mathlib.Core.List.{List, [], ◌∷◌}
use mathlib.Core.Option.{Option, some, none}
use Prim.Native.Nat.{ℕ, ◌+◌, ◌-◌, ◌*◌, ◌≤◌, ◌<◌}
use native.Mathlib.Omega.{arith}
use lib.Dec.{eqb}
use lib.Seq.{sets}
use borrow.Author.Tests.{eqb-true, eq-eqb, ne_eqb}
use Rattle.lists.proofs.Tests.{clash, or_turned}
use Rattle.edition.specs.Limits.{nesting_depth}
use Rattle.program_tokens.specs.Kinds.{Kind, text_end, newline, semicolon, open_brace, among, same, rank}
use Rattle.program_tokens.specs.Tokens.{Token, is, is_one_of, token_after}
use Rattle.program_tree.specs.Tree.{Expression, Statement, print, Item, begin, end, main}
use Rattle.program_grammar.specs.Sets.{enders}
use Rattle.program_reader.specs.Read.{Read as Result, ok, no, map, refuse}
use Rattle.program_reader.specs.Expressions.{expression_at}
use Rattle.program_reader.specs.Statements.{statement_at, block_of}
use Rattle.program_reader.specs.Programs.{action_at, after_pattern, item_at}
use Rattle.program_code.specs.Emitted.{emit, the_instruction}
use Rattle.program_code.specs.Expressions.{size}
use Rattle.program_code.specs.Sections.{size_print, size_of, compile_print, compile_statement, guarded}
use Rattle.image_format.specs.Codes.{jump-if-false, flow}
use Rattle.program_lexer.specs.Coded.{coded, decoded, kind_of, kind_count}
use Rattle.program_lexer.specs.declared.tokens.Token.{Token as Coded}
use Rattle.program_lexer.proofs.Coding.{rank-of}
use Rattle.program_words.specs.Words.{word, print_words}
use Rattle.program_parser.specs.declared.read.Read.{Read}
use Rattle.program_parser.specs.Meaning.{Wrote}
use Rattle.program_parser.specs.Reading.{answered, refusal, refused_by, Ready, Reading, ReadingStatement}
use Rattle.program_parser.proofs.Codes.{decoded-back}
use Rattle.program_items.specs.Items.{ReadMain, ReadingMain}
use Rattle.program_simple.proofs.Answers.{
  Fails,
  fails-up,
  fails_by,
  refuse-fails,
  begun,
  GotExpression,
  expression-worked,
  expression-failed,
  GotStatement,
  statement-worked,
  statement-failed,
  statement-refused,
  lower,
  ready_of,
}
use Rattle.program_simple.proofs.Jumps.{branch-wrote, bare-wrote, if-code}

-- ---- actions

module _ (edition : ℕ) (s : List ℕ) (in_main : Bool) (t : Coded) (n : ℕ) (xs : List ℕ) (known : t.kind < kind_count)
  where
    pub action-refused : (r : Read) (ys : List ℕ) → (t.kind ≡ 36 → ⊥) → r ≡ refusal (refused_by (decoded t)) t.start
        → ReadingStatement edition s (decoded t) n xs (action_at edition s in_main (decoded t)) r ys
    unfolding action_at rank
    action-refused r ys k h =
        statement-refused edition s (decoded t) n xs (action_at edition s in_main (decoded t)) r ys
        (refuse-fails (decoded t) (rw (rank-of t.kind known, ne_eqb t.kind 36 k)) h)

    action-is : t.kind ≡ 36 → action_at edition s in_main (decoded t)
        ≡ block_of edition s (statement_at edition s in_main (nesting_depth - 1)) (decoded t)
    unfolding action_at rank
    action-is k = rw (rank-of t.kind known, eq-eqb t.kind 36 k)

    pub action-read : (r : Read) (ys : List ℕ) → t.kind ≡ 36
        → ReadingStatement edition s (decoded t) n xs
        (block_of edition s (statement_at edition s in_main (nesting_depth - 1)) (decoded t)) r ys
        → ReadingStatement edition s (decoded t) n xs (action_at edition s in_main (decoded t)) r ys
    action-read r ys k h =
        subst (λ (R : Result Statement). ReadingStatement edition s (decoded t) n xs R r ys) (sym (action-is k)) h

-- ---- items of the main section

module _ (edition : ℕ) (s : List ℕ) (t : Token) (n : ℕ) (xs : List ℕ) where
  pub main-refused : (R : Result Item) (r : Read) (ys : List ℕ) → Fails R r → ReadingMain edition s t n xs R r ys
  unfolding ReadingMain
  main-refused R r ys f = rw f.result (f.answer, f.some_number)

  pub main-read : (R : Result Item) (r : Read) (ys : List ℕ) (e : Option Expression) (a : Statement) (u : Token) → R
      ≡ ok (main e a) u
      → ReadMain edition s t n xs (guarded e a) u r ys → ReadingMain edition s t n xs R r ys
  unfolding ReadingMain
  main-read R r ys e a u h w = rw h w

-- a token that ends a pattern without an action
pub end-kind : (k : Kind) → (among enders k || eqb (rank k) 0) ≡ among (text_end ∷ enders) k
unfolding among rank
end-kind k = or_turned (same k newline || (same k semicolon || false)) (eqb (rank k) 0)

no-brace : (k : Kind) → among (text_end ∷ enders) k ≡ true → same k open_brace ≡ false
unfolding among rank
no-brace k e = ne_eqb (rank k) 36 (λ z. clash (sym e ∙ rw z))

module _ (edition : ℕ) (s : List ℕ) where
  pattern-no : (o p : ℕ) → after_pattern edition s (no o p) ≡ no o p
  unfolding after_pattern
  pattern-no o p = refl

  pattern-alone : (e : Expression) (t : Token) → is_one_of (text_end ∷ enders) t ≡ true
      → after_pattern edition s (ok e t) ≡ ok (main (some e) (print [])) t
  unfolding after_pattern
  pattern-alone e t h = rw (no-brace t.kind h, h)

  pattern-action : (e : Expression) (t : Token) → is_one_of (text_end ∷ enders) t ≡ false
      → after_pattern edition s (ok e t) ≡ map (main (some e)) (action_at edition s true t)
  unfolding after_pattern action_at
  pattern-action e t h = go (is open_brace t)
    where
      Block : Result Statement
      Block = block_of edition s (statement_at edition s true (nesting_depth - 1)) t

      go : (b : Bool)
          → cond b (map (main (some e)) (cond b Block (refuse t)))
          (cond (is_one_of (text_end ∷ enders) t) (ok (main (some e) (print [])) t) (refuse t))
          ≡ map (main (some e)) (cond b Block (refuse t))
      go true = refl
      go false = rw h

  module _ (t : Coded) (n : ℕ) (xs : List ℕ) (rd : Ready edition s t n) (c : Read) (ys : List ℕ)
      (w : Reading edition s (decoded t) n 0 xs (expression_at edition s nesting_depth false (decoded t)) c ys) where
    abbrev Item-of : Result Item
    Item-of = after_pattern edition s (expression_at edition s nesting_depth false (decoded t))

    pub pattern-failed : (c.outcome ≡ 0 → ⊥) → ReadingMain edition s (decoded t) n xs Item-of c ys
    pattern-failed z =
        main-refused edition s (decoded t) n xs Item-of c ys
        (fails-up (after_pattern edition s) pattern-no
        (expression-failed edition s (decoded t) n xs 0 (expression_at edition s nesting_depth false (decoded t)) c ys w
        z))

    module _ (z : c.outcome ≡ 0) where
      abbrev got : GotExpression edition s (decoded t) n xs 0 (expression_at edition s nesting_depth false (decoded t)) c
          ys
      got = expression-worked edition s (decoded t) n xs 0 (expression_at edition s nesting_depth false (decoded t)) c ys
          w z

      token-is : c.token ≡ coded got.next
      token-is = ap (λ (x : Read). x.token) got.reads.answer

      count-is : c.count ≡ n + size got.tree
      count-is = ap (λ (x : Read). x.count) got.reads.answer

      kind-is : c.token.kind ≡ rank got.next.kind
      kind-is = ap (λ (x : Coded). x.kind) token-is

      further : t.start < got.next.start
      further = omega (arith, got.reads.bound)

      pub pattern-ready : Ready edition s c.token (c.count + 1)
      pattern-ready =
          ready_of edition s c.token got.next t.stop (c.count + 1) token-is got.reads.good rd.small
          (omega (arith, count-is, got.reads.bound, rd.count))

      pub pattern-small : c.count + 1 < 65537
      pattern-small = omega (
        arith,
        pattern-ready.count,
        pattern-ready.good.ordered,
        pattern-ready.good.within,
        rd.small,
      )

      -- the test that the code makes, by the definition's token
      end_is : (b : Bool) → (among enders (kind_of c.token.kind) || eqb c.token.kind 0) ≡ b
          → is_one_of (text_end ∷ enders) got.next ≡ b
      end_is b e =
          sym (end-kind got.next.kind)
          ∙ (ap (λ (i : ℕ). among enders got.next.kind || eqb i 0) (sym kind-is)
          ∙ (ap (λ (x : Token). among enders x.kind || eqb c.token.kind 0)
          (sym (decoded-back c.token got.next token-is)) ∙ e))

      branch : (a : Statement) (qs vs : List ℕ) (x : ℕ) → x ≡ n + size got.tree + 1 + size_of a → x < 65541
          → vs ≡ sets qs c.count (word 28 1 x ∷ [])
          → Wrote edition s qs (n + size got.tree)
          (emit (flow jump-if-false) 1 (the_instruction (n + size got.tree + 1 + size_of a))) vs
      branch a qs vs x e l h =
          subst (λ (i : ℕ). Wrote edition s qs (n + size got.tree) (emit (flow jump-if-false) 1 (the_instruction i))
          vs) e
          (branch-wrote edition s qs vs (n + size got.tree) x (omega arith)
          (h ∙ ap (λ (i : ℕ). sets qs i (word 28 1 x ∷ [])) count-is))

      pub pattern-printed : (q : Read) (m : ℕ) (zs vs : List ℕ)
          → (among enders (kind_of c.token.kind) || eqb c.token.kind 0) ≡ true → m ≡ c.count + 1 + 3
          → zs ≡ sets ys (c.count + 1) print_words → vs ≡ sets zs c.count (word 28 1 m ∷ []) → q
          ≡ answered c.token m 0
          → ReadingMain edition s (decoded t) n xs Item-of q vs
      unfolding guarded size_of size_print compile_statement
      pattern-printed q m zs vs b me ze ve qe =
          let ends = end_is true b in
          let printed : Wrote edition s ys (n + size got.tree + 1) (compile_print [] (n + size got.tree + 1)) zs =
          bare-wrote edition s ys zs (n + size got.tree + 1)
          (ze ∙ ap (λ (i : ℕ). sets ys (i + 1) print_words) count-is) in
          main-read edition s (decoded t) n xs Item-of q vs (some got.tree) (print []) got.next
          (ap (after_pattern edition s) got.result ∙ pattern-alone got.tree got.next ends)
          (record {
            outcome = ap (λ (x : Read). x.outcome) qe;
            token = ap (λ (x : Read). x.token) qe ∙ token-is;
            good = lower edition s (omega arith) got.reads.good;
            further = further;
            put =
                record {
                  count = omega (arith, ap (λ (x : Read). x.count) qe, me, count-is);
                  bound = omega (arith, got.reads.bound);
                  tight = λ f. absurd (clash (sym ends ∙ f));
                  wrote =
                      if-code edition s n got.tree xs ys got.reads.wrote (print []) zs printed vs
                      (branch (print []) zs vs m (omega (arith, me, count-is)) (omega (arith, me, pattern-small)) ve);
                };
          })

      module _ (b : (among enders (kind_of c.token.kind) || eqb c.token.kind 0) ≡ false) (r : Read) (zs : List ℕ)
          (v : ReadingStatement edition s (decoded c.token) (c.count + 1) ys
          (action_at edition s true (decoded c.token)) r zs) where
        action-part : ReadingStatement edition s got.next (c.count + 1) ys (action_at edition s true got.next) r
            zs
        action-part =
            subst (λ (x : Token). ReadingStatement edition s x (c.count + 1) ys (action_at edition s true x) r zs)
            (decoded-back c.token got.next token-is) v

        item-is : Item-of ≡ map (main (some got.tree)) (action_at edition s true got.next)
        item-is = ap (after_pattern edition s) got.result ∙ pattern-action got.tree got.next (end_is false b)

        pub pattern-unread : (r.outcome ≡ 0 → ⊥) → ReadingMain edition s (decoded t) n xs Item-of r zs
        pattern-unread y =
            main-refused edition s (decoded t) n xs Item-of r zs
            (fails_by item-is
            (fails-up (map (main (some got.tree))) (λ o p. refl)
            (statement-failed edition s got.next (c.count + 1) ys (action_at edition s true got.next) r zs
            action-part y)))

        module _ (y : r.outcome ≡ 0) where
          abbrev act-of : GotStatement edition s got.next (c.count + 1) ys (action_at edition s true got.next) r
              zs
          act-of = statement-worked edition s got.next (c.count + 1) ys (action_at edition s true got.next) r zs
              action-part y

          act-count : r.count ≡ n + size got.tree + 1 + size_of act-of.tree
          act-count = omega (arith, ap (λ (x : Read). x.count) act-of.reads.answer, count-is)

          act-bound : size got.tree + 1 + size_of act-of.tree + 8 * t.start ≤ 8 * act-of.next.start
          act-bound = omega (arith, got.reads.bound, act-of.reads.bound)

          pub action-small : r.count < 65537
          action-small =
              omega (
                arith,
                act-count,
                act-bound,
                rd.count,
                rd.small,
                act-of.reads.good.ordered,
                act-of.reads.good.within,
              )

          pub pattern-read : (vs : List ℕ) → vs ≡ sets zs c.count (word 28 1 r.count ∷ [])
              → ReadingMain edition s (decoded t) n xs Item-of r vs
          unfolding guarded size_of
          pattern-read vs ve =
              main-read edition s (decoded t) n xs Item-of r vs (some got.tree) act-of.tree act-of.next
              (item-is ∙ ap (map (main (some got.tree))) act-of.result)
              (record {
                outcome = y;
                token = ap (λ (x : Read). x.token) act-of.reads.answer;
                good = lower edition s (omega arith) act-of.reads.good;
                further = omega (arith, further, act-of.reads.bound);
                put =
                    record {
                      count = omega (arith, act-count);
                      bound = omega (arith, act-bound);
                      tight = λ f. act-bound;
                      wrote =
                          if-code edition s n got.tree xs ys got.reads.wrote act-of.tree zs
                          (subst (λ (i : ℕ). Wrote edition s ys (i + 1) (compile_statement act-of.tree (i + 1)) zs)
                          count-is act-of.reads.wrote) vs
                          (branch act-of.tree zs vs r.count act-count (omega (arith, action-small)) ve);
                    };
              })

-- ---- an item, by the number of its first token's kind

module _ (edition : ℕ) (s : List ℕ) (t : Coded) (known : t.kind < kind_count) where
  pub item-begin : t.kind ≡ 11 → item_at edition s (decoded t)
      ≡ map begin (action_at edition s false (token_after edition s (decoded t)))
  unfolding item_at rank
  item-begin k = simp (rank-of t.kind known, eq-eqb t.kind 11 k)

  pub item-end : t.kind ≡ 12 → item_at edition s (decoded t)
      ≡ map end (action_at edition s false (token_after edition s (decoded t)))
  unfolding item_at rank
  item-end k = simp (rank-of t.kind known, ne_eqb t.kind 11 (λ z. omega arith), eq-eqb t.kind 12 k)

  module _ (b : t.kind ≡ 11 → ⊥) (e : t.kind ≡ 12 → ⊥) (n : ℕ) (xs : List ℕ) (r : Read) (ys : List ℕ) where
    main-none : t.kind ≡ 36 → item_at edition s (decoded t) ≡ map (main none) (action_at edition s true (decoded t))
    unfolding item_at rank
    main-none k =
        simp (rank-of t.kind known, ne_eqb t.kind 11 b, ne_eqb t.kind 12 e, eq-eqb t.kind 36 k)

    main_some : (t.kind ≡ 36 → ⊥) → item_at edition s (decoded t)
        ≡ after_pattern edition s (expression_at edition s nesting_depth false (decoded t))
    unfolding item_at rank
    main_some k =
        simp (rank-of t.kind known, ne_eqb t.kind 11 b, ne_eqb t.kind 12 e, ne_eqb t.kind 36 k)

    pub main-guarded : (t.kind ≡ 36 → ⊥)
        → ReadingMain edition s (decoded t) n xs
        (after_pattern edition s (expression_at edition s nesting_depth false (decoded t))) r ys
        → ReadingMain edition s (decoded t) n xs (item_at edition s (decoded t)) r ys
    main-guarded k h = subst (λ (R : Result Item). ReadingMain edition s (decoded t) n xs R r ys) (sym (main_some k)) h

    pub main-action : Ready edition s t n → t.kind ≡ 36
        → ReadingStatement edition s (decoded t) n xs (action_at edition s true (decoded t)) r ys
        → ReadingMain edition s (decoded t) n xs (item_at edition s (decoded t)) r ys
    unfolding guarded
    main-action rd k h = go (eqb r.outcome 0) refl
      where
        go : (y : Bool) → eqb r.outcome 0 ≡ y
            → ReadingMain edition s (decoded t) n xs (item_at edition s (decoded t)) r ys
        go true f =
            let z = eqb-true r.outcome 0 f in
            let g = statement-worked edition s (decoded t) n xs (action_at edition s true (decoded t)) r ys h z in
            let longer = rd.good.longer (begun t rd.known (λ y. omega arith)) in
            main-read edition s (decoded t) n xs (item_at edition s (decoded t)) r ys none g.tree g.next
            (main-none k ∙ ap (map (main none)) g.result)
            (record {
              outcome = z;
              token = ap (λ (x : Read). x.token) g.reads.answer;
              good = lower edition s (omega arith) g.reads.good;
              further = omega (arith, longer, g.reads.good.after);
              put =
                  record {
                    count = ap (λ (x : Read). x.count) g.reads.answer;
                    bound = omega (arith, g.reads.bound);
                    tight = λ f. g.reads.bound;
                    wrote = g.reads.wrote;
                  };
            })
        go false f =
            main-refused edition s (decoded t) n xs (item_at edition s (decoded t)) r ys
            (fails_by (main-none k)
            (fails-up (map (main none)) (λ o p. refl)
            (statement-failed edition s (decoded t) n xs (action_at edition s true (decoded t)) r ys h
            (λ y. clash (sym (eq-eqb r.outcome 0 y) ∙ f)))))
