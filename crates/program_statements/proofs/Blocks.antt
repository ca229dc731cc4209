-- Blocks: what follows a statement, and the statements up to a `}`.
use mathlib.Core.Path.{◌≡◌, refl, sym, ap, subst, ◌∙◌}
use mathlib.Core.Bool.{Bool, true, false, not, cond, ◌||◌}
use mathlib.Core.List.{List, [], ◌∷◌, ◌++◌, append_assoc, append-nil}
use Prim.Native.Nat.{ℕ, zero, suc, ◌+◌, ◌-◌, ◌*◌, ◌≤◌, ◌<◌}
use native.Mathlib.Omega.{arith}
use lib.Dec.{eqb}
use lib.ListN.{length, length-append}
use borrow.Author.Tests.{eqb-true, eq-eqb, ne_eqb}
use Rattle.lists.proofs.Tests.{clash, or-none}
use Rattle.edition.specs.Limits.{filter_text}
use Rattle.program_tokens.specs.Kinds.{newline, close_brace, among, rank}
use Rattle.program_tokens.specs.Tokens.{Token, is, is_one_of, token_after, as_operand}
use Rattle.program_tree.specs.Tree.{Statement, block, empty, sequence}
use Rattle.program_grammar.specs.Sets.{enders}
use Rattle.program_reader.specs.Read.{Read as Result, ok, no, map, refuse, past_newlines}
use Rattle.program_reader.specs.Statements.{ended, followed, statements, block_of, statement_at}
use Rattle.program_code.specs.Emitted.{Emitted}
use Rattle.program_code.specs.Sections.{size_of, compile_statement}
use Rattle.program_code.proofs.Sections.{statement-length}
use Rattle.program_lexer.specs.Coded.{coded, decoded, kind_of, kind_count}
use Rattle.program_lexer.specs.declared.tokens.Token.{Token as Coded}
use Rattle.program_lexer.proofs.Coding.{rank-of}
use Rattle.program_parser.specs.declared.read.Read.{Read}
use Rattle.program_parser.specs.Meaning.{Wrote}
use Rattle.program_parser.specs.Reading.{answered, success, refusal, refused_by, end_of, Good, Ready, ReadingStatement}
use Rattle.program_parser.proofs.Codes.{decoded-coded, decoded-back}
use Rattle.program_parser.proofs.Tokens.{good-after, good-operand}
use Rattle.program_newlines.proofs.Passing.{still}
use Rattle.program_parser.proofs.Spelling.{wrote_after}
use Rattle.program_simple.specs.Statements.{followed_of}
use Rattle.program_simple.proofs.Answers.{
  answers,
  end_is,
  Fails,
  fails-up,
  fails_by,
  some-refused,
  begun,
  refuse-fails,
  GotStatement,
  statement-worked,
  statement-failed,
  statement-refused,
  statement-read,
  lower,
  here,
  ready_of,
}
use Rattle.program_simple.proofs.Jumps.{none-wrote}
use Rattle.program_statements.proofs.Cases.{statement-further}

-- ---- the answer of `followed`

module _ (edition : ℕ) (s : List ℕ) (r : Read) where
  abbrev Open : Bool
  Open = not (eqb r.outcome 0) || eqb r.form 3

  abbrev Next : Read
  Next =
      cond (is_one_of enders (decoded r.token)) (success (token_after edition s (decoded r.token)) r.count 0)
      (cond (is close_brace (decoded r.token)) r (refusal (refused_by (decoded r.token)) r.token.start))

  pub followed_same : Open ≡ true → r ≡ followed_of edition s r
  followed_same h = go (eqb r.outcome 0) (eqb r.form 3) h
    where
      go : (b c : Bool) → (not b || c) ≡ true → r ≡ cond b (cond c r Next) r
      go true true e = refl
      go true false e = absurd (clash (sym e))
      go false c e = refl

  module _ (h : Open ≡ false) (k : r.token.kind < kind_count) where
    unended : Next ≡ followed_of edition s r
    unended = go (eqb r.outcome 0) (eqb r.form 3) h
      where
        go : (b c : Bool) → (not b || c) ≡ false → Next ≡ cond b (cond c r Next) r
        go true true e = absurd (clash e)
        go true false e = refl
        go false c e = absurd (clash e)

    pub followed-ended : (q : Read) (v : Coded) → among enders (kind_of r.token.kind) ≡ true
        → v ≡ coded (token_after edition s (decoded r.token)) → q ≡ answered v r.count 0 → q
        ≡ followed_of edition s r
    followed-ended q v e f a = answers q v (token_after edition s (decoded r.token)) r.count r.count 0 a f refl
        ∙ (sym (rw e) ∙ unended)

    module _ (e : among enders (kind_of r.token.kind) ≡ false) where
      pub followed-closed : r.token.kind ≡ 37 → r ≡ followed_of edition s r
      unfolding rank
      followed-closed m = sym (rw (e, rank-of r.token.kind k, eq-eqb r.token.kind 37 m)) ∙ unended

      pub followed-refused : (q : Read) → (r.token.kind ≡ 37 → ⊥) → q
          ≡ refusal (refused_by (decoded r.token)) r.token.start
          → q ≡ followed_of edition s r
      unfolding rank
      followed-refused q m a = a ∙ (sym (rw (e, rank-of r.token.kind k, ne_eqb r.token.kind 37 m)) ∙ unended)

-- ---- what a block goes on with after a statement

module _ (edition : ℕ) (s : List ℕ) (a : Statement) (v : Token) (m : ℕ) (q : Read) where
  pub record Follows (f : (Token → Result Statement) → Result Statement) : Type 0 where
    pub next : Token
    pub token : q.token ≡ coded next
    pub count : q.count ≡ m
    pub good : Good edition s v.start next
    pub same : (rest : Token → Result Statement) → f rest ≡ map (sequence a) (rest next)

  abbrev Answer : Bool → Bool → Bool → Read
  Answer x y z =
      cond x (success v m (end_of a))
      (cond y (success (token_after edition s v) m 0)
      (cond z (success v m (end_of a)) (refusal (refused_by v) v.start)))

  abbrev Goes : Bool → Bool → Bool → (Token → Result Statement) → Result Statement
  Goes x y z rest =
      cond x (map (sequence a) (rest v))
      (cond y (map (sequence a) (rest (token_after edition s v))) (cond z (map (sequence a) (rest v)) (refuse v)))

  answer-is : q ≡ followed_of edition s (success v m (end_of a)) → q
      ≡ Answer (ended a) (is_one_of enders v) (is close_brace v)
  answer-is e =
      subst (λ (b : Bool). q ≡ Answer b (is_one_of enders v) (is close_brace v)) (end_is a)
      (subst (λ (y : Token). q ≡ cond (eqb (end_of a) 3) (success v m (end_of a))
      (cond (is_one_of enders y) (success (token_after edition s y) m 0)
      (cond (is close_brace y) (success v m (end_of a)) (refusal (refused_by y) v.start)))) (decoded-coded v) e)

  module _ (g : Good edition s v.start v) where
    stays : (f : (Token → Result Statement) → Result Statement)
        → ((rest : Token → Result Statement) → f rest ≡ map (sequence a) (rest v))
        → q ≡ success v m (end_of a) → Follows f
    stays f same e =
        record {
          next = v;
          token = ap (λ (x : Read). x.token) e;
          count = ap (λ (x : Read). x.count) e;
          good = g;
          same
              = same;
        }

    pub follows : q ≡ followed_of edition s (success v m (end_of a)) → q.outcome ≡ 0
        → Follows (λ rest. followed edition s rest (ok a v))
    unfolding followed
    follows e z = go (ended a) (is_one_of enders v) (is close_brace v) (answer-is e)
      where
        go : (x y k : Bool) → q ≡ Answer x y k → Follows (Goes x y k)
        go true y k h = stays (Goes true y k) (λ rest. refl) h
        go false true k h =
            record {
              next = token_after edition s v;
              token = ap (λ (x : Read). x.token) h;
              count = ap (λ (x : Read). x.count) h;
              good = lower edition s g.ordered (good-after edition s v.start v g);
              same = λ rest. refl;
            }
        go false false true h = stays (Goes false false true) (λ rest. refl) h
        go false false false h = absurd (some-refused v (sym (ap (λ (x : Read). x.outcome) h) ∙ z))

  pub unfollowed : (rest : Token → Result Statement) → q ≡ followed_of edition s (success v m (end_of a))
      → (q.outcome ≡ 0 → ⊥)
      → Fails (followed edition s rest (ok a v)) q
  unfolding followed
  unfollowed rest e z = go (ended a) (is_one_of enders v) (is close_brace v) (answer-is e)
    where
      go : (x y k : Bool) → q ≡ Answer x y k → Fails (Goes x y k rest) q
      go true y k h = absurd (z (ap (λ (x : Read). x.outcome) h))
      go false true k h = absurd (z (ap (λ (x : Read). x.outcome) h))
      go false false true h = absurd (z (ap (λ (x : Read). x.outcome) h))
      go false false false h = refuse-fails v refl h

-- ---- the statements up to a `}`

module _ (edition : ℕ) (s : List ℕ) (st : Token → Result Statement) where
  block-close : (m : ℕ) (t : Token) → is close_brace t ≡ true → statements edition s st (suc m) t
      ≡ ok empty (token_after edition s t)
  unfolding statements
  block-close m t e = rw e

  block-pass : (m : ℕ) (t : Token) → is close_brace t ≡ false → is newline t ≡ true
      → statements edition s st (suc m) t ≡ statements edition s st m (token_after edition s t)
  unfolding statements
  block-pass m t e f = rw (e, f)

  block-step : (m : ℕ) (t : Token) → is close_brace t ≡ false → is newline t ≡ false
      → statements edition s st (suc m) t ≡ followed edition s (statements edition s st m) (st (as_operand edition s t))
  unfolding statements
  block-step m t e f = rw (e, f)

  pub followed-no : (m o x : ℕ) → followed edition s (statements edition s st m) (no o x) ≡ no o x
  unfolding followed
  followed-no m o x = refl

  -- the rest of a block, from the token of r on, is what is left of the whole from its first token on; `code` is what
  -- was written
  pub record BlockTurn (n : ℕ) (xs : List ℕ) (first : Token) (r : Read) (ys : List ℕ) : Type 0 where
    pub whole : Statement → Statement
    pub size : ℕ
    pub code : List Emitted
    pub sized : (b : Statement) → size_of (whole b) ≡ size + size_of b
    pub compiled : (b : Statement) → compile_statement (whole b) n ≡ code ++ compile_statement b (n + size)
    pub long : length code ≡ size
    pub next : Token
    pub token : r.token ≡ coded next
    pub count : r.count ≡ n + size
    pub good : Good edition s first.start next
    pub bound : size + 8 * first.start ≤ 8 * next.start
    pub left : ℕ
    pub enough : length s < left + next.start
    pub same : map whole (statements edition s st left next) ≡ statements edition s st (suc (length s)) first
    pub wrote : Wrote edition s xs n code ys

  block_start : (n : ℕ) (xs : List ℕ) (p : ℕ) (u : Coded) (first : Token) (r : Read) → Good edition s p first → u
      ≡ coded first
      → r ≡ answered u n 0 → BlockTurn n xs first r xs
  block_start n xs p u first r g e a =
      record {
        whole = λ b. b;
        size = 0;
        code = [];
        sized = λ b. omega arith;
        compiled = λ b. let z : n ≡ n + 0 = omega arith in ap (compile_statement b) z;
        long = refl;
        next = first;
        token = ap (λ (x : Read). x.token) a ∙ e;
        count = omega (arith, ap (λ (x : Read). x.count) a);
        good = here edition s g;
        bound = omega arith;
        left = suc (length s);
        enough = omega arith;
        same = map_same (statements edition s st (suc (length s)) first);
        wrote = none-wrote edition s xs n;
      }
    where
      map_same : (R : Result Statement) → map (λ b. b) R ≡ R
      map_same (ok b x) = refl
      map_same (no o x) = refl

  -- the first token after the `{`
  module _ (t u : Coded) (n : ℕ) (r : Read) (e : u ≡ coded (token_after edition s (decoded t))) (a : r ≡ answered u n 0)
    where
      pub first-token : decoded r.token ≡ token_after edition s (decoded t)
      first-token = decoded-back r.token (token_after edition s (decoded t)) (ap (λ (x : Read). x.token) a ∙ e)

      pub first-place : Ready edition s t n → t.kind ≡ 36 → (t.stop ≤ r.token.start) × (n ≤ 8 * r.token.start)
      first-place rd k =
          let g = good-after edition s 0 (decoded t) rd.good in
          let longer = rd.good.longer (begun t rd.known (λ z. omega arith)) in
          let at = ap (λ (x : Coded). x.start) (ap (λ (x : Read). x.token) a ∙ e) in
          (omega (arith, g.after, at), omega (arith, g.after, at, longer, rd.count))

      pub block-begun : (xs : List ℕ) → Ready edition s t n → BlockTurn n xs (decoded r.token) r xs
      block-begun xs rd =
          subst (λ (x : Token). BlockTurn n xs x r xs) (sym first-token)
          (block_start n xs t.stop u (token_after edition s (decoded t)) r
          (good-after edition s 0 (decoded t) rd.good) e a)

  module _ (n : ℕ) (xs : List ℕ) (first : Token) (r : Read) (ys : List ℕ) (p : BlockTurn n xs first r ys) where
    kind-is : r.token.kind ≡ rank p.next.kind
    kind-is = ap (λ (x : Coded). x.kind) p.token

    pub block-ready : length s ≤ filter_text → n ≤ 8 * first.start → Ready edition s r.token r.count
    block-ready small h =
        ready_of edition s r.token p.next first.start r.count p.token p.good small
        (omega (arith, p.count, p.bound))

    -- a turn is left
    has_left : (m : ℕ) × (p.left ≡ suc m)
    has_left = go p.left refl
      where
        go : (j : ℕ) → p.left ≡ j → (m : ℕ) × (p.left ≡ suc m)
        go zero e = absurd (omega (arith, e, p.enough, p.good.ordered, p.good.within))
        go (suc m) e = (m, e)

    left_is : (R : Result Statement) → statements edition s st (suc has_left.0) p.next ≡ R
        → map p.whole R ≡ statements edition s st (suc (length s)) first
    left_is R e =
        ap (map p.whole) (sym e)
        ∙ (ap (λ (j : ℕ). map p.whole (statements edition s st j p.next)) (sym has_left.1) ∙ p.same)

    -- `}`
    pub block-done : (t : Token) (v : Coded) (q : Read) → t.start ≤ t.stop → t.stop ≤ first.start
        → token_after edition s t ≡ first
        → r.token.kind ≡ 37 → v ≡ coded (token_after edition s (decoded r.token)) → q ≡ answered v r.count 3
        → ReadingStatement edition s t n xs (block_of edition s st t) q ys
    unfolding block_of size_of compile_statement ended rank
    block-done t v q l k f c ve a =
        let x : Token = token_after edition s p.next in
        let g = good-after edition s first.start p.next p.good in
        let brace : is close_brace p.next ≡ true = eq-eqb (rank p.next.kind) 37 (sym kind-is ∙ c) in
        let at : v ≡ coded x = ve ∙ ap (λ (y : Token). coded (token_after edition s y))
        (decoded-back r.token p.next p.token) in
        let tree : Statement = p.whole empty in
        statement-read edition s t n xs (block_of edition s st t) q ys (block tree) x
        (ap (λ (y : Token). map block (statements edition s st (suc (length s)) y)) f
        ∙ ap (map block) (sym (left_is (ok empty x) (block-close has_left.0 p.next brace))))
        (record {
          answer = answers q v x r.count (n + size_of tree) 3 a at (omega (arith, p.count, p.sized empty));
          good = lower edition s (omega (arith, k, p.good.after, p.good.ordered)) g;
          bound = omega (arith, l, p.bound, p.sized empty, g.after, p.good.ordered);
          wrote =
              subst (λ (is : List Emitted). Wrote edition s xs n is ys)
              (sym (p.compiled empty ∙ append-nil p.code)) p.wrote;
        })

    module _ (c : r.token.kind ≡ 37 → ⊥) where
      no-brace : is close_brace p.next ≡ false
      unfolding rank
      no-brace = ne_eqb (rank p.next.kind) 37 (λ z. c (kind-is ∙ z))

      -- a newline
      module _ (k : r.token.kind ≡ 1) (v : Coded) (q : Read)
          (ve : v ≡ coded (token_after edition s (decoded r.token)))
          (a : q ≡ answered v r.count 0) where
        line_after : Good edition s p.next.stop (token_after edition s p.next)
        line_after = good-after edition s first.start p.next p.good

        line-is : is newline p.next ≡ true
        unfolding rank
        line-is = eq-eqb (rank p.next.kind) 1 (sym kind-is ∙ k)

        line-longer : p.next.start < p.next.stop
        unfolding rank
        line-longer = p.good.longer (ne_eqb (rank p.next.kind) 0 (λ z. omega (arith, kind-is, k)))

        line-token : q.token ≡ coded (token_after edition s p.next)
        line-token =
            ap (λ (x : Read). x.token) a
            ∙ (ve ∙ ap (λ (y : Token). coded (token_after edition s y)) (decoded-back r.token p.next p.token))

        pub line-nearer : length s - q.token.start < length s - r.token.start
        line-nearer =
            omega (
              arith,
              ap (λ (x : Coded). x.start) line-token,
              ap (λ (x : Coded). x.start) p.token,
              line-longer,
              line_after.after,
              p.good.within,
            )

        pub block-line : BlockTurn n xs first q ys
        block-line =
            record {
              whole = p.whole;
              size = p.size;
              code = p.code;
              sized = p.sized;
              compiled = p.compiled;
              long = p.long;
              next = token_after edition s p.next;
              token = line-token;
              count = ap (λ (x : Read). x.count) a ∙ p.count;
              good = lower edition s (omega (arith, p.good.after, p.good.ordered)) line_after;
              bound = omega (arith, p.bound, line_after.after, p.good.ordered);
              left = has_left.0;
              enough = omega (arith, p.enough, has_left.1, line-longer, line_after.after);
              same = left_is (statements edition s st has_left.0 (token_after edition s p.next))
                  (block-pass has_left.0 p.next no-brace line-is);
              wrote = p.wrote;
            }

      -- a statement
      module _ (k : r.token.kind ≡ 1 → ⊥) (u : Coded) (ue : u ≡ coded (past_newlines edition s (decoded r.token)))
        where
          no_line : is newline p.next ≡ false
          unfolding rank
          no_line = ne_eqb (rank p.next.kind) 1 (λ z. k (kind-is ∙ z))

          first-is : u ≡ coded (as_operand edition s p.next)
          unfolding among
          first-is =
              ue
              ∙ (ap (λ (y : Token). coded (past_newlines edition s y)) (decoded-back r.token p.next p.token)
              ∙ ap (λ (y : Token). coded (as_operand edition s y))
              (still edition s (newline ∷ []) (length s) p.next (or-none (is newline p.next) ∙ no_line)))

          first_good : Good edition s p.next.start (as_operand edition s p.next)
          first_good = good-operand edition s p.next.start p.next (here edition s p.good)

          pub statement-ready : length s ≤ filter_text → n ≤ 8 * first.start → Ready edition s u r.count
          statement-ready small h =
              ready_of edition s u (as_operand edition s p.next) p.next.start r.count first-is first_good small
              (omega (arith, first_good.after, p.count, p.bound))

          -- the rest of the block, by what the statement reads as
          rest-is : (R : Result Statement) → st (decoded u) ≡ R
              → map p.whole (followed edition s (statements edition s st has_left.0) R)
              ≡ statements edition s st (suc (length s)) first
          rest-is R e =
              left_is (followed edition s (statements edition s st has_left.0) R)
              (block-step has_left.0 p.next no-brace no_line
              ∙ ap (followed edition s (statements edition s st has_left.0))
              (ap st (sym (decoded-back u (as_operand edition s p.next) first-is)) ∙ e))

          module _ (b q : Read) (zs : List ℕ)
              (w : ReadingStatement edition s (decoded u) r.count ys (st (decoded u)) b zs)
              (qe : q ≡ followed_of edition s b) where
            -- the statement, or what follows it, is refused
            pub block-failed : (t : Token) → token_after edition s t ≡ first → (q.outcome ≡ 0 → ⊥)
                → ReadingStatement edition s t n xs (block_of edition s st t) q zs
            unfolding block_of
            block-failed t f z =
                statement-refused edition s t n xs (block_of edition s st t) q zs
                (fails_by (ap (λ (y : Token). map block (statements edition s st (suc (length s)) y)) f)
                (fails-up (map block) (λ o x. refl) (go (eqb b.outcome 0) refl)))
              where
                no_more : (o x : ℕ) → map p.whole
                    (followed edition s (statements edition s st has_left.0) (no o x)) ≡ no o x
                no_more o x = ap (map p.whole) (followed-no has_left.0 o x)

                go : (y : Bool) → eqb b.outcome 0 ≡ y → Fails (statements edition s st (suc (length s)) first) q
                go true e =
                    let g = statement-worked edition s (decoded u) r.count ys (st (decoded u)) b zs w
                    (eqb-true b.outcome 0 e) in
                    fails_by (sym (rest-is (ok g.tree g.next) g.result))
                    (fails-up (map p.whole) (λ o x. refl)
                    (unfollowed edition s g.tree g.next (r.count + size_of g.tree) q
                    (statements edition s st has_left.0)
                    (qe ∙ ap (followed_of edition s) g.reads.answer) z))
                go false e =
                    let h = statement-failed edition s (decoded u) r.count ys (st (decoded u)) b zs w
                    (λ y. clash (sym (eq-eqb b.outcome 0 y) ∙ e)) in
                    let k : q ≡ b = qe ∙ sym (followed_same edition s b (rw e)) in
                    fails_by (sym (rest-is (no h.number h.place) h.result))
                    (record {
                      number = h.number;
                      place = h.place;
                      result = no_more h.number h.place;
                      answer = k
                          ∙ h.answer;
                      some_number = h.some_number;
                    })

            module _ (z : q.outcome ≡ 0) where
              -- the statement was read
              pub fine : b.outcome ≡ 0
              fine = go (eqb b.outcome 0) refl
                where
                  go : (y : Bool) → eqb b.outcome 0 ≡ y → b.outcome ≡ 0
                  go true e = eqb-true b.outcome 0 e
                  go false e = ap (λ (x : Read). x.outcome) (sym (qe ∙ sym (followed_same edition s b (rw e)))) ∙ z

              abbrev read : GotStatement edition s (decoded u) r.count ys (st (decoded u)) b zs
              read = statement-worked edition s (decoded u) r.count ys (st (decoded u)) b zs w fine

              after : Follows edition s read.tree read.next (r.count + size_of read.tree) q
                  (λ rest. followed edition s rest (ok read.tree read.next))
              after =
                  follows edition s read.tree read.next (r.count + size_of read.tree) q
                  (here edition s read.reads.good)
                  (qe ∙ ap (followed_of edition s) read.reads.answer) z

              u-start : u.start ≡ (as_operand edition s p.next).start
              u-start = ap (λ (x : Coded). x.start) first-is

              module _ (further : u.start < read.next.start) where
                pub block-nearer : length s - q.token.start < length s - r.token.start
                block-nearer =
                    omega (
                      arith,
                      further,
                      u-start,
                      first_good.after,
                      after.good.after,
                      ap (λ (x : Coded). x.start) after.token,
                      ap (λ (x : Coded). x.start) p.token,
                      after.good.ordered,
                      after.good.within,
                    )

                pub block_more : BlockTurn n xs first q zs
                unfolding size_of compile_statement
                block_more =
                    let a : Statement = read.tree in
                    let placed : r.count ≡ n + p.size = p.count in
                    record {
                      whole = λ b. p.whole (sequence a b);
                      size = p.size + size_of a;
                      code = p.code ++ compile_statement a (n + p.size);
                      sized = λ b. omega (arith, p.sized (sequence a b));
                      compiled = λ b. more-code a b;
                      long = omega (
                        arith,
                        length-append p.code (compile_statement a (n + p.size)),
                        p.long,
                        statement-length a (n + p.size),
                      );
                      next = after.next;
                      token = after.token;
                      count = omega (arith, after.count, p.count);
                      good =
                          lower edition s (omega (arith, further, u-start, first_good.after, p.good.after))
                          after.good;
                      bound = omega (
                        arith,
                        p.bound,
                        read.reads.bound,
                        u-start,
                        first_good.after,
                        after.good.after,
                      );
                      left = has_left.0;
                      enough = omega (
                        arith,
                        p.enough,
                        has_left.1,
                        further,
                        u-start,
                        first_good.after,
                        after.good.after,
                      );
                      same =
                          map-twice (statements edition s st has_left.0 after.next)
                          ∙ (ap (map p.whole) (sym (after.same (statements edition s st has_left.0)))
                          ∙ rest-is (ok a read.next) read.result);
                      wrote =
                          wrote_after edition s xs ys zs n (n + p.size) p.code (compile_statement a (n + p.size))
                          (omega (arith, p.long)) p.wrote
                          (subst (λ (i : ℕ). Wrote edition s ys i (compile_statement a i) zs) placed
                          read.reads.wrote);
                    }
                  where
                    more-code : (a b : Statement) → compile_statement (p.whole (sequence a b)) n
                        ≡ (p.code ++ compile_statement a (n + p.size)) ++ compile_statement b (n + (p.size + size_of a))
                    more-code a b =
                        let i : n + p.size + size_of a ≡ n + (p.size + size_of a) = omega arith in
                        p.compiled (sequence a b)
                        ∙ (ap (λ (j : ℕ). p.code ++ (compile_statement a (n + p.size) ++ compile_statement b j)) i
                        ∙ sym (append_assoc p.code (compile_statement a (n + p.size))
                        (compile_statement b (n + (p.size + size_of a)))))

                    map-twice : (R : Result Statement) → map (λ b. p.whole (sequence read.tree b)) R
                        ≡ map p.whole (map (sequence read.tree) R)
                    map-twice (ok b x) = refl
                    map-twice (no o x) = refl

-- ---- the turn of a block whose statements are the definition's: each goes further

module _ (edition : ℕ) (s : List ℕ) (in_main : Bool) (levels n : ℕ) (xs : List ℕ) (first : Token) (r : Read)
    (ys : List ℕ)
    (p : BlockTurn edition s (statement_at edition s in_main levels) n xs first r ys) (small : length s ≤ filter_text)
    (h : n ≤ 8 * first.start)
    (c : r.token.kind ≡ 37 → ⊥) (k : r.token.kind ≡ 1 → ⊥) (u : Coded)
    (ue : u ≡ coded (past_newlines edition s (decoded r.token)))
    (b q : Read) (zs : List ℕ)
    (w : ReadingStatement edition s (decoded u) r.count ys (statement_at edition s in_main levels (decoded u)) b zs)
    (qe : q ≡ followed_of edition s b) (z : q.outcome ≡ 0) where
  abbrev St : Token → Result Statement
  St = statement_at edition s in_main levels

  goes : u.start
      < (statement-worked edition s (decoded u) r.count ys (St (decoded u)) b zs w
      (fine edition s St n xs first r ys p c k u ue b q zs w qe z)
      ).next.start
  goes =
      let g = statement-worked edition s (decoded u) r.count ys (St (decoded u)) b zs w
      (fine edition s St n xs first r ys p c k u ue b q zs w qe z) in
      let rd = statement-ready edition s St n xs first r ys p c k u ue small h in
      statement-further edition s in_main levels u rd.known r.count r.count ys zs g.tree g.next b rd
      g.result g.reads

  pub turn-nearer : length s - q.token.start < length s - r.token.start
  turn-nearer = block-nearer edition s St n xs first r ys p c k u ue b q zs w qe z goes

  pub turn_more : BlockTurn edition s St n xs first q zs
  turn_more = block_more edition s St n xs first r ys p c k u ue b q zs w qe z goes
