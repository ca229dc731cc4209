-- Expression statements and `print`.
use mathlib.Core.Path.{◌≡◌, refl, sym, ap, subst, ◌∙◌}
use mathlib.Core.Bool.{true, false}
use mathlib.Core.List.{List, [], ◌∷◌, ◌++◌, append_assoc, append-nil}
use Prim.Native.Nat.{ℕ, zero, suc, ◌+◌, ◌-◌, ◌*◌, ◌≤◌, ◌<◌}
use native.Mathlib.Omega.{arith}
use lib.ListN.{length, length-append}
use lib.Seq.{sets}
use borrow.Author.Tests.{eq-eqb, ne_eqb}
use Rattle.image_format.specs.Codes.{print as print-action, action}
use Rattle.program_tokens.specs.Kinds.{comma, rank}
use Rattle.program_tokens.specs.Tokens.{Token, is, token_after}
use Rattle.program_tree.specs.Tree.{Expression, expression, print}
use Rattle.program_grammar.specs.Sets.{starts_expression}
use Rattle.program_reader.specs.Read.{Read as Result, ok, no, map, operand_after, past_newlines}
use Rattle.program_reader.specs.Expressions.{expression_at}
use Rattle.program_reader.specs.Statements.{ended, listed, print_at}
use Rattle.program_code.specs.Emitted.{emit, the_count, Emitted}
use Rattle.program_code.specs.Expressions.{size, compile}
use Rattle.program_code.specs.Sections.{size_all, compile_all, size_print, compile_print, size_of, compile_statement}
use Rattle.program_code.proofs.Sections.{all-length}
use Rattle.program_lexer.specs.Coded.{coded, decoded, kind_of, kind_count}
use Rattle.program_lexer.specs.declared.tokens.Token.{Token as Coded}
use Rattle.program_words.specs.Words.{word, print_words}
use Rattle.program_parser.specs.declared.read.Read.{Read}
use Rattle.program_parser.specs.Meaning.{Wrote}
use Rattle.program_parser.specs.Reading.{answered, Good, Ready, Reading, ReadingStatement}
use Rattle.program_parser.proofs.Codes.{decoded-back}
use Rattle.program_parser.proofs.Tokens.{good-after}
use Rattle.program_parser.proofs.Spelling.{wrote_after}
use Rattle.program_simple.proofs.Answers.{
  answers,
  fails-up,
  fails_by,
  begun,
  GotExpression,
  expression-worked,
  expression-failed,
  statement-refused,
  statement-read,
  lower,
  earlier,
  token-ready,
  ready_of,
  good-newlines,
  good-next,
}
use Rattle.program_simple.proofs.Jumps.{count-wrote, drop-wrote, bare-wrote, none-wrote, drop_code}

-- ---- an expression, and its value dropped

module _ (edition : ℕ) (s : List ℕ) (t : Coded) (n d : ℕ) (xs : List ℕ) (rd : Ready edition s t n)
    (R : Result Expression) (r : Read) (ys : List ℕ)
    (h : Reading edition s (decoded t) n d xs R r ys) where
  -- the count after an expression
  pub count-after : (z : r.outcome ≡ 0) → r.count
      ≡ n + size (expression-worked edition s (decoded t) n xs d R r ys h z).tree
  count-after z = ap (λ (x : Read). x.count) (expression-worked edition s (decoded t) n xs d R r ys h z).reads.answer

  -- no text has more than 8 instructions for a byte
  pub count_small : (z : r.outcome ≡ 0) → r.count < 65536
  count_small z =
      let g = expression-worked edition s (decoded t) n xs d R r ys h z in
      omega (
        arith,
        count-after z,
        g.reads.bound,
        g.reads.good.ordered,
        g.reads.good.within,
        rd.count,
        rd.small,
      )

module _ (edition : ℕ) (s : List ℕ) (t : Coded) (n : ℕ) (xs : List ℕ) (R : Result Expression) (r : Read) (ys : List ℕ)
    (h : Reading edition s (decoded t) n 0 xs R r ys) where
  pub expression-refused : (r.outcome ≡ 0 → ⊥) → ReadingStatement edition s (decoded t) n xs (map expression R) r ys
  expression-refused z =
      statement-refused edition s (decoded t) n xs (map expression R) r ys
      (fails-up (map expression) (λ o p. refl) (expression-failed edition s (decoded t) n xs 0 R r ys h z))

  pub expression-dropped : (z : r.outcome ≡ 0) (q : Read) (m : ℕ) (zs : List ℕ) → m ≡ r.count + 1
      → zs ≡ sets ys r.count (word 6 1 0 ∷ []) → q ≡ answered r.token m 0
      → ReadingStatement edition s (decoded t) n xs (map expression R) q zs
  unfolding size_of ended
  expression-dropped z q m zs e w a =
      let g = expression-worked edition s (decoded t) n xs 0 R r ys h z in
      let c : r.count ≡ n + size g.tree = ap (λ (x : Read). x.count) g.reads.answer in
      statement-read edition s (decoded t) n xs (map expression R) q zs (expression g.tree) g.next
      (ap (map expression) g.result)
      (record {
        answer =
            answers q r.token g.next m (n + (size g.tree + 1)) 0 a
            (ap (λ (x : Read). x.token) g.reads.answer) (omega (arith, e, c));
        good = g.reads.good;
        bound = omega (arith, g.reads.bound);
        wrote =
            drop_code edition s n g.tree xs ys g.reads.wrote zs
            (drop-wrote edition s ys zs (n + size g.tree) (w ∙ ap (λ (i : ℕ). sets ys i (word 6 1 0 ∷ [])) c));
      })

-- ---- lists of expressions

size-append : (l m : List Expression) → size_all (l ++ m) ≡ size_all l + size_all m
unfolding size_all
size-append [] m = omega arith
size-append (e ∷ l) m = omega (arith, size-append l m)

compile-last : (l : List Expression) (e : Expression) (n d : ℕ)
    → compile_all (l ++ (e ∷ [])) n d ≡ compile_all l n d ++ compile e (n + size_all l) (d + length l)
unfolding compile_all size_all
compile-last [] e n d =
    let a : n ≡ n + 0 = omega arith in
    let b : d ≡ d + 0 = omega arith in
    append-nil (compile e n d) ∙ (ap (λ (i : ℕ). compile e i d) a ∙ ap (compile e (n + 0)) b)
compile-last (a ∷ l) e n d =
    let i : n + size a + size_all l ≡ n + (size a + size_all l) = omega arith in
    let j : d + 1 + length l ≡ d + suc (length l) = omega arith in
    ap (λ (x : List Emitted). compile a n d ++ x)
    (compile-last l e (n + size a) (d + 1)
    ∙ ap (λ (x : List Emitted). compile_all l (n + size a) (d + 1) ++ x)
    (ap (λ (k : ℕ). compile e k (d + 1 + length l)) i ∙ ap (compile e (n + (size a + size_all l))) j))
    ∙ sym (append_assoc (compile a n d) (compile_all l (n + size a) (d + 1))
    (compile e (n + (size a + size_all l)) (d + suc (length l))))

print-list-code : (l : List Expression) (e : Expression) (n : ℕ) → compile_print (l ++ (e ∷ [])) n
    ≡ compile_all (l ++ (e ∷ [])) n 0 ++ emit (action print-action) (length (l ++ (e ∷ [])))
    (the_count (length (l ++ (e ∷ []))))
unfolding compile_print
print-list-code [] e n = refl
print-list-code (a ∷ l) e n = refl

print-list-size : (l : List Expression) (e : Expression) → size_print (l ++ (e ∷ [])) ≡ size_all (l ++ (e ∷ [])) + 1
unfolding size_print
print-list-size [] e = refl
print-list-size (a ∷ l) e = refl

-- what is left of a print list is what was
pub record ListTurn (edition : ℕ) (s : List ℕ) (levels n : ℕ) (u : Coded) (xs : List ℕ) (first : Coded) (count d : ℕ)
    (ys : List ℕ) : Type 0 where
  pub trees : List Expression
  pub deep : d ≡ length trees
  pub counted : count ≡ n + size_all trees
  pub ready : Ready edition s first count
  pub few : d ≤ first.start
  pub later : u.stop ≤ first.stop
  pub bound : size_all trees + 8 * u.start ≤ 8 * first.start
  pub left : ℕ
  pub enough : length s ≤ left + first.start
  pub same : listed edition s levels left
      (map (λ e. trees ++ (e ∷ [])) (expression_at edition s levels true (decoded first)))
      ≡ listed edition s levels (length s) (map (λ e. e ∷ []) (expression_at edition s levels true (decoded u)))
  pub wrote : Wrote edition s xs n (compile_all trees n 0) ys

module _ (edition : ℕ) (s : List ℕ) (levels n : ℕ) (u : Coded) (xs : List ℕ) where
  -- the list, from its first element on
  abbrev pub Listed : Result (List Expression)
  Listed = listed edition s levels (length s) (map (λ e. e ∷ []) (expression_at edition s levels true (decoded u)))

  pub list-start : Ready edition s u n → ListTurn edition s levels n u xs u n 0 xs
  unfolding size_all compile_all
  list-start rd =
      record {
        trees = [];
        deep = refl;
        counted = omega arith;
        ready = rd;
        few = omega arith;
        later = omega arith;
        bound = omega arith;
        left = length s;
        enough = omega arith;
        same = refl;
        wrote = none-wrote edition s xs n;
      }

  no-list : (m o p : ℕ) → listed edition s levels m (no o p) ≡ no o p
  unfolding listed
  no-list zero o p = refl
  no-list (suc m) o p = refl

  list-end : (m : ℕ) (es : List Expression) (t : Token) → is comma t ≡ false → listed edition s levels m (ok es t)
      ≡ ok es t
  unfolding listed
  list-end zero es t e = refl
  list-end (suc m) es t e = rw e

  list-turn : (m : ℕ) (es : List Expression) (t : Token) → is comma t ≡ true → listed edition s levels (suc m) (ok es t)
      ≡ listed edition s levels m
      (map (λ e. es ++ (e ∷ [])) (expression_at edition s levels true (past_newlines edition s (token_after edition s t))))
  unfolding listed
  list-turn m es t e = rw e

  module _ (first : Coded) (count d : ℕ) (ys : List ℕ) (p : ListTurn edition s levels n u xs first count d ys)
      (r : Read) (zs : List ℕ)
      (h : Reading edition s (decoded first) count d ys (expression_at edition s levels true (decoded first)) r zs) where
    pub list-failed : (r.outcome ≡ 0 → ⊥) → ReadingStatement edition s (decoded u) n xs (map print Listed) r zs
    list-failed z =
        statement-refused edition s (decoded u) n xs (map print Listed) r zs
        (fails-up (map print) (λ o q. refl)
        (fails_by (sym p.same)
        (fails-up (λ (R : Result Expression). listed edition s levels p.left (map (λ e. p.trees ++ (e ∷ [])) R))
        (no-list p.left)
        (expression-failed edition s (decoded first) count ys d (expression_at edition s levels true (decoded first)) r
        zs h z))))

    module _ (z : r.outcome ≡ 0) where
      abbrev got : GotExpression edition s (decoded first) count ys d
          (expression_at edition s levels true (decoded first)) r zs
      got = expression-worked edition s (decoded first) count ys d (expression_at edition s levels true (decoded first))
          r zs h z

      abbrev es : List Expression
      es = p.trees ++ (got.tree ∷ [])

      token-is : r.token ≡ coded got.next
      token-is = ap (λ (x : Read). x.token) got.reads.answer

      count-is : r.count ≡ n + size_all es
      unfolding size_all
      count-is =
          omega (
            arith,
            ap (λ (x : Read). x.count) got.reads.answer,
            p.counted,
            size-append p.trees
                (got.tree ∷ []),
          )

      deep_is : d + 1 ≡ length es
      deep_is = omega (arith, p.deep, length-append p.trees (got.tree ∷ []))

      whole : listed edition s levels p.left (ok es got.next) ≡ Listed
      whole =
          ap (λ (R : Result Expression). listed edition s levels p.left (map (λ e. p.trees ++ (e ∷ [])) R))
          (sym got.result) ∙ p.same

      wrote-all : Wrote edition s xs n (compile_all es n 0) zs
      wrote-all =
          subst (λ (x : List Emitted). Wrote edition s xs n x zs) (sym (compile-last p.trees got.tree n 0))
          (wrote_after edition s xs ys zs n (n + size_all p.trees) (compile_all p.trees n 0)
          (compile got.tree (n + size_all p.trees) (0 + length p.trees))
          (omega (arith, all-length p.trees n 0)) p.wrote
          (subst (λ (i : ℕ). Wrote edition s ys i (compile got.tree i (0 + length p.trees)) zs) p.counted
          (subst (λ (i : ℕ). Wrote edition s ys count (compile got.tree count i) zs) (deep-here)
          got.reads.wrote)))
        where
          deep-here : d ≡ 0 + length p.trees
          deep-here = omega (arith, p.deep)

      all-bound : size_all es + 8 * u.start < 8 * got.next.start
      unfolding size_all
      all-bound = omega (arith, p.bound, got.reads.bound, size-append p.trees (got.tree ∷ []))

      pub list-small : (r.count < 65536) × (d + 1 < 65536)
      list-small = (
        count_small edition s first count d ys p.ready (expression_at edition s levels true (decoded first)) r zs h z,
        omega (arith, p.few, got.reads.bound, got.reads.good.ordered, got.reads.good.within, p.ready.small),
      )

      pub list_done : (q : Read) (e m : ℕ) (ws : List ℕ) → (r.token.kind ≡ 42 → ⊥) → e ≡ d + 1 → m ≡ r.count + 1
          → ws ≡ sets zs r.count (word 29 e e ∷ []) → q ≡ answered r.token m 0
          → ReadingStatement edition s (decoded u) n xs (map print Listed) q ws
      unfolding size_of compile_statement ended rank
      list_done q e m ws k de me we a =
          let kind : r.token.kind ≡ rank got.next.kind = ap (λ (x : Coded). x.kind) token-is in
          let ended_here : is comma got.next ≡ false = ne_eqb (rank got.next.kind) 42 (λ y. k (kind ∙ y)) in
          let depth_is : e ≡ length es = de ∙ deep_is in
          statement-read edition s (decoded u) n xs (map print Listed) q ws (print es) got.next
          (ap (map print) (sym whole ∙ list-end p.left es got.next ended_here))
          (record {
            answer =
                answers q r.token got.next m (n + size_print es) 0 a token-is
                (omega (arith, me, count-is, print-list-size p.trees got.tree));
            good = lower edition s p.later got.reads.good;
            bound = omega (arith, all-bound, print-list-size p.trees got.tree);
            wrote =
                subst (λ (x : List Emitted). Wrote edition s xs n x ws) (sym (print-list-code p.trees got.tree n))
                (wrote_after edition s xs zs ws n r.count (compile_all es n 0)
                (emit (action print-action) (length es) (the_count (length es)))
                (omega (arith, all-length es n 0, count-is)) wrote-all
                (subst (λ (i : ℕ). Wrote edition s zs r.count (emit (action print-action) i (the_count i)) ws)
                depth_is
                (count-wrote edition s zs ws r.count e (omega (arith, de, list-small.1)) we)));
          })

      module _ (k : r.token.kind ≡ 42) (x first' : Coded) (xe : x ≡ coded (token_after edition s (decoded r.token)))
          (fe : first' ≡ coded (past_newlines edition s (decoded x))) where
        here-is : decoded r.token ≡ got.next
        here-is = decoded-back r.token got.next token-is

        comma-is : is comma got.next ≡ true
        unfolding rank
        comma-is = eq-eqb (rank got.next.kind) 42 (sym (ap (λ (y : Coded). y.kind) token-is) ∙ k)

        comma-longer : got.next.start < got.next.stop
        unfolding rank
        comma-longer =
            got.reads.good.longer
            (ne_eqb (rank got.next.kind) 0 (λ y. omega (arith, k, ap (λ (y : Coded). y.kind) token-is)))

        abbrev after : Token
        after = past_newlines edition s (token_after edition s got.next)

        next-is : first' ≡ coded after
        next-is =
            fe
            ∙ ap (λ (y : Token). coded (past_newlines edition s y))
            (decoded-back x (token_after edition s got.next)
            (xe ∙ ap (λ (y : Token). coded (token_after edition s y)) here-is))

        after-good : Good edition s got.next.stop after
        after-good =
            good-newlines edition s got.next.stop (token_after edition s got.next)
            (good-after edition s first.stop got.next got.reads.good)

        -- the token after the comma, from which newlines are passed
        pub list-passing : Good edition s 0 (decoded x) × (x.kind < kind_count)
        list-passing =
            token-ready edition s x (token_after edition s got.next) got.next.stop
            (xe ∙ ap (λ (y : Token). coded (token_after edition s y)) here-is)
            (good-after edition s first.stop got.next got.reads.good)

        starts : first'.start ≡ after.start
        starts = ap (λ (y : Coded). y.start) next-is

        stops : first'.stop ≡ after.stop
        stops = ap (λ (y : Coded). y.stop) next-is

        pub list-nearer : length s - first'.start < length s - first.start
        list-nearer =
            omega (
              arith,
              starts,
              after-good.after,
              comma-longer,
              got.reads.good.after,
              got.reads.good.within,
              p.ready.good.ordered,
            )

        pub list-more : ListTurn edition s levels n u xs first' r.count (d + 1) zs
        list-more = go p.left refl
          where
            go : (m : ℕ) → p.left ≡ m → ListTurn edition s levels n u xs first' r.count (d + 1) zs
            go zero e =
                absurd (omega (
                  arith,
                  e,
                  p.enough,
                  got.reads.good.after,
                  got.reads.good.within,
                  comma-longer,
                  p.ready.good.ordered,
                ))
            go (suc m) e =
                record {
                  trees = es;
                  deep = deep_is;
                  counted = count-is;
                  ready =
                      ready_of edition s first' after got.next.stop r.count next-is after-good p.ready.small
                      (omega (
                        arith,
                        count-is,
                        all-bound,
                        after-good.after,
                        comma-longer,
                        p.counted,
                        p.ready.count,
                        got.reads.bound,
                        ap (λ (y : Read). y.count) got.reads.answer,
                      ));
                  few = omega (
                    arith,
                    starts,
                    p.few,
                    after-good.after,
                    comma-longer,
                    got.reads.good.after,
                    p.ready.good.ordered,
                  );
                  later = omega (
                    arith,
                    stops,
                    p.later,
                    after-good.after,
                    after-good.ordered,
                    comma-longer,
                    got.reads.good.after,
                  );
                  bound = omega (arith, starts, all-bound, after-good.after, comma-longer);
                  left = m;
                  enough = omega (
                    arith,
                    starts,
                    e,
                    p.enough,
                    after-good.after,
                    comma-longer,
                    got.reads.good.after,
                    p.ready.good.ordered,
                  );
                  same =
                      ap (λ (y : Token). listed edition s levels m
                      (map (λ e. es ++ (e ∷ [])) (expression_at edition s levels true y)))
                      (decoded-back first' after next-is)
                      ∙ (sym (list-turn m es got.next comma-is)
                      ∙ (ap (λ (i : ℕ). listed edition s levels i (ok es got.next)) (sym e) ∙ whole));
                  wrote = wrote-all;
                }

-- ---- `print`, at its word

module _ (edition : ℕ) (s : List ℕ) (levels : ℕ) (t : Coded) (n : ℕ) (xs : List ℕ) (rd : Ready edition s t n)
    (k : t.kind ≡ 16) (u : Coded)
    (ue : u ≡ coded (operand_after edition s (decoded t))) where
  print-longer : t.start < t.stop
  print-longer = rd.good.longer (begun t rd.known (λ z. omega arith))

  after-print : Good edition s t.stop (operand_after edition s (decoded t))
  after-print = good-next edition s 0 (decoded t) rd.good

  here-print : decoded u ≡ operand_after edition s (decoded t)
  here-print = decoded-back u (operand_after edition s (decoded t)) ue

  pub print-ready : Ready edition s u n
  print-ready =
      ready_of edition s u (operand_after edition s (decoded t)) t.stop n ue after-print rd.small
      (omega (arith, after-print.after, print-longer, rd.count))

  pub print-listed : (r : Read) (ys : List ℕ) → starts_expression edition (kind_of u.kind) ≡ true
      → ReadingStatement edition s (decoded u) n xs (map print (Listed edition s levels n u xs)) r ys
      → ReadingStatement edition s (decoded t) n xs (print_at edition s levels (operand_after edition s (decoded t))) r ys
  unfolding print_at
  print-listed r ys e h =
      subst (λ (y : Token). ReadingStatement edition s (decoded t) n xs (print_at edition s levels y) r ys) here-print
      (rw e (earlier edition s (decoded t) (decoded u) n xs (map print (Listed edition s levels n u xs)) r ys
      (omega (arith, ap (λ (y : Coded). y.start) ue, after-print.after, print-longer))
      (omega (arith, ap (λ (y : Coded). y.stop) ue, after-print.after, after-print.ordered)) h))

  pub print-bare : (q : Read) (m : ℕ) (ys : List ℕ) → starts_expression edition (kind_of u.kind) ≡ false → m ≡ n + 3
      → ys ≡ sets xs n print_words → q ≡ answered u m 0
      → ReadingStatement edition s (decoded t) n xs (print_at edition s levels (operand_after edition s (decoded t))) q ys
  unfolding print_at size_of size_print compile_statement ended
  print-bare q m ys e me we a =
      let f : starts_expression edition (operand_after edition s (decoded t)).kind ≡ false =
      subst (λ (y : Token). starts_expression edition y.kind ≡ false) here-print e in
      statement-read edition s (decoded t) n xs (print_at edition s levels (operand_after edition s (decoded t))) q ys
      (print [])
      (operand_after edition s (decoded t)) (rw f)
      (record {
        answer = answers q u (operand_after edition s (decoded t)) m (n + 3) 0 a ue me;
        good = after-print;
        bound = omega (arith, after-print.after, print-longer);
        wrote = bare-wrote edition s xs ys n we;
      })
