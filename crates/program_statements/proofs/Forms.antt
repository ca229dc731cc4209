-- The forms of a statement, from its first token on.
use mathlib.Core.Path.{◌≡◌, refl, sym, ap, subst, ◌∙◌}
use mathlib.Core.Bool.{Bool, true, false, ◌&&◌}
use mathlib.Core.List.{List, [], ◌∷◌}
use Prim.Native.Nat.{ℕ, ◌+◌, ◌<◌}
use native.Mathlib.Omega.{arith}
use lib.Dec.{eqb}
use lib.Seq.{sets}
use borrow.Author.Tests.{eqb-true}
use Rattle.lists.proofs.Tests.{and-true}
use Rattle.edition.specs.Outcomes.{size_passed}
use Rattle.program_tokens.specs.Tokens.{Token, token_after}
use Rattle.program_tree.specs.Tree.{Statement, next, exit, empty}
use Rattle.program_reader.specs.Read.{Read as Result, ok}
use Rattle.program_reader.specs.Statements.{ended, if_at, while_at, statement_at}
use Rattle.program_code.specs.Sections.{size_of, compile_statement}
use Rattle.program_lexer.specs.Coded.{coded, decoded}
use Rattle.program_lexer.specs.declared.tokens.Token.{Token as Coded}
use Rattle.program_words.specs.Words.{word}
use Rattle.program_parser.specs.declared.read.Read.{Read}
use Rattle.program_parser.specs.Meaning.{Wrote}
use Rattle.program_parser.specs.Reading.{answered, success, refusal, Good, Ready, ReadingStatement}
use Rattle.program_parser.proofs.Codes.{decoded-back}
use Rattle.program_parser.proofs.Tokens.{good-after}
use Rattle.program_simple.specs.Statements.{body_of}
use Rattle.program_simple.proofs.Answers.{
  answers,
  begun,
  deep-fails,
  statement-refused,
  statement-read,
  earlier,
  ready_of,
}
use Rattle.program_simple.proofs.Jumps.{next-wrote, exit-wrote, none-wrote}
use Rattle.program_statements.proofs.Cases.{kind-deep, kind-empty, kind-if, kind-while, kind-exit, kind-next}

module _ (edition : ℕ) (s : List ℕ) (in_main : Bool) (levels : ℕ) (t : Coded) (n : ℕ) (xs : List ℕ)
    (rd : Ready edition s t n) where
  abbrev pub Whole : Result Statement
  Whole = statement_at edition s in_main levels (decoded t)

  -- a reading of what the statement is
  pub statement-is : (R : Result Statement) (r : Read) (ys : List ℕ) → Whole ≡ R
      → ReadingStatement edition s (decoded t) n xs R r ys
      → ReadingStatement edition s (decoded t) n xs Whole r ys
  statement-is R r ys e h = subst (λ (Q : Result Statement). ReadingStatement edition s (decoded t) n xs Q r ys)
      (sym e) h

  pub block-deep : (r : Read) (ys : List ℕ) → t.kind ≡ 36 → levels ≡ 0 → r ≡ refusal size_passed t.start
      → ReadingStatement edition s (decoded t) n xs Whole r ys
  block-deep r ys k z h =
      statement-refused edition s (decoded t) n xs Whole r ys
      (deep-fails (decoded t) (kind-deep edition s in_main levels t rd.known k z) h)

  module _ (z : t.kind ≡ 0 → ⊥) where
    after : Good edition s t.stop (token_after edition s (decoded t))
    after = good-after edition s 0 (decoded t) rd.good

    longer : t.start < t.stop
    longer = rd.good.longer (begun t rd.known z)

    module _ (u : Coded) (ue : u ≡ coded (token_after edition s (decoded t))) where
      pub after-ready : Ready edition s u n
      after-ready =
          ready_of edition s u (token_after edition s (decoded t)) t.stop n ue after rd.small
          (omega (arith, after.after, longer, rd.count))

      -- a reading from the next token on
      from_next : (f : Token → Result Statement) (r : Read) (ys : List ℕ) → Whole ≡ f (token_after edition s (decoded t))
          → ReadingStatement edition s (decoded u) n xs (f (decoded u)) r ys
          → ReadingStatement edition s (decoded t) n xs Whole r ys
      from_next f r ys e h =
          statement-is (f (decoded u)) r ys (e ∙ ap f (sym (decoded-back u (token_after edition s (decoded t)) ue)))
          (earlier edition s (decoded t) (decoded u) n xs (f (decoded u)) r ys
          (omega (arith, ap (λ (x : Coded). x.start) ue, after.after, longer))
          (omega (arith, ap (λ (x : Coded). x.stop) ue, after.after, after.ordered)) h)

      pub if-read : (r : Read) (ys : List ℕ) → t.kind ≡ 13
          → ReadingStatement edition s (decoded u) n xs
          (if_at edition s (body_of edition s in_main levels) levels (decoded u)) r ys
          → ReadingStatement edition s (decoded t) n xs Whole r ys
      if-read r ys k h =
          from_next (if_at edition s (body_of edition s in_main levels) levels) r ys
          (kind-if edition s in_main levels t rd.known k) h

      pub while-read : (r : Read) (ys : List ℕ) → t.kind ≡ 15
          → ReadingStatement edition s (decoded u) n xs
          (while_at edition s (body_of edition s in_main levels) levels (decoded u)) r ys
          → ReadingStatement edition s (decoded t) n xs Whole r ys
      while-read r ys k h =
          from_next (while_at edition s (body_of edition s in_main levels) levels) r ys
          (kind-while edition s in_main levels t rd.known k) h

      pub empty-read : (r : Read) → t.kind ≡ 43 → r ≡ answered u n 3
          → ReadingStatement edition s (decoded t) n xs Whole r xs
      unfolding size_of compile_statement ended
      empty-read r k h =
          statement-read edition s (decoded t) n xs Whole r xs empty (token_after edition s (decoded t))
          (kind-empty edition s in_main levels t rd.known k)
          (record {
            answer = answers r u (token_after edition s (decoded t)) n (n + 0) 3 h ue (omega arith);
            good = after;
            bound = omega (arith, after.after, longer);
            wrote = none-wrote edition s xs n;
          })

    -- a statement that is one instruction
    single-read : (a : Statement) (r : Read) (ys : List ℕ) → size_of a ≡ 1 → ended a ≡ false → Whole
        ≡ ok a (token_after edition s (decoded t))
        → r ≡ success (token_after edition s (decoded t)) (n + 1) 0 → Wrote edition s xs n (compile_statement a n) ys
        → ReadingStatement edition s (decoded t) n xs Whole r ys
    single-read a r ys one open-end e h w =
        statement-read edition s (decoded t) n xs Whole r ys a (token_after edition s (decoded t)) e
        (record {
          answer = h ∙ sym (rw (one, open-end));
          good = after;
          bound = omega (arith, one, after.after, longer);
          wrote = w;
        })

  pub exit_read : (r : Read) (ys : List ℕ) → t.kind ≡ 18 → r ≡ success (token_after edition s (decoded t)) (n + 1) 0
      → ys ≡ sets xs n (word 31 0 0 ∷ []) → ReadingStatement edition s (decoded t) n xs Whole r ys
  unfolding size_of ended
  exit_read r ys k h w =
      single-read (λ z. omega arith) exit r ys refl refl (kind-exit edition s in_main levels t rd.known k) h
      (exit-wrote edition s xs ys n w)

  pub next-read : (r : Read) (ys : List ℕ) → (eqb t.kind 17 && in_main) ≡ true → r
      ≡ success (token_after edition s (decoded t)) (n + 1) 0
      → ys ≡ sets xs n (word 30 0 0 ∷ []) → ReadingStatement edition s (decoded t) n xs Whole r ys
  unfolding size_of ended
  next-read r ys k h w =
      let e : t.kind ≡ 17 = eqb-true t.kind 17 (and-true (eqb t.kind 17) in_main k).0 in
      single-read (λ z. omega arith) next r ys refl refl (kind-next edition s in_main levels t rd.known k) h
      (next-wrote edition s xs ys n w)
