-- Items, by the section that each is for.
use mathlib.Core.Path.{◌≡◌, refl, sym, ap, subst, ◌∙◌}
use mathlib.Core.Bool.{Bool, true, false}
use mathlib.Core.List.{List}
use Prim.Native.Nat.{ℕ, ◌≤◌, ◌<◌}
use native.Mathlib.Omega.{arith}
use lib.Dec.{eqb}
use borrow.Author.Tests.{eqb-true, eq-eqb}
use Rattle.lists.proofs.Tests.{clash}
use Rattle.semantics.specs.Moves.{Section, begin as begin-section, main as main-section, end as end-section}
use Rattle.program_tokens.specs.Tokens.{Token, token_after}
use Rattle.program_tree.specs.Tree.{Statement, empty, Item, begin, end, main}
use Rattle.program_reader.specs.Read.{Read as Result, ok, no, map}
use Rattle.program_reader.specs.Programs.{action_at, item_at}
use Rattle.program_code.specs.Sections.{size_of, compile_statement, part_of}
use Rattle.program_lexer.specs.Coded.{coded, decoded}
use Rattle.program_lexer.specs.declared.tokens.Token.{Token as Coded}
use Rattle.program_parser.specs.declared.read.Read.{Read}
use Rattle.program_parser.specs.Reading.{Good, Ready, ReadingStatement}
use Rattle.program_parser.proofs.Codes.{decoded-back}
use Rattle.program_parser.proofs.Tokens.{good-after}
use Rattle.program_items.specs.declared.programs.Program.{Program}
use Rattle.program_items.specs.Programs.{each, count_in}
use Rattle.program_items.specs.Items.{Put, ReadingMain, ReadingItem, Onward}
use Rattle.program_simple.proofs.Answers.{
  Fails,
  fails-up,
  begun,
  statement-worked,
  statement-failed,
  lower,
  ready_of,
}
use Rattle.program_simple.proofs.Jumps.{none-wrote}
use Rattle.program_items.proofs.Patterns.{item-begin, item-end}

-- what holds of each section
pub each-section : (P : Section → Type 0) → P begin-section → P main-section → P end-section → (x : Section) → P x
each-section P b m e begin-section = b
each-section P b m e main-section = m
each-section P b m e end-section = e

-- the program that was p, once an item's part has been read into one section
abbrev pub beginning : Program → Read → Program
beginning p r = record { token = r.token; outcome = r.outcome; begin = r.count; main = p.main; end = p.end }

abbrev pub matching : Program → Read → Program
matching p r = record { token = r.token; outcome = r.outcome; begin = p.begin; main = r.count; end = p.end }

abbrev pub ending : Program → Read → Program
ending p r = record { token = r.token; outcome = r.outcome; begin = p.begin; main = p.main; end = r.count }

module _ (edition : ℕ) (s : List ℕ) where
  -- a section that an item is not for
  none-put : (t u : Token) (n : ℕ) (xs : List ℕ) → t.start ≤ u.start → Put edition s t u n n xs empty xs
  unfolding size_of compile_statement
  none-put t u n xs h =
      record { count = omega arith; bound = omega arith; tight = λ f. omega arith; wrote = none-wrote edition s xs n }

  item_refused : (t : Token) (p q : Program) (xs ys : Section → List ℕ) (R : Result Item) (r : Read) → Fails R r
      → q.outcome ≡ r.outcome
      → q.token ≡ r.token → ReadingItem edition s t p xs R q ys
  unfolding ReadingItem
  item_refused t p q xs ys R r f e k =
      rw f.result
      (record {
        answer = e ∙ ap (λ (x : Read). x.outcome) f.answer;
        at = ap (λ (x : Coded). x.start) k ∙ ap (λ (x : Read). x.token.start) f.answer;
        some_outcome = f.some_number;
      })

  module _ (p : Program) (h : Onward edition s p) (b m e : List ℕ) where
    abbrev T : Token
    T = decoded p.token

    -- ---- the main section

    pub item-main : (r : Read) (ys : List ℕ) → (R : Result Item) → ReadingMain edition s T p.main m R r ys
        → ReadingItem edition s T p (each b m e) R (matching p r) (each b ys e)
    unfolding ReadingMain ReadingItem part_of
    item-main r ys (ok (main x a) u) w =
        record {
          outcome = w.outcome;
          token = w.token;
          good = w.good;
          further = w.further;
          put = go;
        }
      where
        go : (x' : Section)
            → Put edition s T u (count_in p x') (count_in (matching p r) x') (each b m e x') (part_of x' (main x a))
            (each b ys e x')
        go begin-section = none-put T u p.begin b (omega (arith, w.further))
        go main-section = w.put
        go end-section = none-put T u p.end e (omega (arith, w.further))
    item-main r ys (ok (begin a) u) w = absurd w
    item-main r ys (ok (end a) u) w = absurd w
    item-main r ys (no o q) w =
        record {
          answer = ap (λ (x : Read). x.outcome) w.0;
          at = ap (λ (x : Read). x.token.start) w.0;
          some_outcome = w.1;
        }

    -- ---- `BEGIN` and `END`, at their words

    module _ (z : p.token.kind ≡ 0 → ⊥) (u : Coded) (ue : u ≡ coded (token_after edition s T)) where
      after : Good edition s p.token.stop (token_after edition s T)
      after = good-after edition s 0 T h.good

      longer : p.token.start < p.token.stop
      longer = h.good.longer (begun p.token h.known z)

      pub action-ready : (x : Section) → Ready edition s u (count_in p x)
      action-ready x =
          ready_of edition s u (token_after edition s T) p.token.stop (count_in p x) ue after h.small
          (omega (arith, after.after, longer, h.counts x))

      module _ (n : ℕ) (xs : List ℕ) (r : Read) (ys : List ℕ)
          (w : ReadingStatement edition s (decoded u) n xs (action_at edition s false (decoded u)) r ys) where
        action-here : ReadingStatement edition s (token_after edition s T) n xs
            (action_at edition s false (token_after edition s T)) r ys
        action-here =
            subst (λ (x : Token). ReadingStatement edition s x n xs (action_at edition s false x) r ys)
            (decoded-back u (token_after edition s T) ue) w

        -- the item that wraps an action, by its part of each section
        wrapped : (f : Statement → Item) (q : Program) (before now : Section → List ℕ) → q.outcome ≡ r.outcome
            → q.token ≡ r.token
            → ((a : Statement) (v : Token) → T.start ≤ v.start → Put edition s T v n r.count xs a ys
            → (x : Section) → Put edition s T v (count_in p x) (count_in q x) (before x) (part_of x (f a)) (now x))
            → ReadingItem edition s T p before (map f (action_at edition s false (token_after edition s T))) q now
        unfolding ReadingItem
        wrapped f q before now oe te parts = go (eqb r.outcome 0) refl
          where
            go : (y : Bool) → eqb r.outcome 0 ≡ y
                → ReadingItem edition s T p before (map f (action_at edition s false (token_after edition s T))) q now
            go true k =
                let y = eqb-true r.outcome 0 k in
                let g = statement-worked edition s (token_after edition s T) n xs
                (action_at edition s false (token_after edition s T)) r ys action-here y in
                rw g.result
                (record {
                  outcome = oe ∙ y;
                  token = te ∙ ap (λ (x : Read). x.token) g.reads.answer;
                  good = lower edition s (omega arith) g.reads.good;
                  further = omega (arith, longer, after.after, after.ordered, g.reads.good.after);
                  put =
                      parts g.tree g.next (omega
                      (arith, longer, after.after, after.ordered, g.reads.good.after))
                      (record {
                        count = ap (λ (x : Read). x.count) g.reads.answer;
                        bound = omega (arith, g.reads.bound, longer, after.after);
                        tight = λ l. omega (arith, g.reads.bound, longer, after.after);
                        wrote = g.reads.wrote;
                      });
                })
            go false k =
                item_refused T p q before now (map f (action_at edition s false (token_after edition s T))) r
                (fails-up (map f) (λ o x. refl)
                (statement-failed edition s (token_after edition s T) n xs
                (action_at edition s false (token_after edition s T)) r ys action-here
                (λ y. clash (sym (eq-eqb r.outcome 0 y) ∙ k)))) oe te

      pub item-begun : (r : Read) (ys : List ℕ) → p.token.kind ≡ 11
          → ReadingStatement edition s (decoded u) p.begin b (action_at edition s false (decoded u)) r ys
          → ReadingItem edition s T p (each b m e) (item_at edition s T) (beginning p r) (each ys m e)
      unfolding part_of
      item-begun r ys k w =
          subst (λ (R : Result Item). ReadingItem edition s T p (each b m e) R (beginning p r) (each ys m e))
          (sym (item-begin edition s p.token h.known k))
          (wrapped p.begin b r ys w begin (beginning p r) (each b m e) (each ys m e) refl refl parts)
        where
          parts : (a : Statement) (v : Token) → T.start ≤ v.start → Put edition s T v p.begin r.count b a ys
              → (x : Section)
              → Put edition s T v (count_in p x) (count_in (beginning p r) x) (each b m e x) (part_of x (begin a))
              (each ys m e x)
          parts a v l g begin-section = g
          parts a v l g main-section = none-put T v p.main m l
          parts a v l g end-section = none-put T v p.end e l

      pub item-ended : (r : Read) (ys : List ℕ) → p.token.kind ≡ 12
          → ReadingStatement edition s (decoded u) p.end e (action_at edition s false (decoded u)) r ys
          → ReadingItem edition s T p (each b m e) (item_at edition s T) (ending p r) (each b m ys)
      unfolding part_of
      item-ended r ys k w =
          subst (λ (R : Result Item). ReadingItem edition s T p (each b m e) R (ending p r) (each b m ys))
          (sym (item-end edition s p.token h.known k))
          (wrapped p.end e r ys w end (ending p r) (each b m e) (each b m ys) refl refl parts)
        where
          parts : (a : Statement) (v : Token) → T.start ≤ v.start → Put edition s T v p.end r.count e a ys
              → (x : Section)
              → Put edition s T v (count_in p x) (count_in (ending p r) x) (each b m e x) (part_of x (end a))
              (each b m ys x)
          parts a v l g begin-section = none-put T v p.begin b l
          parts a v l g main-section = none-put T v p.main m l
          parts a v l g end-section = g
