-- The reader of programs with any number of levels: with 01's number it is the reader. (That a sentence has one tree is
-- shown with more levels than a text can open.)
use mathlib.Core.Path.{◌≡◌, refl, ap, ◌∙◌}
use mathlib.Core.Bool.{Bool, true, false, cond}
use mathlib.Core.List.{List, [], ◌∷◌}
use mathlib.Core.Option.{some, none}
use Prim.Native.Nat.{ℕ, zero, suc, ◌-◌}
use lib.ListN.{length}
use Rattle.edition.specs.Limits.{nesting_depth}
use Rattle.program_tokens.specs.Kinds.{text_end, BEGIN, END, open_brace}
use Rattle.program_tokens.specs.Tokens.{Token, is, is_one_of, token_at, token_after, as_operand}
use Rattle.program_tree.specs.Tree.{Expression, Statement, print, Item, begin, end, main, Program}
use Rattle.program_grammar.specs.Sets.{enders}
use Rattle.program_reader.specs.Read.{Read, ok, no, map, bind, refuse, past, past_newlines}
use Rattle.program_reader.specs.Expressions.{expression_at}
use Rattle.program_reader.specs.Statements.{block_of, statement_at}
use Rattle.program_reader.specs.Programs.{action_at, after_pattern, item_at, items, read_program}

bind-same : {A B : Type 0} (r : Read A) (f g : A → Token → Read B) → ((a : A) (u : Token) → f a u ≡ g a u) → bind r f ≡ bind r g
bind-same (ok a u) f g h = h a u
bind-same (no outcome place) f g h = refl

module _ (edition : ℕ) (s : List ℕ) where
  -- an action opens the first level; so many are left in it
  module _ (levels : ℕ) where
    unfoldable pub action_of : Bool → Token → Read Statement
    action_of in_main t = cond (is open_brace t) (block_of edition s (statement_at edition s in_main levels) t) (refuse t)

    unfoldable pub pattern_of : Read Expression → Read Item
    pattern_of (no outcome place) = no outcome place
    pattern_of (ok e t) =
        let a = map (main (some e)) (action_of true t) in
        cond (is open_brace t) a (cond (is_one_of (text_end ∷ enders) t) (ok (main (some e) (print [])) t) (refuse t))

    unfoldable pub item_of : Token → Read Item
    item_of t =
        let b = map begin (action_of false (token_after edition s t)) in
        let f = map end (action_of false (token_after edition s t)) in
        let a = map (main none) (action_of true t) in
        let p = pattern_of (expression_at edition s (suc levels) false t) in
        cond (is BEGIN t) b (cond (is END t) f (cond (is open_brace t) a p))

    unfoldable pub items_of : ℕ → Token → Read Program
    items_of zero t = refuse t
    items_of (suc n) t =
        let more = bind (item_of t) (λ i u. map (λ l. i ∷ l) (items_of n (as_operand edition s (past edition s enders u)))) in
        cond (is text_end t) (ok [] t) more

    unfoldable pub program_of : Read Program
    program_of = items_of (suc (length s)) (past_newlines edition s (token_at edition s 0))

  -- ---- with 01's number of levels

  same-pattern : (r : Read Expression) → pattern_of (nesting_depth - 1) r ≡ after_pattern edition s r
  unfolding pattern_of after_pattern action_of action_at
  same-pattern (no outcome place) = refl
  same-pattern (ok e t) = refl

  same_item : (t : Token) → item_of (nesting_depth - 1) t ≡ item_at edition s t
  unfolding item_of item_at action_of action_at
  same_item t =
      let b : Read Item = map begin (action_at edition s false (token_after edition s t)) in
      let f : Read Item = map end (action_at edition s false (token_after edition s t)) in
      let a : Read Item = map (main none) (action_at edition s true t) in
      ap (λ (p : Read Item). cond (is BEGIN t) b (cond (is END t) f (cond (is open_brace t) a p))) (same-pattern (expression_at edition s nesting_depth false t))

  same-items : (n : ℕ) (t : Token) → items_of (nesting_depth - 1) n t ≡ items edition s n t
  unfolding items_of items
  same-items zero t = refl
  same-items (suc n) t =
      ap (λ (m : Read Program). cond (is text_end t) (ok [] t) m)
      (ap (λ (r : Read Item). bind r (λ i u. map (λ l. i ∷ l) (items_of (nesting_depth - 1) n (as_operand edition s (past edition s enders u))))) (same_item t)
      ∙ bind-same (item_at edition s t) _ _ (λ i u. ap (map (λ l. i ∷ l)) (same-items n (as_operand edition s (past edition s enders u)))))

  pub same-program : program_of (nesting_depth - 1) ≡ read_program edition s
  unfolding program_of read_program
  same-program = same-items (suc (length s)) (past_newlines edition s (token_at edition s 0))
