-- Internal: cited by private contracts only. Document 01, "Tokens and grammar": "Items: ..", computed. `trees-exactly`
-- of program_says, `refused-exactly` of program_exact and `level-exactly` of program_levels say what is read and what
-- is refused.
use Rattle.std.specs.Prelude.{Bool, true, false, cond, List, [], ◌∷◌, ℕ, zero, suc, ◌-◌, length}
use Rattle.std.proofs.Math.Option.{some, none}
use Rattle.edition.specs.Limits.{nesting_depth}
use Rattle.program_tokens.specs.Kinds.{text_end, BEGIN, END, open_brace}
use Rattle.program_tokens.specs.Tokens.{Token, is, is_one_of, token_at, token_after, as_operand}
use Rattle.program_tree.specs.Tree.{Expression, Statement, print, Item, begin, end, main, Program}
use Rattle.program_grammar.specs.Sets.{enders}
use Rattle.program_reader.specs.Read.{Read, ok, no, map, bind, refuse, past, past_newlines}
use Rattle.program_reader.specs.Expressions.{expression_at}
use Rattle.program_reader.specs.Statements.{block_of, statement_at}

module _ (edition : ℕ) (s : List ℕ) where
  -- an action, at its `{`, which opens the first level
  unfoldable pub action_at : Bool → Token → Read Statement
  action_at in_main t =
      cond (is open_brace t) (block_of edition s (statement_at edition s in_main (nesting_depth - 1)) t) (refuse t)

  -- what follows a pattern: "`pattern {..}`, `pattern` (then `{ print }`; ends at newline, `;` or text end)"
  unfoldable pub after_pattern : Read Expression → Read Item
  after_pattern (no outcome place) = no outcome place
  after_pattern (ok e t) =
      let a = map (main (some e)) (action_at true t) in
      cond (is open_brace t) a (cond (is_one_of (text_end ∷ enders) t) (ok (main (some e) (print [])) t) (refuse t))

  unfoldable pub item_at : Token → Read Item
  item_at t =
      let b = map begin (action_at false (token_after edition s t)) in
      let f = map end (action_at false (token_after edition s t)) in
      let a = map (main none) (action_at true t) in
      let p = after_pattern (expression_at edition s nesting_depth false t) in
      cond (is BEGIN t) b (cond (is END t) f (cond (is open_brace t) a p))

  -- the items up to the text's end, at most n; "newlines and `;` may follow any item"
  unfoldable pub items : ℕ → Token → Read Program
  items zero t = refuse t
  items (suc n) t =
      let more = bind (item_at t) (λ i u. map (λ l. i ∷ l) (items n (as_operand edition s (past edition s enders u)))) in
      cond (is text_end t) (ok [] t) more

  -- "only newlines may open the text. No items is a program."
  unfoldable pub read_program : Read Program
  read_program = items (suc (length s)) (past_newlines edition s (token_at edition s 0))
