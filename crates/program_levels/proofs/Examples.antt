-- The levels that some texts open, computed from their derivations.
use mathlib.Core.Path.{◌≡◌, refl}
use mathlib.Core.Bool.{true}
use mathlib.Core.List.{List, [], ◌∷◌}
use Prim.Native.Nat.{ℕ}
use Rattle.program_tokens.specs.Kinds.{Kind, NUMBER, user_name, IF, ELSE, open_brace, close_brace, open_paren, close_paren, semicolon, minus, dollar, assign, among, rank}
use Rattle.program_grammar.specs.Grammar.{one, none as no-newline, newlines, prefixed, field, Form, Expression, to_name, to_field, value as value-form, no_or, no_and, no_ere, no_compare, no_join, no_add, no_multiply, prefix, no_prefix, of_field, no_field, one_token, parentheses, value as value-statement, if, if-else, empty, block, Block, braces, none as no-statement, after_ended, last}
use Rattle.program_levels.specs.Levels.{opened, opened_by_block}

module _ (edition : ℕ) where
  a-name : Form edition field (user_name ∷ [])
  unfolding among rank
  a-name = no_field (one_token (one refl))

  a-number : Form edition field (NUMBER ∷ [])
  unfolding among rank
  a-number = no_field (one_token (one refl))

  whole : {l : List Kind} → Form edition prefixed l → Expression edition l
  whole d = value-form (no_or (no_and (no_ere (no_compare (no_join (no_add (no_multiply d)))))))

  -- `$$x`
  fields : opened edition (of_field (of_field a-name)) 0 ≡ 1 ∷ 2 ∷ 0 ∷ []
  unfolding opened a-name
  fields = refl

  -- `x = y = 1`
  names : Expression edition (user_name ∷ assign ∷ user_name ∷ assign ∷ NUMBER ∷ [])
  unfolding among rank
  names = to_name (one refl) (to_name (one refl) (whole (no_prefix a-number)))

  assignments : opened edition names 0 ≡ 0 ∷ 1 ∷ 0 ∷ 2 ∷ 0 ∷ []
  unfolding opened names whole a-number
  assignments = refl

  -- `$x = (1)`: the level of the `$` is closed before the `=`
  to-a-field : Expression edition (dollar ∷ user_name ∷ assign ∷ open_paren ∷ NUMBER ∷ close_paren ∷ [])
  to-a-field = to_field a-name (whole (no_prefix (no_field (parentheses (whole (no_prefix a-number))))))

  field-assignment : opened edition to-a-field 0 ≡ 1 ∷ 0 ∷ 1 ∷ 2 ∷ 0 ∷ 0 ∷ []
  unfolding opened to-a-field whole a-name a-number
  field-assignment = refl

  -- `{ if (1) -x }`: at the `-` the body's level and the prefix's
  negated : Block edition true (open_brace ∷ IF ∷ open_paren ∷ NUMBER ∷ close_paren ∷ minus ∷ user_name ∷ close_brace ∷ [])
  unfolding among rank
  negated = braces (last (if (whole (no_prefix a-number)) no-newline (value-statement (whole (prefix (one refl) (no_prefix a-name))))))

  body-and-prefix : opened_by_block edition negated 0 ≡ 1 ∷ 0 ∷ 2 ∷ 0 ∷ 0 ∷ 3 ∷ 0 ∷ 0 ∷ []
  unfolding opened_by_block opened negated whole a-name a-number
  body-and-prefix = refl

  -- `{ if (1) ; else { } }`: at the second `{` the body's level and the brace's
  alternatives : Block edition true (open_brace ∷ IF ∷ open_paren ∷ NUMBER ∷ close_paren ∷ semicolon ∷ ELSE ∷ open_brace ∷ close_brace ∷ close_brace ∷ [])
  alternatives =
      braces (after_ended (if-else (whole (no_prefix a-number)) no-newline empty (newlines no-newline) no-newline (block (braces no-statement))) no-statement)

  body-and-brace : opened_by_block edition alternatives 0 ≡ 1 ∷ 0 ∷ 2 ∷ 0 ∷ 0 ∷ 2 ∷ 0 ∷ 3 ∷ 0 ∷ 0 ∷ []
  unfolding opened_by_block opened alternatives whole a-number
  body-and-brace = refl
