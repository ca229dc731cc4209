-- Document 01, "Tokens and grammar": the tree that a derivation of a program says, by the tokens whose kinds it
-- derives; one clause a rule of the grammar. (For expressions: program_exact.)
use Rattle.std.specs.Prelude.{Bool, List, [], ◌∷◌, ◌++◌, ℕ}
use Rattle.std.proofs.Math.Option.{some, none}
use Rattle.program_tokens.specs.Kinds.{Kind}
use Rattle.program_tokens.specs.Tokens.{Token}
use Rattle.program_tree.specs.Tree.{Expression, Statement as StatementTree, expression, print, if, if-else, while, block, next, exit, empty, sequence, Item as ItemTree, begin, end, main, Program}
use Rattle.program_grammar.specs.Grammar.{PrintList, last as last-element, next as next-element, End, Else, Statement, value, print as print-alone, print-list, if as if-rule, if-else as if-else-rule, while as while-rule, block as block-rule, next as next-rule, exit as exit-rule, empty as empty-rule, Block, braces, Statements, none as no-statement, blank_line, after_ended, after_end, last, Item, begin as begin-rule, end as end-rule, pattern as pattern-action, always, Items, none as no_item, item, pattern as pattern-alone, last_pattern, Sentence, program}
use Rattle.program_grammar.specs.Viable.{Reached, first as first-token, after}
use Rattle.program_exact.specs.Trees.{first, rest, tail, said}
use Rattle.program_exact.specs.Claims.{Accepted}

-- `if` or `while`, a condition in parentheses, newlines: the tokens of the condition, and those after the newlines
abbrev pub condition : List Kind → List Token → List Token
condition c ts = first c (tail (tail ts))

abbrev pub after_condition : List Kind → List Kind → List Token → List Token
after_condition c n ts = rest n (tail (rest c (tail (tail ts))))

module _ (edition : ℕ) (s : List ℕ) where
  -- the elements of a print list, in their order
  unfoldable pub said_list : {l : List Kind} → PrintList edition l → List Token → List Expression
  said_list (last-element d) ts = said edition s d ts ∷ []
  said_list (next-element {l = l} {n = n} d h e) ts =
      said edition s d (first l ts) ∷ said_list e (rest n (tail (rest l ts)))

  -- what tokens are said to be
  abbrev pub Saying : Type 0
  Saying = List Token → StatementTree

  -- statements, blocks and lists of statements, in one recursion: what a statement says, and, where it is a block, what
  -- the list in its braces says
  unfoldable pub said_parts : {in_main : Bool} {e : End} {o : Else} {l : List Kind} → Statement edition in_main e o l
      → Saying × Saying
  said_parts x =
      let whole : Saying → Saying × Saying = λ f. (f, f) in
      elim x as (λ e o l _. Saying × Saying) (λ l _. Saying × Saying) (λ l _. Saying) [
        | value d ↦ whole (λ ts. expression (said edition s d ts))
        | print-alone ↦ whole (λ ts. print [])
        | print-list d ↦ whole (λ ts. print (said_list d (tail ts)))
        | if-rule {c = c} {n = n} d h (a → a') ↦
            whole (λ ts. if (said edition s d (condition c ts)) (a'.0 (after_condition c n ts)))
        | if-else-rule {c = c} {n = n} {a = l} {b = b} {m = m} d h (a → a') k j (f → f') ↦
            whole (λ ts.
            let then-part = a'.0 (first l (after_condition c n ts)) in
            let else-part = f'.0 (rest m (tail (rest b (rest l (after_condition c n ts))))) in
            if-else (said edition s d (condition c ts)) then-part else-part)
        | while-rule {c = c} {n = n} d h (a → a') ↦
            whole (λ ts. while (said edition s d (condition c ts)) (a'.0 (after_condition c n ts)))
        | block-rule (d → d') ↦ d'
        | next-rule h ↦ whole (λ ts. next)
        | exit-rule ↦ whole (λ ts. exit)
        | empty-rule ↦ whole (λ ts. empty)
        | braces {l = l} (d → d') ↦ ((λ ts. block (d' (first l (tail ts)))), d')
        -- a sequence that ends in `empty`
        | no-statement ↦ (λ ts. empty)
        | blank_line (d → d') ↦ (λ ts. d' (tail ts))
        | after_ended {a = a} (d → d') (r → r') ↦ (λ ts. sequence (d'.0 (first a ts)) (r' (rest a ts)))
        | after_end {a = a} (d → d') h (r → r') ↦ (λ ts. sequence (d'.0 (first a ts)) (r' (tail (rest a ts))))
        | last (d → d') ↦ (λ ts. sequence (d'.0 ts) empty)
      ]

  -- ---- statements

  unfoldable pub said_statement : {in_main : Bool} {e : End} {o : Else} {l : List Kind} → Statement edition in_main e o l
      → Saying
  said_statement d = (said_parts d).0

  unfoldable pub said_block : {in_main : Bool} {l : List Kind} → Block edition in_main l → Saying
  said_block d = (said_parts (block-rule d)).0

  unfoldable pub said_statements : {in_main : Bool} {l : List Kind} → Statements edition in_main l → Saying
  said_statements d = (said_parts (block-rule (braces d))).1

  -- ---- items

  unfoldable pub said_item : {l : List Kind} → Item edition l → List Token → ItemTree
  said_item (begin-rule a) ts = begin (said_block a (tail ts))
  said_item (end-rule a) ts = end (said_block a (tail ts))
  said_item (pattern-action {e = e} d a) ts = main (some (said edition s d (first e ts))) (said_block a (rest e ts))
  said_item (always a) ts = main none (said_block a ts)

  -- "`pattern` (then `{ print }` ..)"
  unfoldable pub said_items : {l : List Kind} → Items edition l → List Token → Program
  said_items no_item ts = []
  said_items (item {i = i} {n = n} d h r) ts = said_item d (first i ts) ∷ said_items r (rest n (rest i ts))
  said_items (pattern-alone {e = e} {n = n} d o h r) ts =
      main (some (said edition s d (first e ts))) (print []) ∷ said_items r (rest n (tail (rest e ts)))
  said_items (last_pattern d) ts = main (some (said edition s d ts)) (print []) ∷ []

  unfoldable pub said_sentence : {l : List Kind} → Sentence edition l → List Token → Program
  said_sentence (program {n = n} {l = l} h d) ts = said_items d (first l (rest n ts))

  -- ---- texts

  -- the tokens before one
  unfoldable pub tokens_before : {before : List Kind} {t : Token} → Reached edition s before t → List Token
  tokens_before (first-token h) = []
  tokens_before (after {t = t} r h) = tokens_before r ++ (t ∷ [])

  -- the tree that a text's derivation says by the text's tokens
  unfoldable pub said_by : Accepted edition s → Program
  said_by a = said_sentence a.sentence (tokens_before a.reached ++ (a.last ∷ []))
