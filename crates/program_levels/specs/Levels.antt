-- Document 01, "Sizes": "Nesting: each open parenthesis, brace, `if` or `while` body, prefix operator (`$` too), `else`
-- body and right side of `=` is a level. A body's level opens with its first token, a right side's with the `=`." For
-- each token of a derivation the level that it opens, where so many are open around the derivation: the last one, where
-- it opens several; 0, where it opens none.
use Rattle.std.specs.Prelude.{Bool, List, [], ◌∷◌, ◌++◌, ℕ, zero, suc}
use Rattle.program_tokens.specs.Kinds.{Kind}
use Rattle.program_grammar.specs.Grammar.{Part, Form, to_name, to_field, value, or, no_or, and, no_and, match, no_ere, compare, no_compare, join, no_join, add, no_add, multiply, no_multiply, prefix, no_prefix, of_field, no_field, one_token, parentheses, call, last_argument, next_argument, expression_argument, ere_argument, PrintList, last as last-element, next as next-element, value as value-statement, print, print-list, if, if-else, while, block, next, exit, empty, Block, braces, none as no-statement, blank_line, after_ended, after_end, last, Item, begin, end, pattern as pattern-block, always, Items, none as no_item, item, pattern as pattern-item, last_pattern, Sentence, program}

-- tokens that open no level
abbrev pub still : List Kind → List ℕ
still [] = []
still (k ∷ l) = 0 ∷ still l

-- "A body's level opens with its first token", which can open another one inside it
abbrev pub at_least : ℕ → ℕ → ℕ
at_least level zero = level
at_least level (suc n) = suc n

abbrev pub opening : ℕ → List ℕ → List ℕ
opening level [] = []
opening level (n ∷ l) = at_least level n ∷ l

-- "`if` or `while` body", "`else` body": one level further in
abbrev pub bodied : ℕ → (ℕ → List ℕ) → List ℕ
bodied n body = opening (suc n) (body (suc n))

-- an `if` or `while` and its condition in parentheses, newlines, and the rest
abbrev pub conditioned : ℕ → (ℕ → List ℕ) → List Kind → List ℕ → List ℕ
conditioned n condition lines rest = 0 ∷ suc n ∷ (condition (suc n) ++ (0 ∷ (still lines ++ rest)))

-- a body, `else`, and the other body
abbrev pub alternated : ℕ → (ℕ → List ℕ) → List Kind → List Kind → (ℕ → List ℕ) → List ℕ
alternated n body ends lines other = bodied n body ++ (still ends ++ (0 ∷ (still lines ++ bodied n other)))

-- "brace"
abbrev pub braced : ℕ → (ℕ → List ℕ) → List ℕ
braced n list = suc n ∷ (list (suc n) ++ (0 ∷ []))

module _ (edition : ℕ) where
  unfoldable pub opened : {part : Part} {l : List Kind} → Form edition part l → ℕ → List ℕ
  -- "right side of `=`": "a right side's with the `=`"
  opened (to_name o e) n = 0 ∷ suc n ∷ opened e (suc n)
  opened (to_field f e) n = suc n ∷ (opened f (suc n) ++ (suc n ∷ opened e (suc n)))
  opened (value d) n = opened d n
  opened (or {n = lines} d h e) n = opened d n ++ (0 ∷ (still lines ++ opened e n))
  opened (no_or d) n = opened d n
  opened (and {n = lines} d h e) n = opened d n ++ (0 ∷ (still lines ++ opened e n))
  opened (no_and d) n = opened d n
  opened (match d o) n = opened d n ++ (0 ∷ 0 ∷ [])
  opened (no_ere d) n = opened d n
  opened (compare d o e) n = opened d n ++ (0 ∷ opened e n)
  opened (no_compare d) n = opened d n
  opened (join d e o) n = opened d n ++ opened e n
  opened (no_join d) n = opened d n
  opened (add d o e) n = opened d n ++ (0 ∷ opened e n)
  opened (no_add d) n = opened d n
  opened (multiply d o e) n = opened d n ++ (0 ∷ opened e n)
  opened (no_multiply d) n = opened d n
  -- "prefix operator (`$` too)"
  opened (prefix o d) n = suc n ∷ opened d (suc n)
  opened (no_prefix d) n = opened d n
  opened (of_field d) n = suc n ∷ opened d (suc n)
  opened (no_field d) n = opened d n
  opened (one_token o) n = 0 ∷ []
  -- "each open parenthesis"
  opened (parentheses d) n = suc n ∷ (opened d (suc n) ++ (0 ∷ []))
  opened (call e d) n = 0 ∷ suc n ∷ (opened d (suc n) ++ (0 ∷ []))
  opened (last_argument d) n = opened d n
  opened (next_argument {n = lines} d h e) n = opened d n ++ (0 ∷ (still lines ++ opened e n))
  opened (expression_argument d) n = opened d n
  opened ere_argument n = 0 ∷ []

  unfoldable pub opened_in_list : {l : List Kind} → PrintList edition l → ℕ → List ℕ
  opened_in_list (last-element d) n = opened d n
  opened_in_list (next-element {n = lines} d h e) n = opened d n ++ (0 ∷ (still lines ++ opened_in_list e n))

  -- a block, by its statements
  unfoldable pub opened_by_block : {in_main : Bool} {l : List Kind} → Block edition in_main l → ℕ → List ℕ
  opened_by_block x =
      elim x as (λ e o l _. ℕ → List ℕ) (λ l _. ℕ → List ℕ) (λ l _. ℕ → List ℕ) [
        | value-statement d ↦ (λ n. opened d n)
        | print ↦ (λ n. 0 ∷ [])
        | print-list d ↦ (λ n. 0 ∷ opened_in_list d n)
        | if {n = lines} d h (t → t') ↦ (λ n. conditioned n (opened d) lines (bodied n t'))
        | if-else {n = lines} {b = ends} {m = more} d h (t → t') w k (u → u') ↦
            (λ n. conditioned n (opened d) lines (alternated n t' ends more u'))
        | while {n = lines} d h (t → t') ↦ (λ n. conditioned n (opened d) lines (bodied n t'))
        | block (d → d') ↦ d'
        | next e ↦ (λ n. 0 ∷ [])
        | exit ↦ (λ n. 0 ∷ [])
        | empty ↦ (λ n. 0 ∷ [])
        | braces (d → d') ↦ (λ n. braced n d')
        | no-statement ↦ (λ n. [])
        | blank_line (d → d') ↦ (λ n. 0 ∷ d' n)
        | after_ended (d → d') (r → r') ↦ (λ n. d' n ++ r' n)
        | after_end (d → d') t (r → r') ↦ (λ n. d' n ++ (0 ∷ r' n))
        | last (d → d') ↦ d'
      ]

  -- ---- items: no level is open around one

  unfoldable pub opened_by_item : {l : List Kind} → Item edition l → List ℕ
  opened_by_item (begin b) = 0 ∷ opened_by_block b 0
  opened_by_item (end b) = 0 ∷ opened_by_block b 0
  opened_by_item (pattern-block e b) = opened e 0 ++ opened_by_block b 0
  opened_by_item (always b) = opened_by_block b 0

  unfoldable pub opened_by_items : {l : List Kind} → Items edition l → List ℕ
  opened_by_items no_item = []
  opened_by_items (item {n = separators} i h l) = opened_by_item i ++ (still separators ++ opened_by_items l)
  opened_by_items (pattern-item {n = separators} e o h l) = opened e 0 ++ (0 ∷ (still separators ++ opened_by_items l))
  opened_by_items (last_pattern e) = opened e 0

  -- the levels that the tokens of a program open
  unfoldable pub opened_by : {l : List Kind} → Sentence edition l → List ℕ
  opened_by (program {n = lines} h l) = still lines ++ (opened_by_items l ++ (0 ∷ []))
