-- Document 01, "Tokens and grammar": the tree that a derivation of an expression says, by the tokens whose kinds it
-- derives; one clause a rule of the grammar.
use Rattle.std.specs.Prelude.{cond, List, [], ◌∷◌, ℕ}
use Rattle.image_format.specs.Image.{number, text}
use Rattle.program_tokens.specs.Kinds.{Kind, text_end, NUMBER, STRING, ERE, tilde, same}
use Rattle.program_tokens.specs.Tokens.{Token, token, spelling, number_in, string_in, ere_in}
use Rattle.program_tree.specs.Tree.{Expression, constant, ere, variable, parentheses, field, prefix, matches, no_match, assign, assign_field}
use Rattle.program_tree.specs.Functions.{Shape, an_expression, an_ere, Call}
use Rattle.program_reader.specs.Operators.{tree_of as operator_tree, prefix_of}
use Rattle.program_grammar.specs.Grammar.{Part, expression as expression-part, disjunction, conjunction, matching, comparison, concatenation, sum, product, prefixed, field as field-part, primary, argument, arguments, Form, to_name, to_field, value, or, no_or, and, no_and, match, no_ere, compare, no_compare, join, no_join, add, no_add, multiply, no_multiply, prefix as prefix-rule, no_prefix, of_field, no_field, one_token, parentheses as parentheses-rule, call, last_argument, next_argument, expression_argument, ere_argument}

-- ---- lists of tokens, cut by lists of kinds

abbrev pub first : List Kind → List Token → List Token
first [] ts = []
first (k ∷ l) [] = []
first (k ∷ l) (t ∷ ts) = t ∷ first l ts

abbrev pub rest : List Kind → List Token → List Token
rest [] ts = ts
rest (k ∷ l) [] = []
rest (k ∷ l) (t ∷ ts) = rest l ts

abbrev pub head : List Token → Token
head [] = token 0 text_end 0
head (t ∷ ts) = t

abbrev pub tail : List Token → List Token
tail [] = []
tail (t ∷ ts) = ts

-- what a form says: a tree; the bytes of an ERE; what a call does with its arguments
abbrev pub Said : Part → Type 0
Said (expression-part p) = Expression
Said (disjunction p) = Expression
Said (conjunction p) = Expression
Said (matching p) = Expression
Said (comparison p) = Expression
Said concatenation = Expression
Said sum = Expression
Said product = Expression
Said prefixed = Expression
Said field-part = Expression
Said primary = Expression
Said (argument an_expression) = Expression
Said (argument an_ere) = List ℕ
Said (arguments l) = Call l → Expression

abbrev pub applied : (x : Shape) (l : List Shape) → Said (argument x) → Call (x ∷ l) → Call l
applied an_expression l a f = f a
applied an_ere l a f = f a

module _ (edition : ℕ) (s : List ℕ) where
  -- NUMBER, STRING, ERE, name
  unfoldable pub leaf : Kind → Token → Expression
  leaf k t =
      cond (same k NUMBER) (constant (number (number_in s t)))
      (cond (same k STRING) (constant (text (string_in s t)))
      (cond (same k ERE) (ere (ere_in s t)) (variable (spelling s t))))

  unfoldable pub said : {part : Part} {l : List Kind} → Form edition part l → List Token → Said part
  said (to_name o e) ts = assign (spelling s (head ts)) (said e (tail (tail ts)))
  said (to_field {l = l} f e) ts = assign_field (said f (first l (tail ts))) (said e (tail (rest l (tail ts))))
  said (value d) ts = said d ts
  said (or {l = l} {n = n} d h e) ts =
      operator_tree (head (rest l ts)).kind (said d (first l ts)) (said e (rest n (tail (rest l ts))))
  said (no_or d) ts = said d ts
  said (and {l = l} {n = n} d h e) ts =
      operator_tree (head (rest l ts)).kind (said d (first l ts)) (said e (rest n (tail (rest l ts))))
  said (no_and d) ts = said d ts
  said (match {k = k} {l = l} d o) ts =
      let r = ere_in s (head (tail (rest l ts))) in
      cond (same k tilde) (matches (said d (first l ts)) r) (no_match (said d (first l ts)) r)
  said (no_ere d) ts = said d ts
  said (compare {k = k} {l = l} d o e) ts = operator_tree k (said d (first l ts)) (said e (tail (rest l ts)))
  said (no_compare d) ts = said d ts
  said (join {k = k} {l = l} d e o) ts = operator_tree k (said d (first l ts)) (said e (rest l ts))
  said (no_join d) ts = said d ts
  said (add {k = k} {l = l} d o e) ts = operator_tree k (said d (first l ts)) (said e (tail (rest l ts)))
  said (no_add d) ts = said d ts
  said (multiply {k = k} {l = l} d o e) ts = operator_tree k (said d (first l ts)) (said e (tail (rest l ts)))
  said (no_multiply d) ts = said d ts
  said (prefix-rule {k = k} o d) ts = prefix (prefix_of k) (said d (tail ts))
  said (no_prefix d) ts = said d ts
  said (of_field d) ts = field (said d (tail ts))
  said (no_field d) ts = said d ts
  said (one_token {k = k} o) ts = leaf k (head ts)
  said (parentheses-rule {l = l} d) ts = parentheses (said d (first l (tail ts)))
  said (call {f = f} {l = l} e d) ts = said d (first l (tail (tail ts))) f.tree
  said (last_argument {x = x} d) ts = λ f. applied x [] (said d ts) f
  said (next_argument {x = x} {y = y} {xs = xs} {l = l} {n = n} d h e) ts =
      λ f. said e (rest n (tail (rest l ts))) (applied x (y ∷ xs) (said d (first l ts)) f)
  said (expression_argument d) ts = said d ts
  said ere_argument ts = ere_in s (head ts)
