-- Document 01, "The image": "users from 7 by first appearance in the text". The names in a tree, in the text's order.
use Rattle.std.specs.Prelude.{Bool, false, cond, ◌||◌, List, [], ◌∷◌, ◌++◌, ℕ, suc}
use Rattle.std.proofs.Math.Option.{Option, some, none}
use Rattle.program_tokens.specs.Kinds.{user_name, same}
use Rattle.program_tokens.specs.Words.{word_kind, same_bytes}
use Rattle.program_tree.specs.Tree.{Expression, constant, ere, variable, parentheses, length-of, index, substr, match, field, prefix, arithmetic, join, compare, matches, no_match, both, either, assign, assign_field, Statement, expression, print, if, if-else, while, block, next, exit, empty, sequence, Item, begin, end, main, Program}

unfoldable pub names_in : Expression → List (List ℕ)
names_in (constant c) = []
names_in (ere r) = []
names_in (variable v) = v ∷ []
names_in (parentheses e) = names_in e
names_in (length-of e) = names_in e
names_in (index a b) = names_in a ++ names_in b
names_in (substr a b c) = names_in a ++ (names_in b ++ names_in c)
names_in (match e r) = names_in e
names_in (field e) = names_in e
names_in (prefix o e) = names_in e
names_in (arithmetic o a b) = names_in a ++ names_in b
names_in (join a b) = names_in a ++ names_in b
names_in (compare o a b) = names_in a ++ names_in b
names_in (matches e r) = names_in e
names_in (no_match e r) = names_in e
names_in (both a b) = names_in a ++ names_in b
names_in (either a b) = names_in a ++ names_in b
names_in (assign v e) = v ∷ names_in e
names_in (assign_field i e) = names_in i ++ names_in e

unfoldable pub names_in_all : List Expression → List (List ℕ)
names_in_all [] = []
names_in_all (e ∷ l) = names_in e ++ names_in_all l

unfoldable pub names_in_statement : Statement → List (List ℕ)
names_in_statement (expression e) = names_in e
names_in_statement (print es) = names_in_all es
names_in_statement (if c a) = names_in c ++ names_in_statement a
names_in_statement (if-else c a b) = names_in c ++ (names_in_statement a ++ names_in_statement b)
names_in_statement (while c a) = names_in c ++ names_in_statement a
names_in_statement (block b) = names_in_statement b
names_in_statement next = []
names_in_statement exit = []
names_in_statement empty = []
names_in_statement (sequence a b) = names_in_statement a ++ names_in_statement b

unfoldable pub names_in_pattern : Option Expression → List (List ℕ)
names_in_pattern none = []
names_in_pattern (some e) = names_in e

unfoldable pub names_in_item : Item → List (List ℕ)
names_in_item (begin a) = names_in_statement a
names_in_item (end a) = names_in_statement a
names_in_item (main e a) = names_in_pattern e ++ names_in_statement a

unfoldable pub names_in_program : Program → List (List ℕ)
names_in_program [] = []
names_in_program (i ∷ l) = names_in_item i ++ names_in_program l

-- ---- each thing once, by its first appearance

module _ {A : Type 0} (equal : A → A → Bool) where
  unfoldable pub has : List A → A → Bool
  has [] a = false
  has (b ∷ l) a = equal a b || has l a

  -- a list, and then what another list has that is new
  unfoldable pub with_new : List A → List A → List A
  with_new l [] = l
  with_new l (a ∷ m) = with_new (cond (has l a) l (l ++ (a ∷ []))) m

  -- how many come before the first that is equal
  unfoldable pub number_of : List A → A → ℕ
  number_of [] a = 0
  number_of (b ∷ l) a =
      let r = suc (number_of l a) in
      cond (equal a b) 0 r

-- those of some names that are users'
unfoldable pub users_among : ℕ → List (List ℕ) → List (List ℕ)
users_among edition [] = []
users_among edition (v ∷ l) =
    cond (same (word_kind edition v) user_name) (v ∷ users_among edition l) (users_among edition l)

-- the users' names of a program, by first appearance
unfoldable pub users_of : ℕ → Program → List (List ℕ)
users_of edition p = with_new same_bytes [] (users_among edition (names_in_program p))
