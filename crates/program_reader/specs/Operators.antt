-- Document 01, "Tokens and grammar": "Operators from loosest", as tables.
use Rattle.std.specs.Prelude.{Bool, cond, ◌&&◌, List, [], ◌∷◌, ℕ}
use Rattle.std.proofs.Math.Option.{Option, some, none}
use Rattle.image_format.specs.Codes.{add, subtract, multiply, divide, remainder, less as less_than, at-most as at_most, equal as equal_to, different as different_from, greater as greater_than, at-least as at_least}
use Rattle.program_tokens.specs.Kinds.{Kind, plus, minus, star, slash, percent, bang, greater, less, or_or, and_and, equal, at-most, at-least, different, same}
use Rattle.program_tree.specs.Tree.{Prefix, negation, to_number, negate, Expression, arithmetic, join, compare, both, either}
use Rattle.program_grammar.specs.Sets.{starts_joined}

-- the tiers, from the tightest; 7 is free
abbrev pub fields : ℕ
fields = 0

abbrev pub prefixed : ℕ
prefixed = 1

abbrev pub products : ℕ
products = 2

abbrev pub sums : ℕ
sums = 3

abbrev pub concatenations : ℕ
concatenations = 4

abbrev pub compared : ℕ
compared = 5

abbrev pub matched : ℕ
matched = 6

abbrev pub conjunctions : ℕ
conjunctions = 8

abbrev pub disjunctions : ℕ
disjunctions = 9

abbrev pub expressions : ℕ
expressions = 10

-- an operator between two operands: its tier and its tree
pub record Operator : Type 0 where
  pub kind : Kind
  pub tier : ℕ
  pub tree : Expression → Expression → Expression

abbrev pub operator : Kind → ℕ → (Expression → Expression → Expression) → Operator
operator k n f = record { kind = k; tier = n; tree = f }

abbrev pub binary : List Operator
binary =
    operator or_or disjunctions either
    ∷ operator and_and conjunctions both
    ∷ operator less compared (compare less_than)
    ∷ operator at-most compared (compare at_most)
    ∷ operator equal compared (compare equal_to)
    ∷ operator different compared (compare different_from)
    ∷ operator greater compared (compare greater_than)
    ∷ operator at-least compared (compare at_least)
    ∷ operator plus sums (arithmetic add)
    ∷ operator minus sums (arithmetic subtract)
    ∷ operator star products (arithmetic multiply)
    ∷ operator slash products (arithmetic divide)
    ∷ operator percent products (arithmetic remainder)
    ∷ []

unfoldable pub operator_in : Kind → List Operator → Option Operator
operator_in k [] = none
operator_in k (o ∷ l) =
    let rest = operator_in k l in
    cond (same k o.kind) (some o) rest

-- the tier of a kind that is not an operator: it may begin the right operand of a concatenation; where it can't,
-- `fields`, which no operator has
abbrev pub tier_in : ℕ → Kind → Option Operator → ℕ
tier_in edition k none = cond (starts_joined edition k) concatenations fields
tier_in edition k (some o) = o.tier

-- the tier of the operator that a token is or begins. "In a print list `>` must be inside parentheses"
unfoldable pub tier_of : ℕ → Bool → Kind → ℕ
tier_of edition printed k = cond (printed && same k greater) fields (tier_in edition k (operator_in k binary))

abbrev pub tree_in : Option Operator → Expression → Expression → Expression
tree_in none a b = join a b
tree_in (some o) a b = o.tree a b

unfoldable pub tree_of : Kind → Expression → Expression → Expression
tree_of k a b = tree_in (operator_in k binary) a b

-- the same trees without the tiers: a kind between two operands, and what it makes of them; where none is listed, they
-- are joined
abbrev pub trees : List (Kind × (Expression → Expression → Expression))
trees =
    (or_or, either)
    ∷ (and_and, both)
    ∷ (less, compare less_than)
    ∷ (at-most, compare at_most)
    ∷ (equal, compare equal_to)
    ∷ (different, compare different_from)
    ∷ (greater, compare greater_than)
    ∷ (at-least, compare at_least)
    ∷ (plus, arithmetic add)
    ∷ (minus, arithmetic subtract)
    ∷ (star, arithmetic multiply)
    ∷ (slash, arithmetic divide)
    ∷ (percent, arithmetic remainder)
    ∷ []

abbrev pub tree_among : Kind → List (Kind × (Expression → Expression → Expression))
    → Expression → Expression → Expression
tree_among k [] a b = join a b
tree_among k (x ∷ l) a b = cond (same k x.0) (x.1 a b) (tree_among k l a b)

-- "prefix `! + -`"
unfoldable pub prefix_of : Kind → Prefix
prefix_of k = cond (same k bang) negation (cond (same k plus) to_number negate)
