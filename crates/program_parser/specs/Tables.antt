-- Internal: cited by private contracts only. The tables of the reader: operators, prefix operators, functions, by kinds
-- of tokens.
use Rattle.std.specs.Prelude.{cond, ◌||◌, List, [], ◌∷◌, ℕ, ◌+◌, ◌*◌, eqb, leb, Option, Some, None}
use Rattle.std.proofs.Math.Option as maybe
use Rattle.image_format.specs.Codes.{Action, arithmetic, compare, join, add, subtract, multiply, divide, remainder, less as less_than, at-most as at_most, equal as equal_to, different as different_from, greater as greater_than, at-least as at_least, length-of, index, substr, match}
use Rattle.program_tokens.specs.Kinds.{Kind, IF, WHILE, PRINT, EXIT, open_brace, semicolon, LENGTH, INDEX, SUBSTR, plus, minus, star, slash, percent, greater, less, equal, at-most, at-least, different, same}
use Rattle.program_tree.specs.Functions.{Shape, an_expression, an_ere, Function}
use Rattle.program_grammar.specs.Sets.{starts_joined}
use Rattle.program_code.specs.Emitted.{action_code}
use Rattle.program_code.specs.Expressions.{prefix_action}
use Rattle.program_reader.specs.Operators.{prefix_of, fields, concatenations}
use Rattle.program_parser.specs.declared.calls.Function.{Function as Coded}

-- the kinds that begin a statement of no expression
abbrev pub forms : List Kind
forms = semicolon ∷ open_brace ∷ IF ∷ WHILE ∷ PRINT ∷ EXIT ∷ []

-- the tier of a kind that is no operator
abbrev pub joined_tier : ℕ → Kind → ℕ
joined_tier edition k = cond (starts_joined edition k) concatenations fields

-- how many instructions `&&` and `||`, by the numbers of their kinds, have between their operands; other operators have
-- none
abbrev pub between : ℕ → ℕ
between kind = cond (eqb kind 61) 1 (cond (eqb kind 60) 3 0)

-- the depth of an operator's right operand, where that of its left one is d
abbrev pub right_depth : ℕ → ℕ → ℕ
right_depth kind d = cond (eqb kind 61 || eqb kind 60) d (d + 1)

-- the action of an operator between two operands; one that is none of them joins
unfoldable pub action_of : Kind → Action
action_of k =
    cond (same k plus) (arithmetic add)
    (cond (same k minus) (arithmetic subtract)
    (cond (same k star) (arithmetic multiply)
    (cond (same k slash) (arithmetic divide)
    (cond (same k percent) (arithmetic remainder)
    (cond (same k less) (compare less_than)
    (cond (same k at-most) (compare at_most)
    (cond (same k equal) (compare equal_to)
    (cond (same k different) (compare different_from)
    (cond (same k greater) (compare greater_than)
    (cond (same k at-least) (compare at_least) join))))))))))

-- its code, and that of a prefix operator
abbrev pub operator_code : Kind → ℕ
operator_code k = action_code (action_of k)

abbrev pub prefix_code : Kind → ℕ
prefix_code k = action_code (prefix_action (prefix_of k))

-- the action of a function
unfoldable pub function_action : Kind → Action
function_action k =
    cond (same k LENGTH) length-of (cond (same k INDEX) index (cond (same k SUBSTR) substr match))

-- the shapes of arguments as a number, two bits each, the first lowest
unfoldable pub shape_code : Shape → ℕ
shape_code an_expression = 1
shape_code an_ere = 2

unfoldable pub shapes_code : List Shape → ℕ
shapes_code [] = 0
shapes_code (x ∷ l) = shape_code x + 4 * shapes_code l

-- a function's numbers, in the editions that have it
abbrev pub with_since : ℕ → ℕ → ℕ → ℕ → Option Coded
with_since op shapes since edition = cond (leb since edition) (Some (record { op = op; shapes = shapes })) None

-- what the code says of a function
abbrev pub described : maybe.Option Function → Option Coded
described maybe.none = None
described (maybe.some f) = Some (record { op = action_code (function_action f.kind); shapes = shapes_code f.shapes })
