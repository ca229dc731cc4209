-- A kind is told from its number.
use mathlib.Core.Path.{◌≡◌, refl, ap, ◌∙◌}
use mathlib.Core.Bool.{true}
use mathlib.Core.Option.{some}
use borrow.Author.Tests.{eqb-true, eq-eqb}
use Rattle.lists.proofs.Options.{some_one}
use Rattle.lists.specs.Elements.{nth}
use Rattle.program_tokens.specs.Kinds.{Kind, kinds, rank, same, text_end, newline, bad, bad-ere, NUMBER, STRING, ERE, user_name, variable, fixed_variable, other_variable, BEGIN, END, IF, ELSE, WHILE, PRINT, NEXT, EXIT, BREAK, CONTINUE, DELETE, DO, FOR, FUNCTION, GETLINE, IN, PRINTF, RETURN, LENGTH, INDEX, SUBSTR, MATCH, SUB, GSUB, other_function, open_brace, close_brace, open_paren, close_paren, open_bracket, close_bracket, comma, semicolon, call_paren, plus, minus, star, slash, percent, caret, bang, greater, less, bar, question, colon, tilde, dollar, assign, or_or, and_and, no_match, equal, at-most, at-least, different, add_assign, sub_assign, mul_assign, div_assign, mod_assign, pow_assign, increment, decrement, append}

pub rank-names : (k : Kind) → nth kinds (rank k) ≡ some k
unfolding nth rank
rank-names text_end = refl
rank-names newline = refl
rank-names bad = refl
rank-names bad-ere = refl
rank-names NUMBER = refl
rank-names STRING = refl
rank-names ERE = refl
rank-names user_name = refl
rank-names variable = refl
rank-names fixed_variable = refl
rank-names other_variable = refl
rank-names BEGIN = refl
rank-names END = refl
rank-names IF = refl
rank-names ELSE = refl
rank-names WHILE = refl
rank-names PRINT = refl
rank-names NEXT = refl
rank-names EXIT = refl
rank-names BREAK = refl
rank-names CONTINUE = refl
rank-names DELETE = refl
rank-names DO = refl
rank-names FOR = refl
rank-names FUNCTION = refl
rank-names GETLINE = refl
rank-names IN = refl
rank-names PRINTF = refl
rank-names RETURN = refl
rank-names LENGTH = refl
rank-names INDEX = refl
rank-names SUBSTR = refl
rank-names MATCH = refl
rank-names SUB = refl
rank-names GSUB = refl
rank-names other_function = refl
rank-names open_brace = refl
rank-names close_brace = refl
rank-names open_paren = refl
rank-names close_paren = refl
rank-names open_bracket = refl
rank-names close_bracket = refl
rank-names comma = refl
rank-names semicolon = refl
rank-names call_paren = refl
rank-names plus = refl
rank-names minus = refl
rank-names star = refl
rank-names slash = refl
rank-names percent = refl
rank-names caret = refl
rank-names bang = refl
rank-names greater = refl
rank-names less = refl
rank-names bar = refl
rank-names question = refl
rank-names colon = refl
rank-names tilde = refl
rank-names dollar = refl
rank-names assign = refl
rank-names or_or = refl
rank-names and_and = refl
rank-names no_match = refl
rank-names equal = refl
rank-names at-most = refl
rank-names at-least = refl
rank-names different = refl
rank-names add_assign = refl
rank-names sub_assign = refl
rank-names mul_assign = refl
rank-names div_assign = refl
rank-names mod_assign = refl
rank-names pow_assign = refl
rank-names increment = refl
rank-names decrement = refl
rank-names append = refl

-- a test that is true: the kinds are the same
pub same-is : (a b : Kind) → same a b ≡ true → a ≡ b
same-is a b h = some_one (rank-names a) (ap (nth kinds) (eqb-true (rank a) (rank b) h) ∙ rank-names b)

pub is_same : (a b : Kind) → a ≡ b → same a b ≡ true
is_same a b e = eq-eqb (rank a) (rank b) (ap rank e)
