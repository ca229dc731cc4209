-- Document 01, "Tokens and grammar": "Words, operators (the longest that fits), NUMBER, STRING, ERE, comments and
-- blanks as in 004." The kinds of tokens: each keyword and operator of 004 has one, also where 01 leaves it out.
use Rattle.std.specs.Prelude.{Bool, false, ◌||◌, List, [], ◌∷◌, ℕ, eqb}

pub data Kind : Type 0 where
  -- the text's end; a newline, which "ends a statement"
  text_end newline : Kind
  -- "bad token" (3), "bad ERE or its sizes" (5)
  bad bad-ere : Kind
  -- "NUMBER, STRING, ERE"
  NUMBER STRING ERE : Kind
  -- names: a user's; FS, OFS, ORS; "NF, NR, RSTART, RLENGTH can't be assigned"; a variable of 004 that 01 leaves out
  user_name variable fixed_variable other_variable : Kind
  -- keywords of 004, first those of 01
  BEGIN END IF ELSE WHILE PRINT NEXT EXIT : Kind
  BREAK CONTINUE DELETE DO FOR FUNCTION GETLINE IN PRINTF RETURN : Kind
  -- functions of 004, first those of 01
  LENGTH INDEX SUBSTR MATCH : Kind
  SUB GSUB other_function : Kind
  -- operators of 004: `{ } ( ) [ ] , ;`; and "a `(` at once after a user name", which no rule of the grammar has
  open_brace close_brace open_paren close_paren open_bracket close_bracket comma semicolon call_paren : Kind
  -- `+ - * / % ^ ! > < | ? : ~ $ =`
  plus minus star slash percent caret bang greater less bar question colon tilde dollar assign : Kind
  -- `|| && !~ == <= >= !=`
  or_or and_and no_match equal at-most at-least different : Kind
  -- `+= -= *= /= %= ^= ++ -- >>`
  add_assign sub_assign mul_assign div_assign mod_assign pow_assign increment decrement append : Kind

-- the number of a kind; tests of kinds compare these
unfoldable pub rank : Kind → ℕ
rank text_end = 0
rank newline = 1
rank bad = 2
rank bad-ere = 3
rank NUMBER = 4
rank STRING = 5
rank ERE = 6
rank user_name = 7
rank variable = 8
rank fixed_variable = 9
rank other_variable = 10
rank BEGIN = 11
rank END = 12
rank IF = 13
rank ELSE = 14
rank WHILE = 15
rank PRINT = 16
rank NEXT = 17
rank EXIT = 18
rank BREAK = 19
rank CONTINUE = 20
rank DELETE = 21
rank DO = 22
rank FOR = 23
rank FUNCTION = 24
rank GETLINE = 25
rank IN = 26
rank PRINTF = 27
rank RETURN = 28
rank LENGTH = 29
rank INDEX = 30
rank SUBSTR = 31
rank MATCH = 32
rank SUB = 33
rank GSUB = 34
rank other_function = 35
rank open_brace = 36
rank close_brace = 37
rank open_paren = 38
rank close_paren = 39
rank open_bracket = 40
rank close_bracket = 41
rank comma = 42
rank semicolon = 43
rank call_paren = 44
rank plus = 45
rank minus = 46
rank star = 47
rank slash = 48
rank percent = 49
rank caret = 50
rank bang = 51
rank greater = 52
rank less = 53
rank bar = 54
rank question = 55
rank colon = 56
rank tilde = 57
rank dollar = 58
rank assign = 59
rank or_or = 60
rank and_and = 61
rank no_match = 62
rank equal = 63
rank at-most = 64
rank at-least = 65
rank different = 66
rank add_assign = 67
rank sub_assign = 68
rank mul_assign = 69
rank div_assign = 70
rank mod_assign = 71
rank pow_assign = 72
rank increment = 73
rank decrement = 74
rank append = 75

-- all kinds, by their numbers
abbrev pub kinds : List Kind
kinds =
    text_end ∷ newline ∷ bad ∷ bad-ere ∷ NUMBER ∷ STRING ∷ ERE ∷ user_name ∷ variable ∷ fixed_variable ∷ other_variable
    ∷ BEGIN ∷ END ∷ IF ∷ ELSE ∷ WHILE ∷ PRINT ∷ NEXT ∷ EXIT ∷ BREAK ∷ CONTINUE ∷ DELETE ∷ DO ∷ FOR ∷ FUNCTION ∷ GETLINE
    ∷ IN ∷ PRINTF ∷ RETURN ∷ LENGTH ∷ INDEX ∷ SUBSTR ∷ MATCH ∷ SUB ∷ GSUB ∷ other_function ∷ open_brace ∷ close_brace
    ∷ open_paren ∷ close_paren ∷ open_bracket ∷ close_bracket ∷ comma ∷ semicolon ∷ call_paren ∷ plus ∷ minus ∷ star
    ∷ slash ∷ percent ∷ caret ∷ bang ∷ greater ∷ less ∷ bar ∷ question ∷ colon ∷ tilde ∷ dollar ∷ assign ∷ or_or
    ∷ and_and ∷ no_match ∷ equal ∷ at-most ∷ at-least ∷ different ∷ add_assign ∷ sub_assign ∷ mul_assign ∷ div_assign
    ∷ mod_assign ∷ pow_assign ∷ increment ∷ decrement ∷ append ∷ []

-- whether two kinds are the same
abbrev pub same : Kind → Kind → Bool
same a b = eqb (rank a) (rank b)

-- whether a kind is one of a list's
unfoldable pub among : List Kind → Kind → Bool
among [] k = false
among (a ∷ l) k = same k a || among l k
