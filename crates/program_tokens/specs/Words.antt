-- Document 01, "Tokens and grammar": "Words, operators (the longest that fits) .. as in 004." The words and operators
-- of 004, each with its kind, as one table in two parts.
use Rattle.std.specs.Prelude.{Bool, true, false, cond, ◌&&◌, List, [], ◌∷◌, ℕ, eqb, leb}
use Prim.Native.Char.{code}
use Prim.Native.String.{String, [] as end-of-text, ◌∷◌ as ◌before◌}
use Rattle.program_tokens.specs.Kinds.{Kind, bad, user_name, variable, fixed_variable, other_variable, BEGIN, END, IF, ELSE, WHILE, PRINT, NEXT, EXIT, BREAK, CONTINUE, DELETE, DO, FOR, FUNCTION, GETLINE, IN, PRINTF, RETURN, LENGTH, INDEX, SUBSTR, MATCH, SUB, GSUB, other_function, open_brace, close_brace, open_paren, close_paren, open_bracket, close_bracket, comma, semicolon, plus, minus, star, slash, percent, caret, bang, greater, less, bar, question, colon, tilde, dollar, assign, or_or, and_and, no_match, equal, at-most, at-least, different, add_assign, sub_assign, mul_assign, div_assign, mod_assign, pow_assign, increment, decrement, append}

-- the bytes of a text
abbrev pub bytes : String → List ℕ
bytes end-of-text = []
bytes (c before t) = code c ∷ bytes t

-- a spelling, its kind, and the first edition that has it
pub record Word : Type 0 where
  pub spelling : List ℕ
  pub kind : Kind
  pub since : ℕ

-- a row for a word or an operator of 004, which every edition has
abbrev pub word : String → Kind → Word
word w k = record { spelling = bytes w; kind = k; since = 1 }

-- The words. "What isn't named is left out; such a POSIX keyword, operator, function or variable is 4": it has a kind
-- too, which no rule of the grammar has.
abbrev pub words : List Word
words =
    -- keywords of 01
    word "BEGIN" BEGIN ∷ word "END" END ∷ word "if" IF ∷ word "else" ELSE ∷ word "while" WHILE ∷ word "print" PRINT
    ∷ word "next" NEXT ∷ word "exit" EXIT
    -- keywords of 004 alone
    ∷ word "break" BREAK ∷ word "continue" CONTINUE ∷ word "delete" DELETE ∷ word "do" DO ∷ word "for" FOR
    ∷ word "function" FUNCTION ∷ word "getline" GETLINE ∷ word "in" IN ∷ word "printf" PRINTF ∷ word "return" RETURN
    -- "`length(s)`, `index(s,t)`, `substr(s,m,n)`, `match(s,ERE)`"
    ∷ word "length" LENGTH ∷ word "index" INDEX ∷ word "substr" SUBSTR ∷ word "match" MATCH
    -- functions of 004 alone
    ∷ word "sub" SUB ∷ word "gsub" GSUB ∷ word "atan2" other_function ∷ word "close" other_function
    ∷ word "cos" other_function ∷ word "exp" other_function ∷ word "int" other_function ∷ word "log" other_function
    ∷ word "rand" other_function ∷ word "sin" other_function ∷ word "split" other_function
    ∷ word "sprintf" other_function ∷ word "sqrt" other_function ∷ word "srand" other_function
    ∷ word "system" other_function ∷ word "tolower" other_function ∷ word "toupper" other_function
    -- "NF NR FS OFS ORS RSTART RLENGTH"; "NF, NR, RSTART, RLENGTH can't be assigned"
    ∷ word "FS" variable ∷ word "OFS" variable ∷ word "ORS" variable ∷ word "NF" fixed_variable
    ∷ word "NR" fixed_variable ∷ word "RSTART" fixed_variable ∷ word "RLENGTH" fixed_variable
    -- variables of 004 alone
    ∷ word "ARGC" other_variable ∷ word "ARGV" other_variable ∷ word "CONVFMT" other_variable
    ∷ word "ENVIRON" other_variable ∷ word "FILENAME" other_variable ∷ word "FNR" other_variable
    ∷ word "OFMT" other_variable ∷ word "RS" other_variable ∷ word "SUBSEP" other_variable ∷ []

-- the operators: those of two bytes, and those of one
abbrev pub operators : List Word
operators =
    word "||" or_or ∷ word "&&" and_and ∷ word "!~" no_match ∷ word "==" equal ∷ word "<=" at-most ∷ word ">=" at-least
    ∷ word "!=" different ∷ word "+=" add_assign ∷ word "-=" sub_assign ∷ word "*=" mul_assign ∷ word "/=" div_assign
    ∷ word "%=" mod_assign ∷ word "^=" pow_assign ∷ word "++" increment ∷ word "--" decrement ∷ word ">>" append
    ∷ word "{" open_brace ∷ word "}" close_brace ∷ word "(" open_paren ∷ word ")" close_paren ∷ word "[" open_bracket
    ∷ word "]" close_bracket ∷ word "," comma ∷ word ";" semicolon ∷ word "+" plus ∷ word "-" minus ∷ word "*" star
    ∷ word "/" slash ∷ word "%" percent ∷ word "^" caret ∷ word "!" bang ∷ word ">" greater ∷ word "<" less
    ∷ word "|" bar ∷ word "?" question ∷ word ":" colon ∷ word "~" tilde ∷ word "$" dollar ∷ word "=" assign ∷ []

-- whether two texts are equal
unfoldable pub same_bytes : List ℕ → List ℕ → Bool
same_bytes [] [] = true
same_bytes [] (c ∷ m) = false
same_bytes (b ∷ l) [] = false
same_bytes (b ∷ l) (c ∷ m) = eqb b c && same_bytes l m

-- the kind that a table gives a spelling in an edition, or another kind where the table has none
unfoldable pub kind_in : ℕ → Kind → List ℕ → List Word → Kind
kind_in edition other w [] = other
kind_in edition other w (x ∷ l) =
    let rest = kind_in edition other w l in
    cond (leb x.since edition && same_bytes w x.spelling) x.kind rest

-- the kind of a word: one that the edition does not have is a user's name
abbrev pub word_kind : ℕ → List ℕ → Kind
word_kind edition w = kind_in edition user_name w words

-- the kind of an operator: a spelling that the edition does not have is a bad token
abbrev pub operator_kind : ℕ → List ℕ → Kind
operator_kind edition w = kind_in edition bad w operators
