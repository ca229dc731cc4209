-- Document 01, "Tokens and grammar": programs as trees. Names, constants and EREs are bytes, operators are data; the
-- parts are in the order of the text.
use Rattle.std.specs.Prelude.{List, ℕ}
use Rattle.std.proofs.Math.Option.{Option}
use Rattle.image_format.specs.Codes.{Arithmetic, Comparison}
use Rattle.image_format.specs.Image.{Constant}

-- "prefix `! + -`"
pub data Prefix : Type 0 where
  negation to_number negate : Prefix

pub data Expression : Type 0 where
  -- "Primaries: NUMBER, STRING, ERE, name, parentheses"
  constant : Constant → Expression
  ere variable : List ℕ → Expression
  parentheses : Expression → Expression
  -- "`length(s)`, `index(s,t)`, `substr(s,m,n)`, `match(s,ERE)`"
  length-of : Expression → Expression
  index : Expression → Expression → Expression
  substr : Expression → Expression → Expression → Expression
  match : Expression → List ℕ → Expression
  -- "`$` before a primary or another `$`"
  field : Expression → Expression
  prefix : Prefix → Expression → Expression
  -- "`* / %`", "`+ -`"
  arithmetic : Arithmetic → Expression → Expression → Expression
  -- "concatenation"
  join : Expression → Expression → Expression
  -- "`< <= == != > >=`"
  compare : Comparison → Expression → Expression → Expression
  -- "`~ !~`": "right side an ERE token"
  matches no_match : Expression → List ℕ → Expression
  -- "`&&`", "`||`"
  both either : Expression → Expression → Expression
  -- "`=`": "left side exactly a name or a `$` form"
  assign : List ℕ → Expression → Expression
  assign_field : Expression → Expression → Expression

-- "Statements: expression, `print` with an optional list, `if`/`else`, `while`, block, `next` .., `exit`, empty". The
-- statements of a block are a sequence that ends in `empty`.
pub data Statement : Type 0 where
  expression : Expression → Statement
  print : List Expression → Statement
  if : Expression → Statement → Statement
  if-else : Expression → Statement → Statement → Statement
  while : Expression → Statement → Statement
  block : Statement → Statement
  next exit empty : Statement
  sequence : Statement → Statement → Statement

-- "Items: `BEGIN {..}`, `END {..}`, `pattern {..}`, `pattern` (then `{ print }`..), `{..}`"
pub data Item : Type 0 where
  begin end : Statement → Item
  main : Option Expression → Statement → Item

abbrev pub Program : Type 0
Program = List Item
