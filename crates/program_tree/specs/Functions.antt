-- Document 01, "Tokens and grammar": "`length(s)`, `index(s,t)`, `substr(s,m,n)`, `match(s,ERE)`", as a table.
use Rattle.std.specs.Prelude.{cond, ◌&&◌, List, [], ◌∷◌, ℕ, leb}
use Rattle.std.proofs.Math.Option.{Option, some, none}
use Rattle.program_tokens.specs.Kinds.{Kind, LENGTH, INDEX, SUBSTR, MATCH, same}
use Rattle.program_tree.specs.Tree.{Expression, length-of, index, substr, match}

-- what an argument can be
pub data Shape : Type 0 where
  an_expression an_ere : Shape

-- a function from such arguments to the tree of the call
abbrev pub Call : List Shape → Type 0
Call [] = Expression
Call (an_expression ∷ l) = Expression → Call l
Call (an_ere ∷ l) = List ℕ → Call l

-- a function: its word, its arguments, its tree, and the first edition that has it
pub record Function : Type 0 where
  pub kind : Kind
  pub shapes : List Shape
  pub tree : Call shapes
  pub since : ℕ

abbrev pub functions : List Function
functions =
    record { kind = LENGTH; shapes = an_expression ∷ []; tree = length-of; since = 1 }
    ∷ record { kind = INDEX; shapes = an_expression ∷ an_expression ∷ []; tree = index; since = 1 }
    ∷ record { kind = SUBSTR; shapes = an_expression ∷ an_expression ∷ an_expression ∷ []; tree = substr; since = 1 }
    ∷ record { kind = MATCH; shapes = an_expression ∷ an_ere ∷ []; tree = match; since = 1 }
    ∷ []

unfoldable pub function_in : ℕ → Kind → List Function → Option Function
function_in edition k [] = none
function_in edition k (f ∷ l) =
    let rest = function_in edition k l in
    cond (leb f.since edition && same k f.kind) (some f) rest

-- the function that a word calls in an edition
abbrev pub function_of : ℕ → Kind → Option Function
function_of edition k = function_in edition k functions
