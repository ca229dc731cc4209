-- Document 01, "Tokens and grammar": which lists of kinds are programs, one constructor a rule of 01. This is what a
-- reader of the project has to believe; the reader of texts (program_reader) computes it. Levels and sizes are no part
-- of it.
use Rattle.std.specs.Prelude.{◌≡◌, Bool, true, false, List, [], ◌∷◌, ◌++◌, ℕ}
use Rattle.std.proofs.Math.Option.{some}
use Rattle.program_tokens.specs.Kinds.{Kind, text_end, newline, NUMBER, STRING, ERE, BEGIN, END, IF, ELSE, WHILE, PRINT, NEXT, EXIT, open_brace, close_brace, open_paren, close_paren, comma, semicolon, plus, minus, star, slash, percent, greater, tilde, dollar, assign, or_or, and_and, no_match, same, among}
use Rattle.program_tree.specs.Functions.{Shape, an_expression, an_ere, Function, function_of}
use Rattle.program_grammar.specs.Sets.{names, targets, prefixes, comparisons, enders}

-- a kind is one of some
pub data OneOf (kinds : List Kind) (k : Kind) : Type 0 where
  one : among kinds k ≡ true → OneOf kinds k

-- any number of newlines; of newlines and `;`
pub data Newlines : List Kind → Type 0 where
  none : Newlines []
  more : {l : List Kind} → Newlines l → Newlines (newline ∷ l)

pub data Separators : List Kind → Type 0 where
  none : Separators []
  more : {k : Kind} {l : List Kind} → OneOf enders k → Separators l → Separators (k ∷ l)

-- where an expression is: "In a print list `>` must be inside parentheses"
pub data Place : Type 0 where
  in_print elsewhere : Place

-- the operators that compare, in a place
pub data Compares : Place → Kind → Type 0 where
  any : {k : Kind} → OneOf comparisons k → Compares elsewhere k
  no_greater : {k : Kind} → OneOf comparisons k → same k greater ≡ false → Compares in_print k

-- what a list of kinds can be, from the loosest operator to a primary and its arguments
pub data Part : Type 0 where
  expression disjunction conjunction matching comparison : Place → Part
  concatenation sum product prefixed field primary : Part
  argument : Shape → Part
  arguments : List Shape → Part

-- whether a statement still needs "Newline or `;`" after it
pub data End : Type 0 where
  needs_end ended : End

-- whether an `else` after it would be its own: an `else` belongs to the nearest `if` before it that has none (004)
pub data Else : Type 0 where
  takes_else whole : Else

-- what comes before `else`: newlines "may stand before `else`, as may one `;`"; the end of the then-part is among
-- them
pub data BeforeElse : End → List Kind → Type 0 where
  newlines : {n : List Kind} → Newlines n → BeforeElse ended n
  ending_newline : {n : List Kind} → Newlines n → BeforeElse needs_end (newline ∷ n)
  one_semicolon : {e : End} {n m : List Kind} → Newlines n → Newlines m → BeforeElse e (n ++ (semicolon ∷ m))

module _ (edition : ℕ) where
  -- ---- "Operators from loosest"

  pub data Form : Part → List Kind → Type 0 where
    -- "`=` (right; left side exactly a name or a `$` form)"; "NF, NR, RSTART, RLENGTH can't be assigned"
    to_name : {p : Place} {k : Kind} {r : List Kind} → OneOf targets k → Form (expression p) r
        → Form (expression p) (k ∷ assign ∷ r)
    to_field : {p : Place} {l r : List Kind} → Form field l → Form (expression p) r
        → Form (expression p) (dollar ∷ (l ++ (assign ∷ r)))
    value : {p : Place} {l : List Kind} → Form (disjunction p) l → Form (expression p) l
    -- "`||`"; "newlines may follow `{ && || , else`"
    or : {p : Place} {l n r : List Kind} → Form (disjunction p) l → Newlines n → Form (conjunction p) r
        → Form (disjunction p) (l ++ (or_or ∷ (n ++ r)))
    no_or : {p : Place} {l : List Kind} → Form (conjunction p) l → Form (disjunction p) l
    -- "`&&`"; "newlines may follow `{ && || , else`"
    and : {p : Place} {l n r : List Kind} → Form (conjunction p) l → Newlines n → Form (matching p) r
        → Form (conjunction p) (l ++ (and_and ∷ (n ++ r)))
    no_and : {p : Place} {l : List Kind} → Form (matching p) l → Form (conjunction p) l
    -- "`~ !~` (no chaining; right side an ERE token)"
    match : {p : Place} {k : Kind} {l : List Kind} → Form (comparison p) l → OneOf (tilde ∷ no_match ∷ []) k
        → Form (matching p) (l ++ (k ∷ ERE ∷ []))
    no_ere : {p : Place} {l : List Kind} → Form (comparison p) l → Form (matching p) l
    -- "`< <= == != > >=` (no chaining)"
    compare : {p : Place} {k : Kind} {l r : List Kind} → Form concatenation l → Compares p k → Form concatenation r
        → Form (comparison p) (l ++ (k ∷ r))
    no_compare : {p : Place} {l : List Kind} → Form concatenation l → Form (comparison p) l
    -- "concatenation"; its "right operand never starts with `! + -` or an ERE"
    join : {k : Kind} {l r : List Kind} → Form concatenation l → Form sum (k ∷ r) → among (ERE ∷ prefixes) k ≡ false
        → Form concatenation (l ++ (k ∷ r))
    no_join : {l : List Kind} → Form sum l → Form concatenation l
    -- "`+ -`"
    add : {k : Kind} {l r : List Kind} → Form sum l → OneOf (plus ∷ minus ∷ []) k → Form product r
        → Form sum (l ++ (k ∷ r))
    no_add : {l : List Kind} → Form product l → Form sum l
    -- "`* / %`"
    multiply : {k : Kind} {l r : List Kind} → Form product l → OneOf (star ∷ slash ∷ percent ∷ []) k → Form prefixed r
        → Form product (l ++ (k ∷ r))
    no_multiply : {l : List Kind} → Form prefixed l → Form product l
    -- "prefix `! + -`"
    prefix : {k : Kind} {l : List Kind} → OneOf prefixes k → Form prefixed l → Form prefixed (k ∷ l)
    no_prefix : {l : List Kind} → Form field l → Form prefixed l
    -- "`$` before a primary or another `$`"
    of_field : {l : List Kind} → Form field l → Form field (dollar ∷ l)
    no_field : {l : List Kind} → Form primary l → Form field l
    -- "Primaries: NUMBER, STRING, ERE, name, parentheses"
    one_token : {k : Kind} → OneOf (NUMBER ∷ STRING ∷ ERE ∷ names) k → Form primary (k ∷ [])
    parentheses : {l : List Kind} → Form (expression elsewhere) l
        → Form primary (open_paren ∷ (l ++ (close_paren ∷ [])))
    -- "`length(s)`, `index(s,t)`, `substr(s,m,n)`, `match(s,ERE)`"
    call : {k : Kind} {f : Function} {l : List Kind} → function_of edition k ≡ some f → Form (arguments f.shapes) l
        → Form primary (k ∷ open_paren ∷ (l ++ (close_paren ∷ [])))
    last_argument : {x : Shape} {l : List Kind} → Form (argument x) l → Form (arguments (x ∷ [])) l
    -- "newlines may follow `{ && || , else`"
    next_argument : {x y : Shape} {xs : List Shape} {l n r : List Kind} → Form (argument x) l → Newlines n
        → Form (arguments (y ∷ xs)) r → Form (arguments (x ∷ y ∷ xs)) (l ++ (comma ∷ (n ++ r)))
    expression_argument : {l : List Kind} → Form (expression elsewhere) l → Form (argument an_expression) l
    ere_argument : Form (argument an_ere) (ERE ∷ [])

  -- an expression outside a print list, or in parentheses
  abbrev pub Expression : List Kind → Type 0
  Expression l = Form (expression elsewhere) l

  -- ---- "Statements"

  -- "`print` with an optional list": the list
  pub data PrintList : List Kind → Type 0 where
    last : {l : List Kind} → Form (expression in_print) l → PrintList l
    next : {l n r : List Kind} → Form (expression in_print) l → Newlines n → PrintList r
        → PrintList (l ++ (comma ∷ (n ++ r)))

  mutual
    -- a statement without its end; `next` "(not in BEGIN or END)"
    pub data Statement (in_main : Bool) : End → Else → List Kind → Type 0 where
      value : {l : List Kind} → Expression l → Statement in_main needs_end whole l
      print : Statement in_main needs_end whole (PRINT ∷ [])
      print-list : {l : List Kind} → PrintList l → Statement in_main needs_end whole (PRINT ∷ l)
      -- "newlines may follow .. `else` and the `)` of `if` and `while`"
      if : {e : End} {o : Else} {c n a : List Kind} → Expression c → Newlines n → Statement in_main e o a
          → Statement in_main e takes_else (IF ∷ open_paren ∷ (c ++ (close_paren ∷ (n ++ a))))
      if-else : {e f : End} {o : Else} {c n a b m d : List Kind} → Expression c → Newlines n
          → Statement in_main e whole a → BeforeElse e b → Newlines m → Statement in_main f o d
          → Statement in_main f o (IF ∷ open_paren ∷ (c ++ (close_paren ∷ (n ++ (a ++ (b ++ (ELSE ∷ (m ++ d))))))))
      while : {e : End} {o : Else} {c n a : List Kind} → Expression c → Newlines n → Statement in_main e o a
          → Statement in_main e o (WHILE ∷ open_paren ∷ (c ++ (close_paren ∷ (n ++ a))))
      block : {l : List Kind} → Block in_main l → Statement in_main ended whole l
      next : in_main ≡ true → Statement in_main needs_end whole (NEXT ∷ [])
      exit : Statement in_main needs_end whole (EXIT ∷ [])
      -- "empty (a lone `;`)"
      empty : Statement in_main ended whole (semicolon ∷ [])

    -- "block": statements in braces
    pub data Block (in_main : Bool) : List Kind → Type 0 where
      braces : {l : List Kind} → Statements in_main l → Block in_main (open_brace ∷ (l ++ (close_brace ∷ [])))

    -- "Newline or `;` ends a statement"; "newlines may follow `{`"; the last statement before a `}` needs no end
    pub data Statements (in_main : Bool) : List Kind → Type 0 where
      none : Statements in_main []
      blank_line : {l : List Kind} → Statements in_main l → Statements in_main (newline ∷ l)
      after_ended : {o : Else} {a l : List Kind} → Statement in_main ended o a → Statements in_main l
          → Statements in_main (a ++ l)
      after_end : {o : Else} {k : Kind} {a l : List Kind} → Statement in_main needs_end o a → OneOf enders k
          → Statements in_main l → Statements in_main (a ++ (k ∷ l))
      last : {o : Else} {a : List Kind} → Statement in_main needs_end o a → Statements in_main a

  -- ---- "Items"

  -- an item that a `}` ends
  pub data Item : List Kind → Type 0 where
    begin : {a : List Kind} → Block false a → Item (BEGIN ∷ a)
    end : {a : List Kind} → Block false a → Item (END ∷ a)
    pattern : {e a : List Kind} → Expression e → Block true a → Item (e ++ a)
    always : {a : List Kind} → Block true a → Item a

  -- "Nothing need follow a `}`; newlines and `;` may follow any item"; "`pattern` (.. ends at newline, `;` or text
  -- end)"
  pub data Items : List Kind → Type 0 where
    none : Items []
    item : {i n l : List Kind} → Item i → Separators n → Items l → Items (i ++ (n ++ l))
    pattern : {k : Kind} {e n l : List Kind} → Expression e → OneOf enders k → Separators n → Items l
        → Items (e ++ (k ∷ (n ++ l)))
    last_pattern : {e : List Kind} → Expression e → Items e

  -- "only newlines may open the text. No items is a program."
  pub data Sentence : List Kind → Type 0 where
    program : {n l : List Kind} → Newlines n → Items l → Sentence (n ++ (l ++ (text_end ∷ [])))
