-- Document 01, "The image": "Codes (taken to left)". Everything that speaks of codes goes by this table.
use Rattle.std.specs.Prelude.{List, [], ◌∷◌, ℕ, zero, suc, take, get_or}
use Rattle.std.proofs.Math.Option.{Option, some, none}
use Rattle.lists.specs.Elements.{nth}

-- what a number of an instruction names: the kind carries the rule that the number keeps
pub data ImmediateKind : Type 0 where
  a-constant a_variable an_assignable_variable an_ere an-instruction a_positive_count : ImmediateKind

pub data Arithmetic : Type 0 where
  add subtract multiply divide remainder : Arithmetic

pub data Comparison : Type 0 where
  less at-most equal different greater at-least : Comparison

-- what goes on with values
pub data Action : Type 0 where
  constant get set field set-field drop : Action
  arithmetic : Arithmetic → Action
  negate to_number negation : Action
  compare : Comparison → Action
  join matches match length-of index substr print : Action

-- what leads elsewhere than to the next instruction
pub data Flow : Type 0 where
  section_end jump jump-if-false next exit : Flow

pub data Operation : Type 0 where
  action : Action → Operation
  flow : Flow → Operation

-- what a code does, how many operands it takes and leaves, given the numbers that it names, and what these name
pub record Code : Type 0 where
  pub operation : Operation
  pub pops : List ℕ → ℕ
  pub pushes : List ℕ → ℕ
  pub immediates : List ImmediateKind

-- "(taken-left)": numbers, whatever it names
abbrev pub code : Operation → ℕ → ℕ → List ImmediateKind → Code
code o a b kinds = record { operation = o; pops = λ ns. a; pushes = λ ns. b; immediates = kinds }

-- "29 print n (n-0)"
abbrev pub printing : Code
printing =
    record { operation = action print; pops = λ ns. get_or ns 0 0; pushes = λ ns. 0; immediates = a_positive_count ∷ [] }

-- all codes that there are, from 0 on
unfoldable pub codes : List Code
codes =
    code (flow section_end) 0 0 []
    ∷ code (action constant) 0 1 (a-constant ∷ [])
    ∷ code (action get) 0 1 (a_variable ∷ [])
    ∷ code (action set) 1 1 (an_assignable_variable ∷ [])
    ∷ code (action field) 1 1 []
    ∷ code (action set-field) 2 1 []
    ∷ code (action drop) 1 0 []
    ∷ code (action (arithmetic add)) 2 1 []
    ∷ code (action (arithmetic subtract)) 2 1 []
    ∷ code (action (arithmetic multiply)) 2 1 []
    ∷ code (action (arithmetic divide)) 2 1 []
    ∷ code (action (arithmetic remainder)) 2 1 []
    ∷ code (action negate) 1 1 []
    ∷ code (action to_number) 1 1 []
    ∷ code (action negation) 1 1 []
    ∷ code (action (compare less)) 2 1 []
    ∷ code (action (compare at-most)) 2 1 []
    ∷ code (action (compare equal)) 2 1 []
    ∷ code (action (compare different)) 2 1 []
    ∷ code (action (compare greater)) 2 1 []
    ∷ code (action (compare at-least)) 2 1 []
    ∷ code (action join) 2 1 []
    ∷ code (action matches) 1 1 (an_ere ∷ [])
    ∷ code (action match) 1 1 (an_ere ∷ [])
    ∷ code (action length-of) 1 1 []
    ∷ code (action index) 2 1 []
    ∷ code (action substr) 3 1 []
    ∷ code (flow jump) 0 0 (an-instruction ∷ [])
    ∷ code (flow jump-if-false) 1 0 (an-instruction ∷ [])
    ∷ printing
    ∷ code (flow next) 0 0 []
    ∷ code (flow exit) 0 0 []
    ∷ []

-- how many of them an edition has
unfoldable pub code_count : ℕ → ℕ
code_count edition = 32

abbrev pub codes_of : ℕ → List Code
codes_of edition = take (code_count edition) codes

-- "an unknown .. code" has none
unfoldable pub code_of : ℕ → ℕ → Option Code
code_of edition n = nth (codes_of edition) n
