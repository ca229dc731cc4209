-- Document 01, "The image": "Variables 0 to 6: NF NR FS OFS ORS RSTART RLENGTH; users from 7"; and "Values": "FS, OFS
-- start as space, ORS newline, RSTART 0, RLENGTH -1."
use Rattle.std.specs.Prelude.{Bool, true, false, List, [], ◌∷◌, ℕ, take, pos, negsuc}
use Rattle.std.proofs.Math.Option.{Option, some, none}
use Rattle.lists.specs.Elements.{nth}
use Rattle.values.specs.Value.{Value, unset, number, text}

-- what a variable's value is: the number of fields, the number of records begun, or what was last set, with its first
-- value
pub data Source : Type 0 where
  field-count record_count : Source
  stored : Value → Source

pub record Variable : Type 0 where
  pub source : Source
  pub assignable : Bool

abbrev pub variable : Source → Bool → Variable
variable s b = record { source = s; assignable = b }

-- all special variables that there are, from 0 on; "no set of 0, 1, 5, 6"
unfoldable pub specials : List Variable
specials =
    variable field-count false
    ∷ variable record_count false
    ∷ variable (stored (text (32 ∷ []))) true
    ∷ variable (stored (text (32 ∷ []))) true
    ∷ variable (stored (text (10 ∷ []))) true
    ∷ variable (stored (number (pos 0))) false
    ∷ variable (stored (number (negsuc 0))) false
    ∷ []

-- how many of them an edition has
unfoldable pub special_count : ℕ → ℕ
special_count edition = 7

abbrev pub specials_of : ℕ → List Variable
specials_of edition = take (special_count edition) specials

-- "users from 7": from there on a number has none
unfoldable pub special_of : ℕ → ℕ → Option Variable
special_of edition v = nth (specials_of edition) v

-- the numbers of those that the rules name
abbrev pub FS : ℕ
FS = 2

abbrev pub OFS : ℕ
OFS = 3

abbrev pub ORS : ℕ
ORS = 4

abbrev pub RSTART : ℕ
RSTART = 5

abbrev pub RLENGTH : ℕ
RLENGTH = 6

-- "(users unset)": users' variables can be assigned
abbrev pub may_assign : Option Variable → Bool
may_assign none = true
may_assign (some v) = v.assignable

unfoldable pub assignable : ℕ → ℕ → Bool
assignable edition v = may_assign (special_of edition v)

-- a stored variable's first value; the others have none of their own
abbrev pub first_value : Variable → Value
first_value v = of v.source
  where
    of : Source → Value
    of field-count = unset
    of record_count = unset
    of (stored a) = a
