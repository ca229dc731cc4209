-- A little assembler: a section is written as its instructions without the last 0; depths are counted along the way.
use Rattle.std.specs.Prelude.{List, [], ◌∷◌, ℕ, ◌+◌, ◌-◌}
use Prim.Native.String.{String}
use Rattle.image_format.specs.Image.{Constant, number, text, Instruction, Image}
use Rattle.sound_cases.specs.Text.{bytes}

-- an instruction but for its depth: its code, how many operands it takes and leaves, and the operand that it names
pub record Step : Type 0 where
  pub code : ℕ
  pub taken : ℕ
  pub left : ℕ
  pub operand : List ℕ

abbrev pub step : ℕ → ℕ → ℕ → List ℕ → Step
step code taken left operand = record { code = code; taken = taken; left = left; operand = operand }

-- ---- document 01, "Codes (taken to left)"

abbrev pub constant : ℕ → Step
constant n = step 1 0 1 (n ∷ [])

abbrev pub get : ℕ → Step
get v = step 2 0 1 (v ∷ [])

abbrev pub set : ℕ → Step
set v = step 3 1 1 (v ∷ [])

abbrev pub field : Step
field = step 4 1 1 []

abbrev pub set-field : Step
set-field = step 5 2 1 []

abbrev pub drop : Step
drop = step 6 1 0 []

-- "7 to 11 `+ - * / %` (2-1)"
abbrev pub plus : Step
plus = step 7 2 1 []

abbrev pub minus : Step
minus = step 8 2 1 []

abbrev pub times : Step
times = step 9 2 1 []

abbrev pub divide : Step
divide = step 10 2 1 []

abbrev pub remainder : Step
remainder = step 11 2 1 []

abbrev pub negate : Step
negate = step 12 1 1 []

abbrev pub to_number : Step
to_number = step 13 1 1 []

abbrev pub not : Step
not = step 14 1 1 []

-- "15 to 20 `< <= == != > >=` (2-1)"
abbrev pub less : Step
less = step 15 2 1 []

abbrev pub at-most : Step
at-most = step 16 2 1 []

abbrev pub equal : Step
equal = step 17 2 1 []

abbrev pub different : Step
different = step 18 2 1 []

abbrev pub greater : Step
greater = step 19 2 1 []

abbrev pub at-least : Step
at-least = step 20 2 1 []

abbrev pub join : Step
join = step 21 2 1 []

abbrev pub matches : ℕ → Step
matches r = step 22 1 1 (r ∷ [])

abbrev pub match : ℕ → Step
match r = step 23 1 1 (r ∷ [])

abbrev pub length : Step
length = step 24 1 1 []

abbrev pub index : Step
index = step 25 2 1 []

abbrev pub substr : Step
substr = step 26 3 1 []

abbrev pub jump : ℕ → Step
jump t = step 27 0 0 (t ∷ [])

abbrev pub jump-if-false : ℕ → Step
jump-if-false t = step 28 1 0 (t ∷ [])

abbrev pub print : ℕ → Step
print n = step 29 n 0 (n ∷ [])

abbrev pub next : Step
next = step 30 0 0 []

abbrev pub exit : Step
exit = step 31 0 0 []

-- ---- "Variables 0 to 6: NF NR FS OFS ORS RSTART RLENGTH; users from 7"

abbrev pub NF : ℕ
NF = 0

abbrev pub NR : ℕ
NR = 1

abbrev pub FS : ℕ
FS = 2

abbrev pub OFS : ℕ
OFS = 3

abbrev pub ORS : ℕ
ORS = 4

abbrev pub RSTART : ℕ
RSTART = 5

abbrev pub RLENGTH : ℕ
RLENGTH = 6

-- ---- sections and images

-- "code, depth before it, and the operand where one is named"; "Each section ends in 0."
abbrev pub assembled : ℕ → List Step → List Instruction
assembled depth [] = record { code = 0; depth = depth; immediates = [] } ∷ []
assembled depth (s ∷ l) =
    record { code = s.code; depth = depth; immediates = s.operand } ∷ assembled (depth + s.left - s.taken) l

-- constants: a number, a text
abbrev pub whole : ℕ → Constant
whole = number

abbrev pub quoted : String → Constant
quoted s = text (bytes s)

-- an image of edition 1: user variables; constants; EREs; BEGIN, record and END sections
abbrev pub image : ℕ → List Constant → List (List ℕ) → List Step → List Step → List Step → Image
image users constants eres begin main end =
    record {
      edition = 1;
      users = users;
      constants = constants;
      eres = eres;
      begin = assembled 0 begin;
      main = assembled 0 main;
      end = assembled 0 end;
    }
