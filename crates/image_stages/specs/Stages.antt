-- Internal: cited by private contracts only. Where a walk over an image's numbers and text bytes is, what comes there,
-- and where it goes by that.
use Rattle.std.specs.Prelude.{Bool, Option, Some, None, cond, List, [], ◌∷◌, ℕ, ◌+◌, ◌-◌, eqb}
use Rattle.lists.specs.Parsing.{Parser}
use Rattle.edition.specs.Limits.{number_bound}
use Rattle.image_format.specs.Codes.{code_of}
use Rattle.image_format.specs.Image.{known}
use Rattle.image_format.specs.Reading.{Source}
use Rattle.opcodes.specs.Rows.{is_known, operands_in}
use Rattle.image_stages.specs.declared.stages.State.{State}

-- ---- the stages

abbrev pub at_edition : ℕ
at_edition = 0

abbrev pub at_count : ℕ
at_count = 1

abbrev pub at_kind : ℕ
at_kind = 2

abbrev pub at_length : ℕ
at_length = 3

abbrev pub at_byte : ℕ
at_byte = 4

abbrev pub at_code : ℕ
at_code = 5

abbrev pub at_plain : ℕ
at_plain = 6

abbrev pub at_end : ℕ
at_end = 7

-- ---- where a walk goes

abbrev pub state : ℕ → ℕ → ℕ → ℕ → ℕ → State
state stage edition lists items units =
    record { stage = stage; edition = edition; lists = lists; items = items; units = units }

abbrev pub start : State
start = state at_edition 0 5 0 1

-- the first stage of an item
abbrev pub opening : ℕ → ℕ
opening lists = cond (eqb lists 4) at_kind (cond (eqb lists 3) at_length at_code)

-- the item has `units` units of a stage left
abbrev pub with_units : State → ℕ → ℕ → State
with_units s stage units = state stage s.edition s.lists s.items units

abbrev pub edition_told : State → ℕ → Option State
edition_told s v = cond (known v) (Some (state at_plain v s.lists s.items s.units)) None

abbrev pub kind_told : State → ℕ → Option State
kind_told s v = cond (eqb v 0) (Some (with_units s at_plain 1)) (cond (eqb v 1) (Some (with_units s at_length 1)) None)

-- a depth, and the operand where the code names one
abbrev pub code_told : State → ℕ → Option State
code_told s v = let o = code_of s.edition v in cond (is_known o) (Some (with_units s at_plain (1 + operands_in o))) None

-- what v says of the list and of the item
abbrev pub told : State → ℕ → Option State
told s v =
    cond (eqb s.stage at_edition) (edition_told s v)
    (cond (eqb s.stage at_count) (Some (state s.stage s.edition s.lists v 0))
    (cond (eqb s.stage at_kind) (kind_told s v)
    (cond (eqb s.stage at_length) (Some (with_units s at_byte v))
    (cond (eqb s.stage at_code) (code_told s v)
    (Some s)))))

-- to the next unit of the item, else to the next item of the list, else to the next list
abbrev pub advance : State → State
advance s =
    cond (eqb s.units 0)
    (cond (eqb s.items 0)
    (cond (eqb s.lists 0)
    (state at_end s.edition 0 0 0)
    (state at_count s.edition (s.lists - 1) 0 0))
    (state (opening s.lists) s.edition s.lists (s.items - 1) 0))
    (with_units s s.stage (s.units - 1))

abbrev pub moved : Option State → Option State
moved (Some t) = Some (advance t)
moved None = None

-- the state after v came
abbrev pub after : State → ℕ → Option State
after s v = moved (told s v)

-- ---- what comes

-- whether a text byte comes, and not a number
abbrev pub is_byte : ℕ → Bool
is_byte stage = eqb stage at_byte

-- the greatest number that comes at a stage, as a word
abbrev pub most_at : ℕ → ℕ
most_at stage = cond (is_byte stage) 255 number_bound

-- what is taken at a stage
abbrev pub taken_at : Source → ℕ → Parser ℕ
taken_at source stage l = cond (is_byte stage) (source.byte l) (source.number l)

-- how what is taken at a stage is written
abbrev pub written_at : (ℕ → List ℕ) → ℕ → ℕ → List ℕ
written_at write stage v = cond (is_byte stage) (v ∷ []) (write v)
