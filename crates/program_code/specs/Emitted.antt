-- Document 01, "The image": instructions before names, constants and EREs have numbers.
use Rattle.std.specs.Prelude.{List, [], ◌∷◌, ℕ}
use Rattle.image_format.specs.Codes.{Arithmetic, add, subtract, multiply, divide, remainder, Comparison, less, at-most, equal, different, greater, at-least, Action, constant, get, set, field, set-field, drop, arithmetic, negate, to_number, negation, compare, join, matches, match, length-of, index, substr, print, Flow, section_end, jump, jump-if-false, next, exit, Operation, action, flow}
use Rattle.image_format.specs.Image.{Constant}

-- "the operand where one is named"
pub data Operand : Type 0 where
  nothing : Operand
  the_constant : Constant → Operand
  the_variable the_ere : List ℕ → Operand
  the_instruction the_count : ℕ → Operand

-- "code, depth before it, and the operand"
pub record Emitted : Type 0 where
  pub operation : Operation
  pub depth : ℕ
  pub operand : Operand

abbrev pub emit : Operation → ℕ → Operand → List Emitted
emit o d x = record { operation = o; depth = d; operand = x } ∷ []

-- an action that names nothing
abbrev pub act : Action → ℕ → List Emitted
act a d = emit (action a) d nothing

-- ---- the codes of the table `codes`

unfoldable pub arithmetic_code : Arithmetic → ℕ
arithmetic_code add = 7
arithmetic_code subtract = 8
arithmetic_code multiply = 9
arithmetic_code divide = 10
arithmetic_code remainder = 11

unfoldable pub comparison_code : Comparison → ℕ
comparison_code less = 15
comparison_code at-most = 16
comparison_code equal = 17
comparison_code different = 18
comparison_code greater = 19
comparison_code at-least = 20

unfoldable pub action_code : Action → ℕ
action_code constant = 1
action_code get = 2
action_code set = 3
action_code field = 4
action_code set-field = 5
action_code drop = 6
action_code (arithmetic o) = arithmetic_code o
action_code negate = 12
action_code to_number = 13
action_code negation = 14
action_code (compare o) = comparison_code o
action_code join = 21
action_code matches = 22
action_code match = 23
action_code length-of = 24
action_code index = 25
action_code substr = 26
action_code print = 29

unfoldable pub flow_code : Flow → ℕ
flow_code section_end = 0
flow_code jump = 27
flow_code jump-if-false = 28
flow_code next = 30
flow_code exit = 31

-- the code of an operation; proofs/Opcodes.antt shows that the table `codes` has the operation at it
unfoldable pub opcode : Operation → ℕ
opcode (action a) = action_code a
opcode (flow f) = flow_code f
