-- The instructions of a program that was read: each operation has the operand that its code names.
use mathlib.Core.Path.{◌≡◌, refl, ap, subst}
use mathlib.Core.Bool.{Bool, true, false}
use mathlib.Core.List.{List, []}
use Prim.Native.Nat.{ℕ}
use native.Mathlib.Omega.{arith}
use lib.ListN.{length}
use Rattle.image_format.specs.Codes.{Operation, Action, constant, get, set, field, set-field, drop, arithmetic, negate, to_number, negation, compare, join, matches, match, length-of, index, substr, print, add, subtract, multiply, divide, remainder, less, at-most, equal, different, greater, at-least, section_end, action, flow}
use Rattle.semantics.specs.Moves.{Section}
use Rattle.semantics.proofs.Tables.{row_of}
use Rattle.program_tokens.specs.Words.{same_bytes}
use Rattle.program_tokens.specs.Tokens.{Token}
use Rattle.program_tree.specs.Tree.{Program}
use Rattle.program_reader.specs.Read.{Read, ok}
use Rattle.program_reader.specs.Programs.{read_program}
use Rattle.program_reader.proofs.Fine.{Good}
use Rattle.program_reader.proofs.Tokens.{IsName, read-fine, Spelled, Said}
use Rattle.program_code.specs.Emitted.{Operand, nothing, the_constant, the_variable, the_ere, the_instruction, the_count, Emitted, emit, opcode, action_code, flow_code, arithmetic_code, comparison_code}
use Rattle.program_code.specs.Sections.{compile_statement, parts_of, section_code}
use Rattle.program_numbering.specs.Names.{has}
use Rattle.program_numbering.proofs.Numbers.{Each, each-join, each_map}
use Rattle.program_entries.specs.Named.{is_named}
use Rattle.program_image.specs.Written.{has_operand}
use Rattle.translation.proofs.Sound.{emitted, Sound, plain, constant-sound, get-sound, set-sound, matches-sound, match-sound, jump-sound, branch-sound, print-sound, next-sound, exit-sound, is_main, FineP, sound-parts}
use Rattle.translation.proofs.Tables.{variables, Listed, names-listed}

-- ---- what an operand is

abbrev pub is_constant : Operand → Bool
is_constant nothing = false
is_constant (the_constant c) = true
is_constant (the_variable v) = false
is_constant (the_ere r) = false
is_constant (the_instruction n) = false
is_constant (the_count n) = false

abbrev pub is_variable : Operand → Bool
is_variable nothing = false
is_variable (the_constant c) = false
is_variable (the_variable v) = true
is_variable (the_ere r) = false
is_variable (the_instruction n) = false
is_variable (the_count n) = false

abbrev pub is_ere : Operand → Bool
is_ere nothing = false
is_ere (the_constant c) = false
is_ere (the_variable v) = false
is_ere (the_ere r) = true
is_ere (the_instruction n) = false
is_ere (the_count n) = false

abbrev pub is_some : Operand → Bool
is_some nothing = false
is_some (the_constant c) = true
is_some (the_variable v) = true
is_some (the_ere r) = true
is_some (the_instruction n) = true
is_some (the_count n) = true

-- a variable is one of a list
abbrev pub ListedIn : List (List ℕ) → Operand → Type 0
ListedIn l nothing = Unit
ListedIn l (the_constant c) = Unit
ListedIn l (the_variable v) = has same_bytes l v ≡ true
ListedIn l (the_ere r) = Unit
ListedIn l (the_instruction n) = Unit
ListedIn l (the_count n) = Unit

-- an instruction's code and its operand agree
pub record Agrees (l : List (List ℕ)) (i : Emitted) : Type 0 where
  pub constants : is_named 0 (opcode i.operation) ≡ is_constant i.operand
  pub variables : is_named 1 (opcode i.operation) ≡ is_variable i.operand
  pub eres : is_named 2 (opcode i.operation) ≡ is_ere i.operand
  pub operand : has_operand (opcode i.operation) ≡ is_some i.operand
  pub listed : ListedIn l i.operand

-- ---- each instruction of a fine tree

module _ (l : List (List ℕ)) where
  none_named : (o : Operation) (d : ℕ) → is_named 0 (opcode o) ≡ false → is_named 1 (opcode o) ≡ false
      → is_named 2 (opcode o) ≡ false → has_operand (opcode o) ≡ false → Agrees l (emitted o d nothing)
  none_named o d e f g h = record { constants = e; variables = f; eres = g; operand = h; listed = tt }

  plain-agrees : (a : Action) (d : ℕ) → (row_of (action a)).immediates ≡ [] → Agrees l (emitted (action a) d nothing)
  unfolding is_named opcode action_code arithmetic_code comparison_code has_operand
  plain-agrees field d h = none_named (action field) d refl refl refl refl
  plain-agrees set-field d h = none_named (action set-field) d refl refl refl refl
  plain-agrees drop d h = none_named (action drop) d refl refl refl refl
  plain-agrees (arithmetic add) d h = none_named (action (arithmetic add)) d refl refl refl refl
  plain-agrees (arithmetic subtract) d h = none_named (action (arithmetic subtract)) d refl refl refl refl
  plain-agrees (arithmetic multiply) d h = none_named (action (arithmetic multiply)) d refl refl refl refl
  plain-agrees (arithmetic divide) d h = none_named (action (arithmetic divide)) d refl refl refl refl
  plain-agrees (arithmetic remainder) d h = none_named (action (arithmetic remainder)) d refl refl refl refl
  plain-agrees negate d h = none_named (action negate) d refl refl refl refl
  plain-agrees to_number d h = none_named (action to_number) d refl refl refl refl
  plain-agrees negation d h = none_named (action negation) d refl refl refl refl
  plain-agrees (compare less) d h = none_named (action (compare less)) d refl refl refl refl
  plain-agrees (compare at-most) d h = none_named (action (compare at-most)) d refl refl refl refl
  plain-agrees (compare equal) d h = none_named (action (compare equal)) d refl refl refl refl
  plain-agrees (compare different) d h = none_named (action (compare different)) d refl refl refl refl
  plain-agrees (compare greater) d h = none_named (action (compare greater)) d refl refl refl refl
  plain-agrees (compare at-least) d h = none_named (action (compare at-least)) d refl refl refl refl
  plain-agrees join d h = none_named (action join) d refl refl refl refl
  plain-agrees length-of d h = none_named (action length-of) d refl refl refl refl
  plain-agrees index d h = none_named (action index) d refl refl refl refl
  plain-agrees substr d h = none_named (action substr) d refl refl refl refl
  plain-agrees constant d h =
      let none = ap length h in
      absurd (omega (arith, none))
  plain-agrees get d h =
      let none = ap length h in
      absurd (omega (arith, none))
  plain-agrees set d h =
      let none = ap length h in
      absurd (omega (arith, none))
  plain-agrees matches d h =
      let none = ap length h in
      absurd (omega (arith, none))
  plain-agrees match d h =
      let none = ap length h in
      absurd (omega (arith, none))
  plain-agrees print d h =
      let none = ap length h in
      absurd (omega (arith, none))

module _ (edition : ℕ) (s : List ℕ) (p : Program) where
  sound-agrees : (in_main : Bool) (i : Emitted) → Sound edition s (Listed edition s p) in_main i
      → Agrees (variables edition s p) i
  unfolding is_named opcode action_code flow_code has_operand
  sound-agrees in_main i (plain a d e g) = plain-agrees (variables edition s p) a d e
  sound-agrees in_main i (constant-sound c d g) =
      record { constants = refl; variables = refl; eres = refl; operand = refl; listed = tt }
  sound-agrees in_main i (get-sound v d n q) =
      record { constants = refl; variables = refl; eres = refl; operand = refl; listed = q n }
  sound-agrees in_main i (set-sound v d n q f) =
      record { constants = refl; variables = refl; eres = refl; operand = refl; listed = q n }
  sound-agrees in_main i (matches-sound r d f) =
      record { constants = refl; variables = refl; eres = refl; operand = refl; listed = tt }
  sound-agrees in_main i (match-sound r d f) =
      record { constants = refl; variables = refl; eres = refl; operand = refl; listed = tt }
  sound-agrees in_main i (jump-sound m d) =
      record { constants = refl; variables = refl; eres = refl; operand = refl; listed = tt }
  sound-agrees in_main i (branch-sound m d) =
      record { constants = refl; variables = refl; eres = refl; operand = refl; listed = tt }
  sound-agrees in_main i (print-sound m d h) =
      record { constants = refl; variables = refl; eres = refl; operand = refl; listed = tt }
  sound-agrees in_main i (next-sound h) =
      record { constants = refl; variables = refl; eres = refl; operand = refl; listed = tt }
  sound-agrees in_main i exit-sound =
      record { constants = refl; variables = refl; eres = refl; operand = refl; listed = tt }

  end-agrees : Agrees (variables edition s p) (emitted (flow section_end) 0 nothing)
  unfolding is_named opcode flow_code has_operand
  end-agrees = record { constants = refl; variables = refl; eres = refl; operand = refl; listed = tt }

  -- all instructions of a section
  pub section-agrees : (t : Token) → read_program edition s ≡ ok p t → (z : Section)
      → Each (Agrees (variables edition s p)) (section_code z p)
  unfolding section_code
  section-agrees t e z =
      let fine : FineP edition s (Listed edition s p) p =
      (subst (λ (r : Read Program). Good edition s (Spelled edition s) (IsName edition s) (Said edition s)
      (FineP edition s (Listed edition s p)) r) e (read-fine edition s)).0 in
      let body : List Emitted = compile_statement (parts_of z p) 0 in
      let in_main : Bool = is_main edition s (Listed edition s p) z in
      let sounds = sound-parts edition s (Listed edition s p) z p fine (names-listed edition s p) in
      each-join (Agrees (variables edition s p)) body (emit (flow section_end) 0 nothing)
      (each_map (Sound edition s (Listed edition s p) in_main) (Agrees (variables edition s p)) body
      (sound-agrees in_main) sounds)
      (end-agrees, tt)
