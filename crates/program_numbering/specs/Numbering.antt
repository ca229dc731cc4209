-- Document 01, "The image": "Variables 0 to 6: NF NR FS OFS ORS RSTART RLENGTH; users from 7 by first appearance in the
-- text. Constants and EREs are numbered from 0 by first use in the image; equal ones are shared."
use Rattle.std.specs.Prelude.{Bool, false, List, [], ◌∷◌, ◌++◌, ℕ, length, eqb}
use Rattle.image_format.specs.Image.{Constant, number, text, Instruction, Image}
use Rattle.semantics.specs.Moves.{begin, main, end}
use Rattle.program_tokens.specs.Words.{bytes, same_bytes}
use Rattle.program_tree.specs.Tree.{Program}
use Rattle.program_code.specs.Emitted.{Operand, nothing, the_constant, the_variable, the_ere, the_instruction, the_count, Emitted, opcode}
use Rattle.program_code.specs.Sections.{section_code}
use Rattle.program_numbering.specs.Names.{with_new, number_of, users_of}

-- "NF NR FS OFS ORS RSTART RLENGTH"
abbrev pub special_names : List (List ℕ)
special_names = bytes "NF" ∷ bytes "NR" ∷ bytes "FS" ∷ bytes "OFS" ∷ bytes "ORS" ∷ bytes "RSTART" ∷ bytes "RLENGTH" ∷ []

-- "equal ones are shared": constants are equal by kind and value, EREs by their bytes
unfoldable pub same_constant : Constant → Constant → Bool
same_constant (number a) (number b) = eqb a b
same_constant (number a) (text l) = false
same_constant (text l) (number b) = false
same_constant (text l) (text m) = same_bytes l m

-- ---- the constants and EREs that instructions name

abbrev pub constant_in : Operand → List Constant
constant_in nothing = []
constant_in (the_constant c) = c ∷ []
constant_in (the_variable v) = []
constant_in (the_ere r) = []
constant_in (the_instruction n) = []
constant_in (the_count n) = []

abbrev pub ere_in : Operand → List (List ℕ)
ere_in nothing = []
ere_in (the_constant c) = []
ere_in (the_variable v) = []
ere_in (the_ere r) = r ∷ []
ere_in (the_instruction n) = []
ere_in (the_count n) = []

unfoldable pub operands_by : {A : Type 0} → (Operand → List A) → List Emitted → List A
operands_by f [] = []
operands_by f (i ∷ l) = f i.operand ++ operands_by f l

-- ---- the tables of a program

abbrev pub all_code : Program → List Emitted
all_code p = section_code begin p ++ (section_code main p ++ section_code end p)

pub record Tables : Type 0 where
  pub variables : List (List ℕ)
  pub constants : List Constant
  pub eres : List (List ℕ)

unfoldable pub tables_of : ℕ → Program → Tables
tables_of edition p =
    record {
      variables = special_names ++ users_of edition p;
      constants = with_new same_constant [] (operands_by constant_in (all_code p));
      eres = with_new same_bytes [] (operands_by ere_in (all_code p));
    }

-- ---- instructions by number

unfoldable pub numbers_of : Tables → Operand → List ℕ
numbers_of t nothing = []
numbers_of t (the_constant c) = number_of same_constant t.constants c ∷ []
numbers_of t (the_variable v) = number_of same_bytes t.variables v ∷ []
numbers_of t (the_ere r) = number_of same_bytes t.eres r ∷ []
numbers_of t (the_instruction n) = n ∷ []
numbers_of t (the_count n) = n ∷ []

unfoldable pub instructions : Tables → List Emitted → List Instruction
instructions t [] = []
instructions t (i ∷ l) =
    record { code = opcode i.operation; depth = i.depth; immediates = numbers_of t i.operand } ∷ instructions t l

unfoldable pub image_by : ℕ → Program → Tables → Image
image_by edition p t =
    record {
      edition = edition;
      users = length (users_of edition p);
      constants = t.constants;
      eres = t.eres;
      begin = instructions t (section_code begin p);
      main = instructions t (section_code main p);
      end = instructions t (section_code end p);
    }

-- the image of a program
abbrev pub image_of : ℕ → Program → Image
image_of edition p = image_by edition p (tables_of edition p)
