-- Document 01, "The image": what an image has, in order.
use Rattle.std.specs.Prelude.{Bool, List, ℕ, eqb}
use Rattle.edition.specs.Limits.{first_edition}

-- "constants, each kind 0 with a number or kind 1 with length and bytes"
pub data Constant : Type 0 where
  number : ℕ → Constant
  text : List ℕ → Constant

-- "its instructions: code, depth before it, and the operand where one is named"
pub record Instruction : Type 0 where
  pub code : ℕ
  pub depth : ℕ
  pub immediates : List ℕ

-- "edition 1; the count of user variables; constants ..; EREs ..; then BEGIN, record and END sections"
pub record Image : Type 0 where
  pub edition : ℕ
  pub users : ℕ
  pub constants : List Constant
  pub eres : List (List ℕ)
  pub begin : List Instruction
  pub main : List Instruction
  pub end : List Instruction

-- An image that passes the check has fewer bytes: by the sizes, not by a rule of its own.
abbrev pub image_bound : ℕ
image_bound = 65536

-- "an unknown edition" is refused
abbrev pub known : ℕ → Bool
known edition = eqb edition first_edition
