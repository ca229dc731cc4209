-- Which images have bytes: what the coding can hold, and nothing of the check.
use Rattle.std.specs.Prelude.{◌≡◌, true, List, [], ◌∷◌, ℕ, ◌≤◌, ◌<◌, length}
use Rattle.std.proofs.Math.Option.{some}
use Rattle.edition.specs.Limits.{number_bound}
use Rattle.lists.specs.Elements.{Every}
use Rattle.image_format.specs.Codes.{Code, code_of}
use Rattle.image_format.specs.Image.{Constant, number, text, Instruction, Image, known}

abbrev pub Small : ℕ → Type 0
Small n = n ≤ number_bound

abbrev pub Listed : {A : Type 0} → (A → Type 0) → List A → Type 0
Listed P l = (Small (length l)) × (Every P l)

abbrev pub Text : List ℕ → Type 0
Text l = Listed (λ b. b < 256) l

abbrev pub FormedConstant : Constant → Type 0
FormedConstant (number n) = Small n
FormedConstant (text l) = Text l

pub record FormedInstruction (edition : ℕ) (i : Instruction) : Type 0 where
  pub row : Code
  pub has : code_of edition i.code ≡ some row
  pub code : Small i.code
  pub depth : Small i.depth
  pub many : length i.immediates ≡ length row.immediates
  pub immediates : Every Small i.immediates

pub record Formed (i : Image) : Type 0 where
  pub edition : known i.edition ≡ true
  pub users : Small i.users
  pub constants : Listed FormedConstant i.constants
  pub eres : Listed Text i.eres
  pub begin : Listed (FormedInstruction i.edition) i.begin
  pub main : Listed (FormedInstruction i.edition) i.main
  pub end : Listed (FormedInstruction i.edition) i.end
