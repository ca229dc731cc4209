-- Document 01, "The image": an image's bytes, and its content words.
use Rattle.std.specs.Prelude.{List, [], ◌∷◌, ◌++◌, ℕ, length}
use Rattle.image_format.specs.Image.{Constant, number, text, Instruction, Image}
use Rattle.image_format.specs.Numbers.{coded}

-- one after the other
unfoldable pub all : {A : Type 0} → (A → List ℕ) → List A → List ℕ
all one [] = []
all one (a ∷ l) = one a ++ all one l

-- how a number is written; a text byte is itself
module _ (write : ℕ → List ℕ) where
  abbrev pub listed : {A : Type 0} → (A → List ℕ) → List A → List ℕ
  listed one l = write (length l) ++ all one l

  abbrev pub bytes : List ℕ → List ℕ
  bytes l = write (length l) ++ l

  abbrev pub constant_in : Constant → List ℕ
  constant_in (number n) = write 0 ++ write n
  constant_in (text l) = write 1 ++ bytes l

  abbrev pub instruction_in : Instruction → List ℕ
  instruction_in i = write i.code ++ (write i.depth ++ all write i.immediates)

  unfoldable pub written : Image → List ℕ
  written i =
      write i.edition
      ++ (write i.users
      ++ (listed constant_in i.constants
      ++ (listed bytes i.eres
      ++ (listed instruction_in i.begin
      ++ (listed instruction_in i.main
      ++ listed instruction_in i.end)))))

abbrev pub bytes_of : Image → List ℕ
bytes_of = written coded

-- "its numbers and text bytes in order, each a 64-bit word"
abbrev pub content_of : Image → List ℕ
content_of = written (λ n. n ∷ [])
