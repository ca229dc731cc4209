-- What is written of an image while it is read: each number as `write` says, each text byte as it is, and what is left
-- of the source. It says the form of an image once more, from the left, so that it can be said what is still to come;
-- `transcript-is` of Tellings shows that it is what `image_format` says.
use mathlib.Core.Bool.{cond}
use mathlib.Core.List.{List, [], ◌∷◌, ◌++◌}
use mathlib.Core.Option.{Option, some, none}
use Prim.Native.Nat.{ℕ, zero, suc}
use lib.ListN.{length}
use lib.Dec.{eqb}
use Rattle.lists.specs.Parsing.{Parsed, parsed, Parser, bind, succeed}
use Rattle.image_format.specs.Codes.{Code, code_of}
use Rattle.image_format.specs.Image.{Image, known}
use Rattle.image_format.specs.Reading.{Source, parts}

-- what is written from here on
abbrev pub Rest : Type 0
Rest = Parser (List ℕ)

-- with something before it
abbrev pub before : List ℕ → Option (Parsed (List ℕ)) → Option (Parsed (List ℕ))
before w none = none
before w (some g) = parsed (w ++ g.value) g.rest

abbrev pub refused : Rest
refused l = none

module _ (source : Source) (write : ℕ → List ℕ) where
  -- a number, and what it leads to
  abbrev pub a_number : (ℕ → Rest) → Rest
  a_number k l = bind (source.number l) (λ n l. before (write n) (k n l))

  -- a text byte
  abbrev pub a_byte : Rest → Rest
  a_byte k l = bind (source.byte l) (λ b l. before (b ∷ []) (k l))

  -- n bytes, numbers or items
  unfoldable pub times : (Rest → Rest) → ℕ → Rest → Rest
  times one zero k = k
  times one (suc n) k = one (times one n k)

  abbrev pub numbers : ℕ → Rest → Rest
  numbers n k = times (λ k. a_number (λ v. k)) n k

  abbrev pub bytes : ℕ → Rest → Rest
  bytes n k = times a_byte n k

  abbrev pub a_text : Rest → Rest
  a_text k = a_number (λ n. bytes n k)

  abbrev pub of_kind : ℕ → Rest → Rest
  of_kind kind k = cond (eqb kind 0) (a_number (λ n. k)) (cond (eqb kind 1) (a_text k) refused)

  abbrev pub a_constant : Rest → Rest
  a_constant k = a_number (λ kind. of_kind kind k)

  abbrev pub of_code : Option Code → Rest → Rest
  of_code none k = refused
  of_code (some c) k = a_number (λ depth. numbers (length c.immediates) k)

  module _ (edition : ℕ) where
    abbrev pub an_instruction : Rest → Rest
    an_instruction k = a_number (λ c. of_code (code_of edition c) k)

    -- an item of the list after which n lists come: constants, EREs, and three sections of instructions
    abbrev pub an_item : ℕ → Rest → Rest
    an_item after k = cond (eqb after 4) (a_constant k) (cond (eqb after 3) (a_text k) (an_instruction k))

    -- n lists
    unfoldable pub lists : ℕ → Rest
    lists zero = succeed []
    lists (suc after) = a_number (λ n. times (an_item after) n (lists after))

  -- the whole
  abbrev pub after_edition : ℕ → Rest
  after_edition edition = cond (known edition) (a_number (λ users. lists edition 5)) refused

  abbrev pub transcript : Rest
  transcript = a_number after_edition

-- ---- what `image_format` says of the same

-- an image, before it is asked whether anything follows
abbrev pub unended : Source → Parser Image
unended source l = bind (source.number l) (λ edition l. cond (known edition) (parts source edition l) none)

-- what was taken, written
abbrev pub told : {A : Type 0} → (A → List ℕ) → Option (Parsed A) → Option (Parsed (List ℕ))
told w none = none
told w (some g) = parsed (w g.value) g.rest

abbrev pub mapped : {A B : Type 0} → (A → B) → Option A → Option B
mapped f none = none
mapped f (some a) = some (f a)

-- what was written, if nothing is left
abbrev pub ended_with : Option (Parsed (List ℕ)) → Option (List ℕ)
ended_with none = none
ended_with (some g) = cond (eqb (length g.rest) 0) (some g.value) none
