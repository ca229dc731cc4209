-- Document 01, "The image": reading, from bytes or from content words. "Malformed (8): any breach of this, a number
-- over 2^53, an unknown edition, kind or code." "An image's content is its numbers and text bytes in order, each a
-- 64-bit word."
use Rattle.std.specs.Prelude.{cond, List, [], ◌∷◌, ℕ, zero, suc, length, eqb, leb}
use Rattle.std.proofs.Math.Option.{Option, some, none}
use Rattle.lists.specs.Parsing.{Parsed, parsed, Parser, bind, succeed, many}
use Rattle.edition.specs.Limits.{number_bound}
use Rattle.image_format.specs.Codes.{Code, code_of}
use Rattle.image_format.specs.Image.{Constant, number, text, Instruction, Image, known}
use Rattle.image_format.specs.Numbers.{take_number}

-- how a number and a text byte are taken
pub record Source : Type 0 where
  pub number : Parser ℕ
  pub byte : Parser ℕ

-- the front, if it is at most a bound
abbrev pub word_up_to : ℕ → Parser ℕ
word_up_to most [] = none
word_up_to most (w ∷ t) = cond (leb w most) (parsed w t) none

abbrev pub from_bytes : Source
from_bytes = record { number = take_number; byte = word_up_to 255 }

abbrev pub from_words : Source
from_words = record { number = word_up_to number_bound; byte = word_up_to 255 }

module _ (source : Source) where
  -- "Each list starts with its count."
  abbrev pub counted : {A : Type 0} → Parser A → Parser (List A)
  counted one l = bind (source.number l) (many one)

  abbrev pub constant_of : ℕ → Parser Constant
  constant_of kind l =
      cond (eqb kind 0) (bind (source.number l) (λ n. succeed (number n)))
      (cond (eqb kind 1) (bind (counted source.byte l) (λ bs. succeed (text bs))) none)

  abbrev pub constant : Parser Constant
  constant l = bind (source.number l) constant_of

  abbrev pub instruction_of : ℕ → Option Code → Parser Instruction
  instruction_of c none l = none
  instruction_of c (some k) l =
      bind (source.number l) (λ depth l.
      bind (many source.number (length k.immediates) l)
      (λ named. succeed (record { code = c; depth = depth; immediates = named })))

  abbrev pub instruction : ℕ → Parser Instruction
  instruction edition l = bind (source.number l) (λ c. instruction_of c (code_of edition c))

  abbrev pub parts : ℕ → Parser Image
  parts edition l =
      bind (source.number l) (λ users l.
      bind (counted constant l) (λ constants l.
      bind (counted (counted source.byte) l) (λ eres l.
      bind (counted (instruction edition) l) (λ begin l.
      bind (counted (instruction edition) l) (λ main l.
      bind (counted (instruction edition) l) (λ end.
      succeed (record {
        edition = edition;
        users = users;
        constants = constants;
        eres = eres;
        begin = begin;
        main = main;
        end = end;
      })))))))

  -- "Nothing follows."
  abbrev pub ended : Option (Parsed Image) → Option Image
  ended none = none
  ended (some g) = cond (eqb (length g.rest) 0) (some g.value) none

  unfoldable pub read_image : List ℕ → Option Image
  read_image l = ended (bind (source.number l) (λ edition l. cond (known edition) (parts edition l) none))
