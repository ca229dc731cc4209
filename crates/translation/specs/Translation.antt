-- Document 01, "Outcomes": "Translating, 1 to 7: the image room is untouched and the place is a byte offset. Order: 1
-- (place 8,192), 2 (first NUL), then left to right the first token that is bad (3, 5), opens level 17 (6) or can't
-- continue any program (4) ..; Then other sizes (6), then 7, place the text length. None is given otherwise. On 0 the
-- place is the image's length, the room beyond untouched."
use Rattle.std.specs.Prelude.{not, cond, List, ◌++◌, ℕ, length, drop, eqb, ltb, leb}
use Rattle.lists.specs.Elements.{leading}
use Rattle.edition.specs.Limits.{filter_text}
use Rattle.edition.specs.Outcomes.{done, filter_text_too_long, nul_byte, size_passed, room_too_small}
use Rattle.image_format.specs.Image.{Image}
use Rattle.image_format.specs.Writing.{bytes_of}
use Rattle.program_tree.specs.Tree.{Program}
use Rattle.program_reader.specs.Read.{Read, ok, no}
use Rattle.program_reader.specs.Programs.{read_program}
use Rattle.program_numbering.specs.Numbering.{image_of}
use Rattle.program_numbering.specs.Sizes.{fits}

-- the outcome, its place, and the image room afterwards
pub record Translation : Type 0 where
  pub outcome : ℕ
  pub place : ℕ
  pub room : List ℕ

module _ (room : List ℕ) where
  -- "1 to 7: the image room is untouched"
  abbrev pub refused : ℕ → ℕ → Translation
  refused outcome place = record { outcome = outcome; place = place; room = room }

  -- "On 0 the place is the image's length, the room beyond untouched."
  unfoldable pub stored : List ℕ → List ℕ → Translation
  stored s image =
      cond (leb (length image) (length room))
      (record { outcome = done; place = length image; room = image ++ drop (length image) room })
      (refused room_too_small (length s))

  -- "Then other sizes (6), then 7"
  unfoldable pub sized : List ℕ → Image → Translation
  sized s i = cond (fits i) (stored s (bytes_of i)) (refused size_passed (length s))

  unfoldable pub of_program : ℕ → List ℕ → Read Program → Translation
  of_program edition s (no outcome place) = refused outcome place
  of_program edition s (ok p t) = sized s (image_of edition p)

-- how many bytes come before the first NUL
abbrev pub before_nul : List ℕ → ℕ
before_nul s = leading (λ b. not (eqb b 0)) s

-- the translation of a text, written to a room
unfoldable pub translate_of : ℕ → List ℕ → List ℕ → Translation
translate_of edition s room =
    let program = of_program room edition s (read_program edition s) in
    cond (ltb filter_text (length s)) (refused room filter_text_too_long filter_text)
    (cond (ltb (before_nul s) (length s)) (refused room nul_byte (before_nul s)) program)
