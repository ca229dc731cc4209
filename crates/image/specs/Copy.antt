-- Document 01, "Outcomes": "Image reader: 8, then 7. Image writer: 8 for content that no reading gives, then 7. Both
-- answer the length written, 0 on a refusal; the room beyond it is untouched."
use Rattle.std.specs.Prelude.{Result, Ok, Err, Bool, true, false, cond, List, ◌++◌, ℕ, length, drop, leb}
use Rattle.std.proofs.Math.Option.{Option, some, none}
use Rattle.edition.specs.Outcomes.{done, room_too_small, image_malformed}
use Rattle.image_format.specs.Image.{Image}
use Rattle.image_format.specs.Reading.{read_image, from_bytes, from_words}
use Rattle.image_format.specs.Writing.{bytes_of, content_of}
use Rattle.image.specs.declared.error.CopyError.{CopyError}
use Rattle.image.specs.declared.error.CopyError.TheVariants.{Malformed, NoRoom}

-- the outcome, the length written, and the room afterwards
pub record Copying : Type 0 where
  pub outcome : ℕ
  pub length : ℕ
  pub room : List ℕ

abbrev pub copying : ℕ → ℕ → List ℕ → Copying
copying o n room = record { outcome = o; length = n; room = room }

-- what a case of an answer says, with the room
abbrev pub copying_of : Result ℕ CopyError → List ℕ → Copying
copying_of (Ok n) room = copying done n room
copying_of (Err Malformed) room = copying image_malformed 0 room
copying_of (Err NoRoom) room = copying room_too_small 0 room

-- a list put at the front of a room, if it fits
abbrev pub fitted : List ℕ → List ℕ → Copying
fitted l room =
    cond (leb (length l) (length room))
    (copying done (length l) (l ++ drop (length l) room))
    (copying room_too_small 0 room)

abbrev pub given : (Image → List ℕ) → List ℕ → Option Image → Copying
given w room none = copying image_malformed 0 room
given w room (some i) = fitted (w i) room

-- the content of an image, from its bytes
unfoldable pub read_of : List ℕ → List ℕ → Copying
read_of image room = given content_of room (read_image from_bytes image)

-- the bytes of an image, from its content
unfoldable pub written_of : List ℕ → List ℕ → Copying
written_of content room = given bytes_of room (read_image from_words content)

-- whether bytes are an image's
abbrev pub is_image : Option Image → Bool
is_image none = false
is_image (some i) = true
