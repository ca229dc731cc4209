-- Internal: cited by private contracts only. What a pass takes at a stage, and what a whole pass answers.
use Rattle.std.specs.Prelude.{◌≡◌, Option, Some, None, List, ℕ, ◌≤◌, ◌<◌, length, drop}
use Rattle.std.proofs.Math.Option as maybe
use Rattle.lists.specs.Parsing.{parsed}
use Rattle.image_format.specs.Image.{Image}
use Rattle.image_format.specs.Reading.{Source}
use Rattle.varint.specs.Room.{with_all}
use Rattle.image_stages.specs.Stages.{taken_at}

-- what was taken at a stage, off the list from a place on, or that there is nothing to take
abbrev pub TakesStage : Source → List ℕ → ℕ → ℕ → Option (ℕ × ℕ) → Type 0
TakesStage source l stage at (Some r) =
    (taken_at source stage (drop at l) ≡ parsed r.0 (drop r.1 l)) × (at < r.1) × (r.1 ≤ length l)
TakesStage source l stage at None = taken_at source stage (drop at l) ≡ maybe.none

-- how many elements an image is written by, and what a room has then
pub record Filled : Type 0 where
  pub count : ℕ
  pub room : List ℕ

-- what a case of a pass's answer says, with the room
unfoldable pub passed_of : Option ℕ → List ℕ → maybe.Option Filled
passed_of (Some n) room = maybe.some (record { count = n; room = room })
passed_of None room = maybe.none

-- an image, written to a room as far as the room goes
unfoldable pub pass_of : (Image → List ℕ) → List ℕ → maybe.Option Image → maybe.Option Filled
pass_of w room maybe.none = maybe.none
pass_of w room (maybe.some i) = maybe.some (record { count = length (w i); room = with_all room 0 (w i) })
