-- Internal: cited by private contracts only. What an answer of the code says: `take_number` of `image_format` on the
-- bytes from a place on.
use Rattle.std.specs.Prelude.{◌≡◌, Option, Some, None, cond, not, ◌&&◌, List, ℕ, ◌+◌, ◌*◌, ◌≤◌, ◌<◌, length, drop, eqb, ltb}
use Rattle.std.proofs.Math.Option.{none}
use Rattle.lists.specs.Parsing.{parsed}
use Rattle.edition.specs.Limits.{number_bound}
use Rattle.image_format.specs.Numbers.{take_number}

-- the bytes from `at` on start with the number, or with none
abbrev pub TakesAt : List ℕ → ℕ → Option (ℕ × ℕ) → Type 0
TakesAt l at (Some r) = (take_number (drop at l) ≡ parsed r.0 (drop r.1 l)) × (at < r.1) × (r.1 ≤ length l)
TakesAt l at None = take_number (drop at l) ≡ none

-- a number with its last group g
abbrev pub last_of : ℕ → ℕ → ℕ → ℕ → Option (ℕ × ℕ)
last_of value scale g end =
    cond (eqb g 0 && not (eqb scale 1)) None
    (cond (ltb number_bound (value + scale * g)) None (Some (value + scale * g, end)))
