-- Internal: cited by private contracts only. "Status: the outcome's number; 64 usage, 66 no input, 74 input or output
-- failed."
use Rattle.std.specs.Prelude.{cond, ℕ, leb}
use Rattle.edition.specs.Outcomes.{working_room_too_small}

-- the status of an outcome; no part answers a number above the last outcome's
abbrev pub status_of : ℕ → ℕ
status_of outcome = cond (leb outcome working_room_too_small) outcome 74
