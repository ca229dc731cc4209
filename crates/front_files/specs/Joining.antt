-- Internal: cited by private contracts only. "Files are joined, with a newline where one that isn't empty lacks its
-- last."
use Rattle.std.specs.Prelude.{cond, List, ℕ, ◌+◌, ◌-◌, eqb, ltb, length, get_or, set}
use Rattle.std.proofs.Math.Option.{Option, some, none}

-- the room before the next file, of which the first `at` bytes are filled
unfoldable pub separated : List ℕ → ℕ → List ℕ
separated room at =
    cond (eqb at 0) room
    (cond (eqb (get_or room (at - 1) 0) 10) room (cond (ltb at (length room)) (set room at 10) room))

-- and where that file starts
unfoldable pub separated_to : List ℕ → ℕ → Option ℕ
separated_to room at =
    cond (eqb at 0) (some at)
    (cond (eqb (get_or room (at - 1) 0) 10) (some at) (cond (ltb at (length room)) (some (at + 1)) none))
