-- Internal: cited by private contracts only. Internal: cited by contracts between crates. How far a room is filled: no
-- contract can say which bytes a call gives.
use Rattle.std.specs.Prelude.{ℕ, ◌≤◌, Option, IfSome}

-- from a place on, inside a room
abbrev pub FilledTo : ℕ → ℕ → Option ℕ → Type 0
FilledTo from size o = IfSome o (λ n. (from ≤ n) × (n ≤ size))
