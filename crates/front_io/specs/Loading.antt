-- Internal: cited by private contracts only. What a room holds after files were read: no contract can say which bytes a
-- call gives.
use Rattle.std.specs.Prelude.{ℕ, ◌≤◌, Option, Result, IfSome, MatchResult}

-- the greatest exit status
abbrev pub MOST : ℕ
MOST = 74

-- what an answer says of a room of so many bytes
abbrev pub Loads : ℕ → Result (Option ℕ) ℕ → Type 0
Loads size r = MatchResult r (λ o. IfSome o (λ n. n ≤ size)) (λ s. s ≤ MOST)
