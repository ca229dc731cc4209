-- Internal: cited by private contracts only. Whether a byte is among some of a list, and indexes that come nearer to
-- its first place.
use Rattle.std.specs.Prelude.{ℕ, zero, suc, ◌+◌, ◌≤◌, ◌<◌, Bool, true, false, cond, List, get_or, eqb}
use Rattle.buffer.specs.First.{first_byte}

-- whether b is among the n bytes from index a on
unfoldable pub among : ℕ → ℕ → ℕ → List ℕ → Bool
among b zero a s = false
among b (suc n) a s = cond (among b n a s) true (eqb (get_or s (a + n) 0) b)

-- r is at most n after a and not after the first b; if that is in the 2 n bytes from a on, it is in the n bytes from r
-- on
pub record Nearer (b : ℕ) (s : List ℕ) (a n r : ℕ) : Type 0 where
  pub within : r ≤ a + n
  pub before : r ≤ first_byte b s
  pub near : first_byte b s < a + n + n → first_byte b s < r + n
