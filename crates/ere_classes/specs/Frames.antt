-- Internal: cited by private contracts only. Words of which some are stored anew.
use Rattle.std.specs.Prelude.{◌≡◌, List, ℕ, ◌≤◌, ◌<◌, length, get_or}

-- only the words from `low` up to `high` may differ
pub record Frame (low high : ℕ) (d d' : List ℕ) : Type 0 where
  pub size : length d' ≡ length d
  pub below : (i : ℕ) → i < low → get_or d' i 0 ≡ get_or d i 0
  pub above : (i : ℕ) → high ≤ i → get_or d' i 0 ≡ get_or d i 0
