-- Internal: cited by private contracts only. Lengths in whole blocks.
use Rattle.std.specs.Prelude.{ℕ, ◌+◌, ◌*◌, ◌/◌}

-- n, up to a multiple of 16
abbrev pub blocks : ℕ → ℕ
blocks n = (n + 15) / 16 * 16
