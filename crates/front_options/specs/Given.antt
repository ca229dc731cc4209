-- Internal: cited by private contracts only. How many options are given.
use Rattle.std.specs.Prelude.{List, ℕ, ◌==◌, not, count_by}

-- how many options are given
abbrev pub given_count : List ℕ → ℕ
given_count l = count_by (λ n. not (n == 0)) l
