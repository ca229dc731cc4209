-- Internal: cited by private contracts only. The argument of -b: digits alone, at least one; the number is below 2^64.
use Rattle.std.specs.Prelude.{cond, List, [], ◌∷◌, ℕ, ◌+◌, ◌-◌, ◌*◌, leb}
use Rattle.std.proofs.Math.Option.{Option, some, none}

-- the greatest budget
abbrev pub MOST : ℕ
MOST = 18446744073709551615

-- a number with a digit more
unfoldable pub with_digit : ℕ → ℕ → Option ℕ
with_digit v b =
    cond (leb 48 b)
    (cond (leb b 57) (cond (leb (v * 10 + (b - 48)) MOST) (some (v * 10 + (b - 48))) none) none)
    none

-- on with a number, if it is one
abbrev pub further : Option ℕ → (ℕ → Option ℕ) → Option ℕ
further none f = none
further (some v) f = f v

unfoldable pub digits_from : List ℕ → ℕ → Option ℕ
digits_from [] v = some v
digits_from (b ∷ l) v = further (with_digit v b) (digits_from l)

unfoldable pub budget_of : List ℕ → Option ℕ
budget_of [] = none
budget_of (b ∷ l) = digits_from (b ∷ l) 0
