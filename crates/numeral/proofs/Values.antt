-- The value of digits, digit by digit, and up to one past the greatest number.
use mathlib.Core.Path.{◌≡◌, refl, ap, ◌∙◌}
use mathlib.Core.List.{List, [], ◌∷◌, ◌++◌}
use Prim.Native.Nat.{ℕ, ◌+◌, ◌≤◌, ◌<◌}
use native.Mathlib.Numerals.{add-one}
use native.Mathlib.Omega.{arith}
use lib.ListN.{length, get_or, take}
use lib.Seq.{take-suc}
use Rattle.edition.specs.Limits.{number_bound}
use Rattle.numeral.specs.Judgement.{appended, value_after, digits_value}
use Rattle.numeral.specs.Capped.{capped}

pub value-append : (a b : List ℕ) (v : ℕ) → value_after v (a ++ b) ≡ value_after (value_after v a) b
unfolding value_after
value-append [] b v = refl
value-append (x ∷ a) b v = value-append a b (appended v x)

pub value-more : (t : List ℕ) (k : ℕ) → k < length t → digits_value (take (k + 1) t) ≡ appended (digits_value (take k t)) (get_or t k 0)
unfolding value_after
value-more t k h =
    ap (λ (n : ℕ). digits_value (take n t)) (add-one k)
    ∙ ap digits_value (take-suc t k 0 h)
    ∙ value-append (take k t) (get_or t k 0 ∷ []) 0

pub capped_le : (n : ℕ) → capped n ≤ number_bound + 1
unfolding capped
capped_le n = omega arith

-- a digit after a value that was cut off is a digit after the value
pub capped-more : (v d : ℕ) → capped (appended (capped v) d) ≡ capped (appended v d)
unfolding capped
capped-more v d = omega arith

-- no digit yet
pub value_none : 0 ≡ capped (digits_value [])
unfolding capped value_after
value_none = refl
