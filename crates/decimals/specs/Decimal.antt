-- Document 01, "Values": "Numbers become plain decimal."
use Rattle.std.specs.Prelude.{cond, List, [], ◌∷◌, ◌++◌, ℕ, zero, suc, ◌+◌, ◌*◌, ◌/◌, ◌%◌, ◌<◌, ℤ, pos, negsuc, ltb}

-- The digits of n, in at most one more turn than the first number says: n turns are always enough (`digits_step`).
unfoldable pub digits_within : ℕ → ℕ → List ℕ
digits_within zero n = (48 + n) ∷ []
digits_within (suc turns) n =
    let longer = digits_within turns (n / 10) ++ ((48 + n % 10) ∷ []) in
    cond (ltb n 10) ((48 + n) ∷ []) longer

unfoldable pub decimal_digits : ℕ → List ℕ
decimal_digits n = digits_within n n

unfoldable pub decimal_text : ℤ → List ℕ
decimal_text (pos n) = decimal_digits n
decimal_text (negsuc n) = 45 ∷ decimal_digits (suc n)

-- What the digits of n are, without turns: one digit, or those of a number that is not 0 and one more.
pub data Spells : ℕ → List ℕ → Type 0 where
  digit : {n : ℕ} → n < 10 → Spells n ((48 + n) ∷ [])
  longer : {n d : ℕ} {l : List ℕ} → 0 < n → Spells n l → d < 10 → Spells (n * 10 + d) (l ++ ((48 + d) ∷ []))
