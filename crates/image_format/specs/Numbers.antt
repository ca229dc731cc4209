-- Document 01, "The image": "Numbers are groups of seven bits, low group first, high bit set if more follow, no longer
-- than needed"; "a number over 2^53" is malformed.
use Rattle.std.specs.Prelude.{cond, List, [], ◌∷◌, ℕ, zero, suc, ◌+◌, ◌-◌, ◌*◌, ◌/◌, ◌%◌, ◌<◌, eqb, ltb, leb}
use Rattle.std.proofs.Math.Option.{Option, some, none}
use Rattle.lists.specs.Parsing.{Parsed, parsed}
use Rattle.edition.specs.Limits.{number_bound}

-- The bytes are the number's. That the part above the low group isn't 0 is "no longer than needed".
pub data Coded : ℕ → List ℕ → Type 0 where
  last : {g : ℕ} → g < 128 → Coded g (g ∷ [])
  more : {g n : ℕ} {t : List ℕ} → g < 128 → 0 < n → Coded n t → Coded (g + 128 * n) ((128 + g) ∷ t)

-- the same, computed: the number n, in at most k groups
abbrev pub groups : ℕ → ℕ → List ℕ
groups zero n = []
groups (suc k) n = cond (ltb n 128) (n ∷ []) ((128 + n % 128) ∷ groups k (n / 128))

-- eight groups hold all numbers up to 2^53
unfoldable pub coded : ℕ → List ℕ
coded n = groups 8 n

-- a low group, and what is above it
abbrev pub above : ℕ → Option (Parsed ℕ) → Option (Parsed ℕ)
above g none = none
above g (some r) = cond (eqb r.value 0) none (parsed (g + 128 * r.value) r.rest)

-- a number off the front of bytes, however great
unfoldable pub take_groups : List ℕ → Option (Parsed ℕ)
take_groups [] = none
take_groups (b ∷ t) = cond (ltb b 128) (parsed b t) (cond (ltb b 256) (above (b - 128) (take_groups t)) none)

abbrev pub bounded : Option (Parsed ℕ) → Option (Parsed ℕ)
bounded none = none
bounded (some r) = cond (leb r.value number_bound) (some r) none

unfoldable pub take_number : List ℕ → Option (Parsed ℕ)
take_number l = bounded (take_groups l)
