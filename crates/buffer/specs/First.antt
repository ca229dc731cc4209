-- The first place of a byte, and of a part.
use Rattle.std.specs.Prelude.{ℕ, suc, ◌+◌, ◌≤◌, ◌≡◌, Bool, cond, List, [], ◌∷◌, length, take, eqb}
use Rattle.std.proofs.Math.Option.{Option, some, none}
use Rattle.buffer.specs.Order.{equal_bytes}
use Rattle.buffer.specs.Parts.{part}

-- how many bytes are before the first b; all of them where there is no b
unfoldable pub first_byte : ℕ → List ℕ → ℕ
first_byte b [] = 0
first_byte b (x ∷ s) = cond (eqb x b) 0 (suc (first_byte b s))

-- whether s begins with t
unfoldable pub starts_with : List ℕ → List ℕ → Bool
starts_with t s = equal_bytes (take (length t) s) t

abbrev pub further : Option ℕ → Option ℕ
further none = none
further (some k) = some (suc k)

-- the least index of s at which t is
unfoldable pub first_part : List ℕ → List ℕ → Option ℕ
first_part t [] = cond (starts_with t []) (some 0) none
first_part t (x ∷ s) = cond (starts_with t (x ∷ s)) (some 0) (further (first_part t s))

-- t is at index k of s
pub record Stands (t s : List ℕ) (k : ℕ) : Type 0 where
  pub fits : k + length t ≤ length s
  pub same : part k (length t) s ≡ t

-- t is at index k of s, and at no lower one
pub record FirstAt (t s : List ℕ) (k : ℕ) : Type 0 where
  pub stands : Stands t s k
  pub least : (j : ℕ) → Stands t s j → k ≤ j

-- an index is the first at which t is, or t is nowhere
abbrev pub IsFirst : List ℕ → List ℕ → Option ℕ → Type 0
IsFirst t s (some k) = FirstAt t s k
IsFirst t s none = (j : ℕ) → Stands t s j → ⊥
