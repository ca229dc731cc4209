-- Document 01, "Values": texts are compared "of unsigned bytes, the shorter first": dictionary order, a proper prefix
-- first.
use Rattle.std.specs.Prelude.{ℕ, ◌<◌, ◌≡◌, Bool, true, false, cond, List, [], ◌∷◌, ◌++◌, ltb, eqb}
use Rattle.std.specs.declared.cmp.Ordering.{Ordering}
use Rattle.std.specs.declared.cmp.Ordering.TheVariants.{Less, Equal, Greater}

unfoldable pub ordering : List ℕ → List ℕ → Ordering
ordering [] [] = Equal
ordering [] (y ∷ b) = Less
ordering (x ∷ a) [] = Greater
ordering (x ∷ a) (y ∷ b) = cond (ltb x y) Less (cond (ltb y x) Greater (ordering a b))

-- a comes before b: b goes on where a ends, or at the first place where they differ a has the lower byte
pub data Before (a b : List ℕ) : Type 0 where
  shorter : (y : ℕ) (b' : List ℕ) → b ≡ a ++ y ∷ b' → Before a b
  lower : (p : List ℕ) (x y : ℕ) (a' b' : List ℕ) → x < y → a ≡ p ++ x ∷ a' → b ≡ p ++ y ∷ b' → Before a b

-- whether two lists of bytes are the same
unfoldable pub equal_bytes : List ℕ → List ℕ → Bool
equal_bytes [] [] = true
equal_bytes [] (y ∷ b) = false
equal_bytes (x ∷ a) [] = false
equal_bytes (x ∷ a) (y ∷ b) = cond (eqb x y) (equal_bytes a b) false
