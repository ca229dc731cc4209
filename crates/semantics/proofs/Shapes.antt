-- Numbers and operands as many as an operation has arguments have the shape that it asks for.
use mathlib.Core.Path.{◌≡◌, refl}
use mathlib.Core.List.{List, [], ◌∷◌}
use mathlib.Core.Option.{Option}
use Prim.Native.Nat.{ℕ}
use native.Mathlib.Omega.{arith}
use lib.ListN.{length}
use Rattle.values.specs.Value.{Value}
use Rattle.semantics.specs.Moves.{one, unary, binary, ternary}

-- ---- what is so of whatever an operation comes to, where the numbers and operands are as many as it has arguments

module _ {A : Type 0} (P : Option A → Type 0) where
  pub one-total : (ns : List ℕ) {f : ℕ → Option A} → length ns ≡ 1 → ((n : ℕ) → ns ≡ n ∷ [] → P (f n)) → P (one ns f)
  one-total [] l h = absurd (omega arith)
  one-total (n ∷ []) l h = h n refl
  one-total (n ∷ m ∷ ns) l h = absurd (omega arith)

  pub unary-total : (vs : List Value) {f : Value → Option A} → length vs ≡ 1 → ((a : Value) → P (f a)) → P (unary vs f)
  unary-total [] l h = absurd (omega arith)
  unary-total (a ∷ []) l h = h a
  unary-total (a ∷ b ∷ vs) l h = absurd (omega arith)

  pub binary-total : (vs : List Value) {f : Value → Value → Option A} → length vs ≡ 2 → ((a b : Value) → P (f a b)) → P (binary vs f)
  binary-total [] l h = absurd (omega arith)
  binary-total (b ∷ []) l h = absurd (omega arith)
  binary-total (b ∷ a ∷ []) l h = h a b
  binary-total (b ∷ a ∷ c ∷ vs) l h = absurd (omega arith)

  pub ternary-total : (vs : List Value) {f : Value → Value → Value → Option A} → length vs ≡ 3 → ((a b c : Value) → P (f a b c)) → P (ternary vs f)
  ternary-total [] l h = absurd (omega arith)
  ternary-total (c ∷ []) l h = absurd (omega arith)
  ternary-total (c ∷ b ∷ []) l h = absurd (omega arith)
  ternary-total (c ∷ b ∷ a ∷ []) l h = h a b c
  ternary-total (c ∷ b ∷ a ∷ d ∷ vs) l h = absurd (omega arith)
