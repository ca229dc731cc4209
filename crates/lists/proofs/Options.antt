-- What an option that is known to be something says.
use mathlib.Core.Path.{◌≡◌}
use mathlib.Core.Option.{Option, some, none}
use Prim.Native.Nat.{ℕ}
use native.Mathlib.Omega.{arith}

-- it is one thing only
pub some_one : {A : Type 0} {o : Option A} {a b : A} → o ≡ some a → o ≡ some b → a ≡ b
some_one p q = cc

-- nothing is never something
pub none-some : {A : Type 0} {a : A} → none ≡ some a → ⊥
none-some h = let z : ◌≡◌ {A = ℕ} 0 1 = cc in omega arith
