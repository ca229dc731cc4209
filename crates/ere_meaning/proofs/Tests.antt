-- What a test by `any` says where it holds.
use mathlib.Core.Path.{◌≡◌, refl, sym, subst}
use mathlib.Core.Bool.{Bool, true, false, true≢false, ◌&&◌, ◌||◌}
use mathlib.Core.Logic.{◌⊎◌, inl, inr, ⊎_elim}
use Prim.Native.Nat.{ℕ, zero, suc, ◌<◌}
use native.Mathlib.Nat.{le_refl, eq-or-lt_of_le, le_of_suc-le-suc}
use native.Mathlib.Omega.{arith}
use Rattle.lists.proofs.Tests.{or_cases, or_left, or_right}
use Rattle.ere_meaning.specs.Search.{any}

pub any-in : (n : ℕ) (f : ℕ → Bool) → any n f ≡ true → (k : ℕ) × (k < n) × (f k ≡ true)
any-in zero f h = absurd (true≢false (sym h))
any-in (suc n) f h =
    ⊎_elim (λ e. (n, le_refl (suc n), e)) (λ e. let r = any-in n f e in (r.0, omega (arith, r.1), r.2)) (or_cases (f n) (any n f) h)

pub any_of : (n : ℕ) (f : ℕ → Bool) (k : ℕ) → k < n → f k ≡ true → any n f ≡ true
any_of zero f k l h = absurd (omega arith)
any_of (suc n) f k l h =
    ⊎_elim (λ e. or_left (f n) (any n f) (subst (λ (x : ℕ). f x ≡ true) e h)) (λ g. or_right (f n) (any n f) (any_of n f k g h))
    (eq-or-lt_of_le (le_of_suc-le-suc l))
