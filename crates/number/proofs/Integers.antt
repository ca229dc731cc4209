-- Signed numbers of 64 bits against the integers. The machine keeps bits, so a need speaks of to_z w64 (of_z w64 x); the
-- first laws carry that to x once for every operation. The bounds are on `nat_abs`, in ℕ.
use mathlib.Core.Path.{◌≡◌, refl, sym, ap, ap₂, ◌∙◌, subst}
use mathlib.Core.Bool.{Bool, true, false, cond}
use Prim.Native.Nat.{ℕ, zero, suc, ◌+◌, ◌-◌, ◌/◌, ◌%◌, ◌≤◌, ◌<◌, ◌^◌}
use native.Mathlib.Nat.{div-le_self, mod-le}
use native.Mathlib.Omega.{arith}
use lib.IntN.{ℤ, pos, negsuc, neg_ℤ, nat_abs, sub_ℕ}
use lib.Signed.{mag, quot_z, rem_z}
use lib.Dec.{ltb}
use borrow.Author.Tests.{lt-ltb, le-ltb}
use mir.Syntax.{w64}
use mir.Val.{SFits, to_z, of_z}
use mir.ValLaws.{to_z-of_z}

-- what the machine reads back
module _ {a : ℤ} (fa : SFits w64 a) where
  pub fits1 : (f : ℤ → ℤ) → SFits w64 (f a) → SFits w64 (f (to_z w64 (of_z w64 a)))
  fits1 f h = subst (λ (x : ℤ). SFits w64 (f x)) (sym (to_z-of_z w64 a fa)) h

  pub back1 : (f : ℤ → ℤ) → SFits w64 (f a) → to_z w64 (of_z w64 (f (to_z w64 (of_z w64 a)))) ≡ f a
  back1 f h = ap (λ (x : ℤ). to_z w64 (of_z w64 (f x))) (to_z-of_z w64 a fa) ∙ to_z-of_z w64 (f a) h

-- a signed value that a call gave, as it is passed on: `passed c.f.ok c.f.ensures`
pub passed : {z v : ℤ} → mag z < 2 ^ 63 → z ≡ v → to_z w64 (of_z w64 z) ≡ v
passed {z} {v} h e = to_z-of_z w64 z (record { sfits = h }) ∙ e

-- bounds
mag-le : (z : ℤ) → mag z ≤ nat_abs z
mag-le (pos n) = omega arith
mag-le (negsuc n) = omega arith

pub abs-fits : (z : ℤ) → nat_abs z < 2 ^ 63 → SFits w64 z
abs-fits z h = record { sfits = omega (arith, mag-le z) }

pub sub-ge : (a b : ℕ) → b ≤ a → sub_ℕ a b ≡ pos (a - b)
sub-ge a b h = ap (λ (t : Bool). cond t (negsuc (b - suc a)) (pos (a - b))) (le-ltb a b h)

pub sub-lt : (a b : ℕ) → a < b → sub_ℕ a b ≡ negsuc (b - suc a)
sub-lt a b h = ap (λ (t : Bool). cond t (negsuc (b - suc a)) (pos (a - b))) (lt-ltb a b h)

abs-sub-by : (t : Bool) (a b : ℕ) → nat_abs (cond t (negsuc (b - suc a)) (pos (a - b))) ≤ suc (a + b)
abs-sub-by true a b = omega arith
abs-sub-by false a b = omega arith

pub abs-sub : (a b : ℕ) → nat_abs (sub_ℕ a b) ≤ suc (a + b)
abs-sub a b = abs-sub-by (ltb a b) a b

pub abs_neg : (a : ℤ) → nat_abs (neg_ℤ a) ≡ nat_abs a
abs_neg (pos zero) = refl
abs_neg (pos (suc n)) = refl
abs_neg (negsuc n) = refl

pub abs-quot : (a b : ℤ) → nat_abs (quot_z a b) ≤ nat_abs a
abs-quot (pos a) (pos b) = div-le_self a b
abs-quot (pos a) (negsuc b) = omega (arith, abs_neg (pos (a / suc b)), div-le_self a (suc b))
abs-quot (negsuc a) (pos b) = omega (arith, abs_neg (pos (suc a / b)), div-le_self (suc a) b)
abs-quot (negsuc a) (negsuc b) = div-le_self (suc a) (suc b)

pub abs-rem : (a b : ℤ) → nat_abs (rem_z a b) ≤ nat_abs a
abs-rem (pos a) b = mod-le a (nat_abs b)
abs-rem (negsuc a) b = omega (arith, abs_neg (pos (suc a % nat_abs b)), mod-le (suc a) (nat_abs b))

-- two numbers that calls gave, and what a third call made of them, as it is passed on
pub handed : {x y z a b : ℤ} (f : ℤ → ℤ → ℤ) → mag x < 2 ^ 63 → x ≡ a → mag y < 2 ^ 63 → y ≡ b → mag z < 2 ^ 63
    → z ≡ f (to_z w64 (of_z w64 x)) (to_z w64 (of_z w64 y)) → to_z w64 (of_z w64 z) ≡ f a b
handed f hx ex hy ey hz ez = passed hz (ez ∙ ap₂ f (passed hx ex) (passed hy ey))
