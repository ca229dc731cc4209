-- The distance from the least number: which number it stands for, and the tests of range.
use mathlib.Core.Path.{◌≡◌, refl, sym, ap, ◌∙◌}
use mathlib.Core.Bool.{true, false}
use Prim.Native.Nat.{ℕ, zero, suc, ◌+◌, ◌-◌, ◌≤◌, ◌<◌, ◌^◌}
use native.Mathlib.Decide.{dec_le}
use native.Mathlib.Omega.{arith}
use lib.IntN.{ℤ, pos, negsuc, neg_ℤ, nat_abs, ◌+ℤ◌, ◌-ℤ◌}
use lib.Signed.{mag}
use borrow.Author.Tests.{lt-leb}
use mir.Syntax.{w64}
use mir.Val.{SFits, to_z, of_z}
use Rattle.edition.specs.Limits.{number_bound}
use Rattle.edition.specs.Outcomes.{number_out_of_range}
use Rattle.number.specs.Range.{InRange, in_range, number, stop, ranged, unbias, top}
use Rattle.number.proofs.Integers.{abs-fits, abs-sub, sub-ge, sub-lt, passed}

-- the distance of a number
abbrev pub up : ℤ → ℕ
up (pos n) = n + number_bound
up (negsuc n) = number_bound - suc n

pub up-eq : (z : ℤ) → nat_abs z ≤ number_bound → z +ℤ pos number_bound ≡ pos (up z)
up-eq (pos n) h = refl
up-eq (negsuc n) h = sub-ge number_bound (suc n) h

-- the two ways that a distance stands for a number
pub unbias-above : (w : ℕ) → number_bound ≤ w → unbias w ≡ pos (w - number_bound)
unfolding unbias
unbias-above w h = sub-ge w number_bound h

pub unbias-below : (w : ℕ) → w < number_bound → unbias w ≡ negsuc (number_bound - suc w)
unfolding unbias
unbias-below w h = sub-lt w number_bound h

pub up-down : (z : ℤ) → nat_abs z ≤ number_bound → unbias (up z) ≡ z
up-down (pos n) h =
    let e : n + number_bound - number_bound ≡ n = omega arith in
    unbias-above (n + number_bound) (omega arith) ∙ ap pos e
up-down (negsuc n) h =
    let e : number_bound - suc (number_bound - suc n) ≡ n = omega arith in
    unbias-below (number_bound - suc n) (omega arith) ∙ ap negsuc e

pub down-up : (w : ℕ) → up (unbias w) ≡ w
down-up w =
    elim (dec_le number_bound w) [ yes p ↦ omega (arith, ap up (unbias-above w p)) | no p ↦ omega (arith, ap up (unbias-below w (omega arith))) ]

-- a number by its size and sign
pub unbias-plus : (n : ℕ) → unbias (number_bound + n) ≡ pos n
unbias-plus n =
    let e : number_bound + n - number_bound ≡ n = omega arith in
    unbias-above (number_bound + n) (omega arith) ∙ ap pos e

pub unbias-minus : (n : ℕ) → n ≤ number_bound → unbias (number_bound - n) ≡ neg_ℤ (pos n)
unbias-minus zero h = unbias-plus zero
unbias-minus (suc n) h = up-down (negsuc n) h

pub up_top : (z : ℤ) → nat_abs z ≤ number_bound → up z ≤ top
up_top (pos n) h = omega arith
up_top (negsuc n) h = omega arith

-- a distance that fits is that of a number in range
pub down_fits : (w : ℕ) → w ≤ top → SFits w64 (pos w -ℤ pos number_bound)
down_fits w h = abs-fits _ (omega (arith, abs-sub w number_bound))

pub down-range : (w : ℕ) → w ≤ top → nat_abs (unbias w) ≤ number_bound
down-range w h =
    elim (dec_le number_bound w) [ yes p ↦ omega (arith, ap nat_abs (unbias-above w p)) | no p ↦ omega (arith, ap nat_abs (unbias-below w (omega arith))) ]

-- number_bound alone stands for 0
pub zero_is : (w : ℕ) → w ≡ number_bound → nat_abs (unbias w) ≡ 0
zero_is w e = omega (arith, ap nat_abs (unbias-above w (omega arith)))

pub zero-not : (w : ℕ) → (w ≡ number_bound → ⊥) → nat_abs (unbias w) ≡ 0 → ⊥
zero-not w ne h =
    elim (dec_le number_bound w) [ yes p ↦ ne (omega (arith, ap nat_abs (unbias-above w p))) | no p ↦ absurd (omega (arith, ap nat_abs (unbias-below w (omega arith)))) ]

-- a number that passes the range's test, and one that does not
pub ranged-in : (z : ℤ) → in_range z ≡ true → ranged z ≡ number z
unfolding ranged
ranged-in z h = rw h

pub ranged-out : (z : ℤ) → in_range z ≡ false → ranged z ≡ stop number_out_of_range
unfolding ranged
ranged-out z h = rw h

-- one that does not fit 64 bits is out of range
pub ranged-wide : (z : ℤ) → (SFits w64 z → ⊥) → ranged z ≡ stop number_out_of_range
ranged-wide z h =
    elim (dec_le (nat_abs z) number_bound) [ yes p ↦ absurd (h (abs-fits z (omega arith))) | no p ↦ ranged-out z (lt-leb (nat_abs z) number_bound (omega arith)) ]

-- a number that a call gave for a distance, as it is passed on: it is in range, and 0 for one distance alone
module _ {x : ℤ} {w : ℕ} (ok : mag x < 2 ^ 63) (e : x ≡ unbias w) where
  pub range-passed : w ≤ top → InRange (to_z w64 (of_z w64 x))
  range-passed h = record { within = omega (arith, ap nat_abs (passed ok e), down-range w h) }

  pub nonzero-passed : (w ≡ number_bound → ⊥) → to_z w64 (of_z w64 x) ≡ pos 0 → ⊥
  nonzero-passed ne h = zero-not w ne (ap nat_abs (sym (passed ok e) ∙ h))

-- each number has one distance
pub unbias-same : (v w : ℕ) → unbias v ≡ unbias w → v ≡ w
unbias-same v w e = sym (down-up v) ∙ ap up e ∙ down-up w
