-- How long the text of a number is.
use mathlib.Core.Path.{ap}
use Prim.Native.Nat.{ℕ, zero, suc, ◌-◌, ◌*◌, ◌/◌, ◌^◌, ◌≤◌, ◌<◌}
use native.Mathlib.Decide.{dec_le, dec_lt}
use native.Mathlib.Nat.{pow-suc}
use native.Mathlib.Omega.{arith}
use lib.ListN.{length}
use Rattle.edition.specs.Limits.{number_bound}
use Rattle.number.specs.Range.{unbias, top}
use Rattle.decimals.specs.Decimal.{decimal_digits, decimal_text}
use Rattle.decimals.proofs.Decimals.{digits-small, length-step, text-below, text-above}

-- a number below 10 ^ (k + 1) has at most k + 1 digits
digits-most : (k n : ℕ) → n < 10 ^ suc k → length (decimal_digits n) ≤ suc k
digits-most zero n h = omega (arith, ap length (digits-small n (omega arith)))
digits-most (suc k) n h =
    let g : n < 10 ^ suc k * 10 = rw pow-suc at h in
    elim (dec_le 10 n) [
      | yes p ↦ omega (arith, length-step n p, digits-most k (n / 10) (omega arith))
      | no p ↦ omega (arith, ap length (digits-small n (omega arith)))
    ]

-- a sign and 16 digits are the most
pub decimal-most : (w : ℕ) → w ≤ top → length (decimal_text (unbias w)) ≤ 17
decimal-most w h =
    elim (dec_lt w number_bound) [
      | yes p ↦ omega (arith, ap length (text-below w p), digits-most 15 (number_bound - w) (omega arith))
      | no p ↦ omega (arith, ap length (text-above w (omega arith)), digits-most 15 (w - number_bound) (omega arith))
    ]
