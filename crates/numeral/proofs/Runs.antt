-- A digit is one of ten bytes.
use mathlib.Core.Path.{◌≡◌, refl}
use mathlib.Core.Bool.{Bool, true, false, cond, false≢true}
use Prim.Native.Nat.{ℕ, ◌≤◌}
use lib.Dec.{leb}
use borrow.Author.Tests.{leb-true}
use Rattle.numeral.specs.Form.{is_digit}

module _ (b : ℕ) where
  digit-by : (t : Bool) → leb 48 b ≡ t → cond t (leb b 57) false ≡ true → (48 ≤ b) × (b ≤ 57)
  digit-by true e h = (leb-true 48 b e, leb-true b 57 h)
  digit-by false e h = absurd (false≢true h)

  pub digit-range : is_digit b ≡ true → (48 ≤ b) × (b ≤ 57)
  digit-range h = digit-by (leb 48 b) refl h
