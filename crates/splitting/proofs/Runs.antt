-- A byte is in a set or is not.
use mathlib.Core.Path.{◌≡◌, ap}
use mathlib.Core.Bool.{true, false, not}
use mathlib.Core.List.{List}
use Prim.Native.Nat.{ℕ}
use Rattle.splitting.specs.Field.{is_in}

pub not_in : (set : List ℕ) (b : ℕ) → is_in true set b ≡ false → is_in false set b ≡ true
not_in set b h = ap not h
