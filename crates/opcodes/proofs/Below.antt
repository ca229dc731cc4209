-- Which codes there are.
use mathlib.Core.Path.{◌≡◌, refl, ap}
use mathlib.Core.Bool.{Bool, true, false}
use Prim.Native.Nat.{ℕ}
use lib.Dec.{ltb}
use borrow.Author.Tests.{ltb-true, ltb-false}
use Rattle.image_format.specs.Codes.{code_count, code_of}
use Rattle.image_format.proofs.Codes.{code_here, code-none}
use Rattle.opcodes.specs.Rows.{is_known}

pub known-below : (edition code : ℕ) → is_known (code_of edition code) ≡ ltb code (code_count edition)
known-below edition code = by (ltb code (code_count edition)) refl
  where
    by : (b : Bool) → ltb code (code_count edition) ≡ b → is_known (code_of edition code) ≡ b
    by true e = ap is_known (code_here edition code (ltb-true code (code_count edition) e)).1
    by false e = ap is_known (code-none edition code (ltb-false code (code_count edition) e))
