-- Internal: cited by private contracts only. The operator of a code that has one, by its number; of another code, any.
use Rattle.std.specs.Prelude.{cond, ℕ, eqb}
use Rattle.image_format.specs.Codes.{Arithmetic, add, subtract, multiply, divide, remainder}
use Rattle.image_format.specs.Codes.{Comparison, less, at-most, equal, different, greater, at-least}

unfoldable pub arithmetic_by : ℕ → Arithmetic
arithmetic_by code =
    cond (eqb code 7) add
    (cond (eqb code 8) subtract (cond (eqb code 9) multiply (cond (eqb code 10) divide remainder)))

unfoldable pub comparison_by : ℕ → Comparison
comparison_by code =
    cond (eqb code 15) less
    (cond (eqb code 16) at-most
    (cond (eqb code 17) equal (cond (eqb code 18) different (cond (eqb code 19) greater at-least))))
