-- `subtract`: the machine's difference is the numbers', and far within 64 bits.
use mathlib.Core.Path.{◌≡◌, ap, ◌∙◌}
use lib.IntN.{◌-ℤ◌}
use mir.Syntax.{w64}
use mir.Val.{to_z, of_z}
use Rattle.number.specs.Range.{unbias, ranged}
use Rattle.number.specs.Arithmetic.{difference_of}
use Rattle.number.proofs.Integers.{handed}
use Rattle.number.proofs.arithmetic.subtract.Goals as goal
use Rattle.number.proofs.arithmetic.subtract.Goals.{After-difference}

total : (c : After-difference) → to_z w64 (of_z w64 c.difference.result) ≡ ◌-ℤ◌ (unbias c.args.a) (unbias c.args.b)
total c =
    handed ◌-ℤ◌ c.unbiased-x.type_inv c.unbiased-x.ensures.0 c.unbiased-y.type_inv c.unbiased-y.ensures.0
    c.difference.type_inv c.difference.ensures

pub returns : goal.returns
unfolding difference_of
returns c =
    record { answer = c.checked.ensures.answer ∙ ap ranged (total (goal.at.returns c).After-difference); bounded = c.checked.ensures.bounded }
