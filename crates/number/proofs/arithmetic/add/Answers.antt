-- `add`: the machine's sum is the numbers', and far within 64 bits.
use mathlib.Core.Path.{◌≡◌, ap, ◌∙◌}
use lib.IntN.{◌+ℤ◌}
use mir.Syntax.{w64}
use mir.Val.{to_z, of_z}
use Rattle.number.specs.Range.{unbias, ranged}
use Rattle.number.specs.Arithmetic.{sum_of}
use Rattle.number.proofs.Integers.{handed}
use Rattle.number.proofs.arithmetic.add.Goals as goal
use Rattle.number.proofs.arithmetic.add.Goals.{After-sum}

total : (c : After-sum) → to_z w64 (of_z w64 c.sum.result) ≡ ◌+ℤ◌ (unbias c.args.a) (unbias c.args.b)
total c =
    handed ◌+ℤ◌ c.unbiased-x.type_inv c.unbiased-x.ensures.0 c.unbiased-y.type_inv c.unbiased-y.ensures.0
    c.sum.type_inv c.sum.ensures

pub returns : goal.returns
unfolding sum_of
returns c =
    record { answer = c.checked.ensures.answer ∙ ap ranged (total (goal.at.returns c).After-sum); bounded = c.checked.ensures.bounded }
