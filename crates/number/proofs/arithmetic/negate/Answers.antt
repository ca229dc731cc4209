-- `negate`: a number's negation is in range.
use mathlib.Core.Path.{◌≡◌, ap, ◌∙◌}
use lib.IntN.{neg_ℤ}
use mir.Syntax.{w64}
use mir.Val.{to_z, of_z}
use Rattle.number.specs.Range.{unbias, ranged}
use Rattle.number.specs.Arithmetic.{negation_of}
use Rattle.number.proofs.Integers.{passed}
use Rattle.number.proofs.arithmetic.negate.Goals as goal
use Rattle.number.proofs.arithmetic.negate.Goals.{After-negated}

negation : (c : After-negated) → to_z w64 (of_z w64 c.negated.result) ≡ neg_ℤ (unbias c.args.a)
negation c = passed c.negated.type_inv (c.negated.ensures ∙ ap neg_ℤ (passed c.unbiased.type_inv c.unbiased.ensures.0))

pub returns : goal.returns
unfolding negation_of
returns c =
    record { answer = c.checked.ensures.answer ∙ ap ranged (negation (goal.at.returns c).After-negated); bounded = c.checked.ensures.bounded }
