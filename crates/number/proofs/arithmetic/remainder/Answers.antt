-- `remainder`: a divisor of 0 aside, the machine's remainder is the numbers'.
use mathlib.Core.Path.{◌≡◌, sym, ap, ◌∙◌}
use native.Mathlib.Omega.{arith}
use lib.Signed.{rem_z}
use mir.Syntax.{w64}
use mir.Val.{to_z, of_z}
use Rattle.number.specs.Range.{unbias, ranged}
use Rattle.number.proofs.Integers.{handed}
use Rattle.number.proofs.Bias.{zero_is, zero-not, range-passed, nonzero-passed}
use Rattle.number.proofs.Quotients.{remainder-zero, remainder-some}
use Rattle.number.proofs.arithmetic.remainder.Goals as goal
use Rattle.number.proofs.arithmetic.remainder.Goals.{After-rest}

left : (c : After-rest) → to_z w64 (of_z w64 c.rest.result) ≡ rem_z (unbias c.args.a) (unbias c.args.b)
left c =
    handed rem_z c.unbiased-x.type_inv c.unbiased-x.ensures.0 c.unbiased-y.type_inv c.unbiased-y.ensures.0 c.rest.type_inv c.rest.ensures

pub returns-then-b-eq-ZERO : goal.returns-then-b-eq-ZERO
returns-then-b-eq-ZERO c = record { answer = sym (remainder-zero _ _ (zero_is _ c.if-b-eq-ZERO.true)); bounded = tt }

pub rest-requires : goal.rest-requires
rest-requires c =
    (range-passed c.unbiased-x.type_inv c.unbiased-x.ensures.0 (omega arith), nonzero-passed c.unbiased-y.type_inv c.unbiased-y.ensures.0 c.if-b-eq-ZERO.false)

pub returns : goal.returns
returns c =
    record {
      answer = c.checked.ensures.answer ∙ ap ranged (left (goal.at.returns c).After-rest) ∙ sym (remainder-some _ _ (zero-not _ c.if-b-eq-ZERO.false));
      bounded = c.checked.ensures.bounded;
    }
