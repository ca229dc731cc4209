-- `divide`: a divisor of 0 aside, the remainder tells whether there is a quotient.
use mathlib.Core.Path.{◌≡◌, sym, ap, ◌∙◌}
use native.Mathlib.Omega.{arith}
use lib.IntN.{nat_abs}
use lib.Signed.{rem_z, quot_z}
use mir.Syntax.{w64}
use mir.Val.{to_z, of_z}
use Rattle.number.specs.Range.{unbias, ranged}
use Rattle.number.proofs.Integers.{handed}
use Rattle.number.proofs.Bias.{zero_is, zero-not, range-passed, nonzero-passed}
use Rattle.number.proofs.Quotients.{quotient-zero, quotient-exact, quotient-inexact}
use Rattle.number.proofs.arithmetic.divide.Goals as goal
use Rattle.number.proofs.arithmetic.divide.Goals.{After-biased-m, After-quotient, After-rest}

left : (c : After-rest) → to_z w64 (of_z w64 c.rest.result) ≡ rem_z (unbias c.args.a) (unbias c.args.b)
left c =
    handed rem_z c.unbiased-x.type_inv c.unbiased-x.ensures.0 c.unbiased-y.type_inv c.unbiased-y.ensures.0 c.rest.type_inv c.rest.ensures

-- the remainder as it is tested
tested : (c : After-biased-m) → unbias c.biased-m.result ≡ rem_z (unbias c.args.a) (unbias c.args.b)
tested c = c.biased-m.ensures.0 ∙ left c.before

whole : (c : After-quotient) → to_z w64 (of_z w64 c.quotient.result) ≡ quot_z (unbias c.args.a) (unbias c.args.b)
whole c =
    handed quot_z c.unbiased-x.type_inv c.unbiased-x.ensures.0 c.unbiased-y.type_inv c.unbiased-y.ensures.0 c.quotient.type_inv c.quotient.ensures

pub returns-then-b-eq-ZERO : goal.returns-then-b-eq-ZERO
returns-then-b-eq-ZERO c = record { answer = sym (quotient-zero _ _ (zero_is _ c.if-b-eq-ZERO.true)); bounded = tt }

pub rest-requires : goal.rest-requires
rest-requires c =
    (range-passed c.unbiased-x.type_inv c.unbiased-x.ensures.0 (omega arith), nonzero-passed c.unbiased-y.type_inv c.unbiased-y.ensures.0 c.if-b-eq-ZERO.false)

pub quotient-requires : goal.quotient-requires
quotient-requires c =
    (range-passed c.unbiased-x.type_inv c.unbiased-x.ensures.0 (omega arith), nonzero-passed c.unbiased-y.type_inv c.unbiased-y.ensures.0 c.if-b-eq-ZERO.false)

pub returns-then-m-eq-ZERO : goal.returns-then-m-eq-ZERO
returns-then-m-eq-ZERO c =
    record {
      answer =
          c.checked.ensures.answer
          ∙ ap ranged (whole (goal.at.returns-then-m-eq-ZERO c).After-quotient)
          ∙ sym (quotient-exact _ _ (zero-not _ c.if-b-eq-ZERO.false) (ap nat_abs (sym (tested (goal.at.returns-then-m-eq-ZERO c).After-biased-m)) ∙ zero_is _ c.if-m-eq-ZERO.true));
      bounded = c.checked.ensures.bounded;
    }

pub returns : goal.returns
returns c =
    record {
      answer = sym (quotient-inexact _ _ (zero-not _ c.if-b-eq-ZERO.false) (λ e. zero-not _ c.if-m-eq-ZERO.false (ap nat_abs (tested (goal.at.returns c).After-biased-m) ∙ e)));
      bounded = tt;
    }
