-- `multiply`: the machine's product is the numbers', and one that does not fit 64 bits is out of range.
use mathlib.Core.Path.{◌≡◌, sym, ap, ap₂, subst, ◌∙◌}
use lib.IntN.{ℤ, ◌*ℤ◌}
use mir.Syntax.{w64}
use mir.Val.{SFits, to_z, of_z}
use mir.ValLaws.{to_z-of_z}
use Rattle.number.specs.Range.{unbias, ranged}
use Rattle.number.specs.Arithmetic.{product_of}
use Rattle.number.proofs.Integers.{passed}
use Rattle.number.proofs.Bias.{ranged-wide}
use Rattle.number.proofs.arithmetic.multiply.Goals as goal
use Rattle.number.proofs.arithmetic.multiply.Goals.{After-unbiased-y, After-checked}

-- the factors, as they are passed on
factors : (c : After-unbiased-y) → to_z w64 (of_z w64 c.unbiased-x.result) *ℤ to_z w64 (of_z w64 c.unbiased-y.result)
    ≡ unbias c.args.a *ℤ unbias c.args.b
factors c = ap₂ ◌*ℤ◌ (passed c.unbiased-x.type_inv c.unbiased-x.ensures.0) (passed c.unbiased-y.type_inv c.unbiased-y.ensures.0)

-- the product that there is, as it is passed on
total : (c : After-checked) → to_z w64 (of_z w64 c.in-Some.z) ≡ unbias c.args.a *ℤ unbias c.args.b
total c =
    let e = c.in-Some.ensures in
    to_z-of_z w64 _ (subst (λ (z : ℤ). SFits w64 z) (sym e.1) e.0) ∙ e.1 ∙ factors (goal.at.returns-in-Some c).After-unbiased-y

pub returns-in-Some : goal.returns-in-Some
unfolding product_of
returns-in-Some c =
    record { answer = c.checked.ensures.answer ∙ ap ranged (total c); bounded = c.checked.ensures.bounded }

pub returns-in-None : goal.returns-in-None
unfolding product_of
returns-in-None c =
    let e = factors (goal.at.returns-in-None c).After-unbiased-y in
    record { answer = sym (ranged-wide _ (λ h. c.in-None.ensures (subst (λ (z : ℤ). SFits w64 z) (sym e) h))); bounded = tt }
