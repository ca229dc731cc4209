-- `unbiased`: the distance less the bound is the number.
use mathlib.Core.Path.{◌≡◌, ap, ◌∙◌}
use native.Mathlib.Omega.{arith}
use lib.IntN.{ℤ, pos, nat_abs, ◌-ℤ◌}
use mir.Syntax.{w64}
use mir.Val.{to_z, of_z}
use mir.ValLaws.{to_z-of_z, to_z_pos}
use Rattle.edition.specs.Limits.{number_bound}
use Rattle.number.specs.Range.{unbias}
use Rattle.number.proofs.Bias.{down_fits, down-range}
use Rattle.number.proofs.signed.unbiased.Goals as goal

pub returns : goal.returns
unfolding unbias
returns c =
    let e : to_z w64 (of_z w64 (to_z w64 c.args.w -ℤ pos number_bound)) ≡ unbias c.args.w =
    ap (λ (x : ℤ). to_z w64 (of_z w64 (x -ℤ pos number_bound))) (to_z_pos w64 c.args.w (omega arith)) ∙ to_z-of_z w64 _ (down_fits c.args.w c.requires) in
    (e, record { within = omega (arith, ap nat_abs e, down-range c.args.w c.requires) })
