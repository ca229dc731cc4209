-- `biased`: what the machine holds is the distance.
use mathlib.Core.Path.{◌≡◌, sym, subst, ◌∙◌}
use Prim.Native.Nat.{◌≤◌}
use native.Mathlib.Omega.{arith}
use lib.IntN.{ℤ, pos, nat_abs, ◌+ℤ◌}
use mir.Syntax.{w64}
use mir.Val.{SFits, to_z, of_z}
use Rattle.edition.specs.Limits.{number_bound}
use Rattle.number.specs.Range.{unbias, top}
use Rattle.number.proofs.Integers.{back1, abs-fits}
use Rattle.number.proofs.Bias.{up, up-eq, up-down, up_top}
use Rattle.number.proofs.signed.biased.Goals as goal
use Rattle.number.proofs.signed.biased.Goals.{Start}

lifted-fits : (c : Start) → SFits w64 (c.args.z +ℤ pos number_bound)
lifted-fits c =
    subst (λ (x : ℤ). SFits w64 x) (sym (up-eq c.args.z c.requires.within))
    (abs-fits (pos (up c.args.z)) (omega (arith, up_top c.args.z c.requires.within)))

lifted : (c : Start) → to_z w64 (of_z w64 (to_z w64 (of_z w64 c.args.z) +ℤ pos number_bound)) ≡ pos (up c.args.z)
lifted c = back1 c.ranges.z (λ x. x +ℤ pos number_bound) (lifted-fits c) ∙ up-eq c.args.z c.requires.within

pub returns : goal.returns
returns c =
    subst (λ (x : ℤ). (unbias (nat_abs x) ≡ c.args.z) × (nat_abs x ≤ top)) (sym (lifted c))
    (up-down c.args.z c.requires.within, up_top c.args.z c.requires.within)
