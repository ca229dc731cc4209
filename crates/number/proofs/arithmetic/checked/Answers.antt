-- `checked`: by the range's test.
use mathlib.Core.Path.{◌≡◌, sym, ap, ◌∙◌}
use mir.Syntax.{w64}
use mir.ValLaws.{to_z-of_z}
use Rattle.number.specs.Range.{in_range, number}
use Rattle.number.proofs.Bias.{ranged-in, ranged-out}
use Rattle.number.proofs.arithmetic.checked.Goals as goal
use Rattle.number.proofs.arithmetic.checked.Goals.{After-in_range}

tested : (c : After-in_range) → c.in_range.result ≡ in_range c.args.z
tested c = c.in_range.ensures ∙ ap in_range (to_z-of_z w64 _ c.ranges.z)

pub returns-then-in_range : goal.returns-then-in_range
returns-then-in_range c =
    let f = c.ranges.z in
    record {
      answer = ap number (c.biased.ensures.0 ∙ to_z-of_z w64 _ f) ∙ sym (ranged-in _ (sym (tested (goal.at.returns-then-in_range c).After-in_range) ∙ c.if-in_range.true));
      bounded = c.biased.ensures.1;
    }

pub returns-else-in_range : goal.returns-else-in_range
returns-else-in_range c = record { answer = sym (ranged-out _ (sym (tested (goal.at.returns-else-in_range c).After-in_range) ∙ c.if-in_range.false)); bounded = tt }
