-- `ends` meets its contract: both accept bits.
use mathlib.Core.Path.{sym, ◌∙◌}
use Rattle.lists.proofs.Tests.{and-true}
use Rattle.ere_shapes.proofs.Ranges.{both_bits}
use Rattle.ere_shapes.proofs.word.ends.Goals as goal

pub returns : goal.returns
returns c h =
    let y = and-true _ _ h in
    both_bits c.args.s (sym c.has.ensures ∙ y.0) (sym c.has-2.ensures ∙ y.1)
