-- `kind_of` meets its contract: by the sets at the text's start and elsewhere.
use mathlib.Core.Path.{refl, sym, ◌∙◌}
use mathlib.Core.Logic.{inr}
use Rattle.ere_shapes.proofs.word.kind_of.Goals as goal

pub returns-then-is_empty : goal.returns-then-is_empty
returns-then-is_empty c = record { is = inr (refl, sym c.set_at-3.ensures ∙ c.is_empty.ensures c.if-is_empty.true) }
