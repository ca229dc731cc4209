-- `fit_behind` meets its contract, by those of what it calls.
use mathlib.Core.Path.{ap, ◌∙◌}
use Prim.Native.Nat.{ℕ, ◌-◌}
use Rattle.front_places.specs.Shown.{COLUMNS, fitting}
use Rattle.front_places.proofs.shown.fit_behind.Goals as goal

pub returns : goal.returns
returns c =
    (c.fit.ensures.0 ∙ ap (λ (n : ℕ). fitting n c.args.behind.now) (c.saturating_sub.ensures ∙ ap (λ (n : ℕ). COLUMNS - n) c.columns.ensures.0), c.fit.ensures.1)
