use mathlib.Core.Path.{ap, ap₂, ◌∙◌}
use Rattle.ere_automaton.specs.Sets.{collapsed, after}
use Rattle.ere_table.specs.Table.{join}
use Rattle.ere_sets.proofs.sets.after.Goals as goal

pub returns-then-has : goal.returns-then-has
unfolding after
returns-then-has c = rw (← c.has.ensures, c.if-has.true)

pub returns : goal.returns
unfolding after
returns c = rw (← c.has.ensures, c.if-has.false) (c.collapsed.ensures ∙ ap collapsed (c.union-y.ensures ∙ ap₂ join c.step-x.ensures c.set_at.ensures))
