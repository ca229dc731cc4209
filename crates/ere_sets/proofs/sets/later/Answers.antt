use mathlib.Core.Path.{ap, ◌∙◌}
use native.Mathlib.Omega.{arith}
use borrow.Author.Tests.{ne_eqb}
use Rattle.ere_automaton.specs.Sets.{collapsed}
use Rattle.ere_sets.specs.Modes.{later_by}
use Rattle.ere_sets.proofs.sets.later.Goals as goal

pub returns-in-0 : goal.returns-in-0
unfolding later_by
returns-in-0 c = rw c.in-0.is (c.collapsed.ensures ∙ ap collapsed c.set_at-s.ensures)

pub returns-in-1 : goal.returns-in-1
unfolding later_by
returns-in-1 c = rw c.in-1.is c.set_at-s.ensures

pub returns-in_default : goal.returns-in_default
unfolding later_by
returns-in_default c = rw (ne_eqb c.args.mode 0 (omega arith), ne_eqb c.args.mode 1 (omega arith))
