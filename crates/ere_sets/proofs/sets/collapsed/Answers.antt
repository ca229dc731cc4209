use Rattle.ere_automaton.specs.Sets.{collapsed}
use Rattle.ere_sets.proofs.sets.collapsed.Goals as goal

pub returns-then-has : goal.returns-then-has
unfolding collapsed
returns-then-has c = rw (← c.has.ensures, c.if-has.true)

pub returns : goal.returns
unfolding collapsed
returns c = rw (← c.has.ensures, c.if-has.false)
