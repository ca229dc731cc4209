-- `matches` meets its contract: the automaton is taken, or the shared table is prepared, and the operation goes by
-- them.
use mathlib.Core.Path.{ap, ◌∙◌}
use native.Mathlib.Omega.{arith}
use lib.ListN.{length}
use Rattle.run_automata.proofs.Filling.{pooled-ranged}
use Rattle.run_step.proofs.arms.matches.Goals as goal

pub automaton_of-automaton-requires : goal.automaton_of-automaton-requires
automaton_of-automaton-requires c =
    let l = c.requires.5 in
    l.3.bounded c.args.n (omega (arith, l.1.few, l.2))

pub matches-requires : goal.matches-requires
matches-requires c =
    let a = c.args in
    let l = c.requires.5 in
    let d = c.automaton_of-automaton in (
      omega arith,
      omega arith,
      λ long. rw d.ensures (pooled-ranged l.1 l.3 a.n l.2 (rw d.ensures at long)),
      c.prepare_table.ensures.0,
    )

pub returns : goal.returns
returns c =
    let d = c.automaton_of-automaton in
    let p = c.prepare_table in (
      p.result,
      c.on.ensures,
      λ none. p.ensures.1 (ap length d.ensures ∙ none),
      p.ensures.2,
      rw d.ensures at c.matches.ensures,
    )
