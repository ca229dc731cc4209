-- `match_marked` meets its contract: the automata are taken, or the shared table is prepared, and the operation goes by
-- them.
use mathlib.Core.Path.{ap, ◌∙◌}
use Prim.Native.Nat.{◌+◌}
use native.Mathlib.Omega.{arith}
use lib.ListN.{length}
use Rattle.edition.specs.Limits.{ere_count}
use Rattle.run_automata.proofs.Filling.{pooled-sought}
use Rattle.run_step.proofs.arms.match_marked.Goals as goal

pub automaton_of-automata-requires : goal.automaton_of-automata-requires
automaton_of-automata-requires c =
    let l = c.requires.5 in
    l.3.bounded (ere_count + c.args.n) (omega (arith, l.1.few, l.2))

pub match_marked-requires : goal.match_marked-requires
match_marked-requires c =
    let a = c.args in
    let l = c.requires.5 in
    let d = c.automaton_of-automata in (
      omega arith,
      omega arith,
      λ long. rw d.ensures (pooled-sought l.1 l.3 a.n l.2 (rw d.ensures at long)),
      c.prepare_table.ensures.0,
    )

pub returns : goal.returns
returns c =
    let d = c.automaton_of-automata in
    let p = c.prepare_table in (
      p.result,
      c.on.ensures,
      λ none. p.ensures.1 (ap length d.ensures ∙ none),
      p.ensures.2,
      rw d.ensures at c.match_marked.ensures,
    )
