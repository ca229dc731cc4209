use Prim.Native.Nat.{ℕ}
use mathlib.Core.List.{List}
use Rattle.ere_table.specs.Table.{join}
use Rattle.ere_search.specs.Walk.{step}
use Rattle.ere_automaton.specs.Follows.{pending_after}
use mathlib.Core.Path.{ap, ◌∙◌}
use Rattle.ere_automaton.specs.Sets.{collapsed}
use Rattle.ere_sets.proofs.sets.pending_after.Goals as goal

pub returns-then-has : goal.returns-then-has
unfolding pending_after
returns-then-has c = rw (← c.has.ensures, c.if-has.true)

pub returns : goal.returns
unfolding pending_after
returns c =
    let a = c.args in
    rw (← c.has.ensures, c.if-has.false)
    (c.collapsed.ensures
    ∙ ap collapsed (c.step.ensures ∙ ap (λ (u : List ℕ). step a.t.now u a.b) (c.union-x.ensures ∙ ap (join a.s) c.set_at.ensures)))
