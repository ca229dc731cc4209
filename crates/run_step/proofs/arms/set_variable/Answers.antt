-- `set_variable` meets its contract: what the operation says, and the machine after it.
use mathlib.Core.Path.{sym, ap, subst, ◌∙◌}
use Prim.Native.Nat.{◌<◌}
use Rattle.run_step.specs.declared.machine.Machine.{Machine}
use Rattle.run_step.specs.Machine.{advanced}
use Rattle.run_step.proofs.arms.set_variable.Goals as goal

pub on-requires : goal.on-requires
on-requires c =
    let p = c.requires in
    subst (λ (q : Machine). q.at < 1024) (sym c.with_separator-r.ensures) p.6

pub returns : goal.returns
returns c =
    let l = c.set_variable-s in
    let m = c.args.m in
    let n = c.word_of-separator in
    let w = c.with_separator-r in (
      l.result.line,
      n.result,
      c.on.ensures ∙ ap (λ (q : Machine). advanced q m.depth) w.ensures,
      rw n.ensures (rw c.kind_of-kind.ensures at l.ensures),
    )
