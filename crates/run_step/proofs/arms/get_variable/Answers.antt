-- `get_variable` meets its contract: what the operation says, and the machine after it.
use mathlib.Core.Path.{sym, ap, subst, ◌∙◌}
use Prim.Native.Nat.{◌+◌, ◌<◌}
use Rattle.run_step.specs.declared.machine.Machine.{Machine}
use Rattle.run_step.specs.Machine.{advanced}
use borrow.Author.Rules.{rules}
use Rattle.run_step.proofs.arms.get_variable.Goals as goal

pub get_variable-line-requires : goal.get_variable-line-requires
get_variable-line-requires c = rw c.kind_of-kind.ensures (search rules)

pub on-requires : goal.on-requires
on-requires c =
    let p = c.requires in
    subst (λ (q : Machine). q.at < 1024) (sym c.with_line-r.ensures) p.6

pub returns : goal.returns
returns c =
    let m = c.args.m in
    let l = c.get_variable-line in
    let k = c.kind_of-kind in
    let w = c.with_line-r in (
      l.result,
      c.on.ensures ∙ ap (λ (q : Machine). advanced q (m.depth + 1)) w.ensures,
      rw k.ensures at l.ensures,
    )
