-- `get_field` meets its contract: what `load_field` says, and the machine after it.
use mathlib.Core.Path.{sym, ap, subst, ◌∙◌}
use Prim.Native.Nat.{◌<◌}
use Rattle.run_step.specs.declared.machine.Machine.{Machine}
use Rattle.run_step.specs.Machine.{advanced_unless}
use borrow.Author.Rules.{rules}
use Rattle.run_step.proofs.arms.get_field.Goals as goal

pub load_field-l-requires : goal.load_field-l-requires
load_field-l-requires c = rw c.kind_of-kind.ensures (search rules)

pub after-requires : goal.after-requires
after-requires c =
    let p = c.requires in
    subst (λ (q : Machine). q.at < 1024) (sym c.with_line-r.ensures) p.5

pub returns : goal.returns
returns c =
    let m = c.args.m in
    let l = c.load_field-l in
    let k = c.kind_of-kind in
    let w = c.with_line-r in (
      l.result,
      c.after.ensures ∙ ap (λ (q : Machine). advanced_unless q l.result.outcome m.depth)
          w.ensures,
      rw k.ensures at l.ensures,
    )
