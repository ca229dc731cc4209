-- `jump_if_false` meets its contract, by the truth.
use mathlib.Core.Path.{sym, ap, ◌∙◌}
use Prim.Native.Nat.{◌-◌}
use Rattle.run_step.specs.declared.machine.Machine.{Machine}
use Rattle.run_step.specs.Machine.{gone_to}
use Rattle.run_step.proofs.Advance.{truth_stops, truth-holds, truth-fails}
use Rattle.run_step.proofs.arms.jump_if_false.Goals as goal

pub returns-then-b-ne0 : goal.returns-then-b-ne0
returns-then-b-ne0 c =
    let a = c.args in
    let t = c.is_true-b in
    let d = a.m.depth - 1 in (
      t.result,
      c.stop.ensures ∙ sym (truth_stops a.m t.result.stop t.result.holds a.t d
          c.if-b-ne0.true),
      t.ensures,
    )

pub returns-then-not-b : goal.returns-then-not-b
returns-then-not-b c =
    let a = c.args in
    let t = c.is_true-b in
    let d = a.m.depth - 1 in
    let e = truth-fails a.m t.result.stop t.result.holds a.t d c.if-b-ne0.false
    c.if-not-b.true in
    (t.result, ap (λ (q : Machine). gone_to q a.t) c.on-r.ensures ∙ sym e, t.ensures)

pub returns-else-not-b : goal.returns-else-not-b
returns-else-not-b c =
    let a = c.args in
    let t = c.is_true-b in
    let d = a.m.depth - 1 in
    let e = truth-holds a.m t.result.stop t.result.holds a.t d c.if-b-ne0.false
    c.if-not-b.false in
    (t.result, c.on-r.ensures ∙ sym e, t.ensures)
