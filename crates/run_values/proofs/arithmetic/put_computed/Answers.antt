-- `put_computed` meets its contract: a number, or the stop.
use mathlib.Core.Path.{sym, ap, subst, ◌∙◌}
use Prim.Native.Nat.{ℕ}
use Rattle.values.specs.Value.{stop, stops}
use Rattle.number.specs.Answers.{Bounded}
use Rattle.run_values.proofs.Computing.{answered, outcome-some}
use Rattle.run_values.proofs.Steps.{same-room, left-stops, left-slot}
use Rattle.run_values.proofs.arithmetic.put_computed.Goals as goal

pub set_number-requires : goal.set_number-requires
set_number-requires c =
    let p = c.requires in
    (p.0, p.1, subst Bounded c.in-Ok.is p.2)

pub returns-in-Ok : goal.returns-in-Ok
returns-in-Ok c =
    let pre = c.requires in
    let a = c.args in
    left-slot a.a _ _ (answered a.c _ c.in-Ok.is) pre.1 (same-room a.work.now)
    c.set_number.ensures

pub returns-in-Err : goal.returns-in-Err
returns-in-Err c =
    let a = c.args in
    left-stops a.a _ _
    (answered a.c _ c.in-Err.is ∙ ap (λ (n : ℕ). stops (stop n)) (sym c.outcome.ensures))
    (λ e. outcome-some _ (sym c.outcome.ensures ∙ e)) (same-room a.work.now)
