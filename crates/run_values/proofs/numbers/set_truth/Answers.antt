-- `set_truth` meets its contract: 1 or 0, as a distance.
use mathlib.Core.Path.{sym, ap, ◌∙◌}
use mathlib.Core.Logic.{⊎_elim}
use mathlib.Core.Bool.{cond}
use Prim.Native.Nat.{◌+◌}
use mathlib.Core.Bool.{Bool}
use native.Mathlib.Omega.{arith}
use Rattle.edition.specs.Limits.{number_bound}
use Rattle.run_room.proofs.Slotwise.{slotted-is}
use Rattle.run_values.proofs.Judging.{truth-word}
use Rattle.run_values.proofs.numbers.set_truth.Goals as goal

pub set_number-requires : goal.set_number-requires
set_number-requires c =
    let pre = c.requires in
    (pre.0, pre.1, ⊎_elim (λ w. omega (arith, w.n-is)) (λ w. omega (arith, w.n-is)) c.if-holds.branch-raw)

pub returns : goal.returns
returns c =
    let if1 = c.if-holds in
    let a = c.args in
    slotted-is a.work.now _ a.a _ _
    (truth-word a.holds _
    (⊎_elim (λ w. w.n-is ∙ ap (λ (b : Bool). number_bound + cond b 1 0) (sym w.if-holds.true))
    (λ w. w.n-is ∙ ap (λ (b : Bool). number_bound + cond b 1 0) (sym w.if-holds.false))
    if1.branch-raw))
    c.set_number.ensures
