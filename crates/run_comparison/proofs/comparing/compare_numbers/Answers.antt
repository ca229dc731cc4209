-- `compare_numbers` meets its contract.
use Rattle.run_values.specs.Codes.{comparison_by}
use Rattle.run_values.proofs.Judging.{compare-left-stops, compare-right-stops, compare-gives}
use Rattle.run_values.proofs.Steps.{same-room, left-stops, left-slot}
use Rattle.run_comparison.proofs.comparing.compare_numbers.Goals as goal

pub returns-then-x-ne0 : goal.returns-then-x-ne0
returns-then-x-ne0 c =
    let if1 = c.if-x-ne0 in
    let a = c.args in
    λ v w j k hv hw.
    left-stops a.a _ _ (compare-left-stops (comparison_by a.code) v w a.x a.y j k hv hw if1.true)
    if1.true
    (same-room a.work.now)

pub returns-then-y-ne0 : goal.returns-then-y-ne0
returns-then-y-ne0 c =
    let if2 = c.if-y-ne0 in
    let a = c.args in
    λ v w j k hv hw.
    left-stops a.a _ _
    (compare-right-stops (comparison_by a.code) v w a.x a.y j k hv hw c.if-x-ne0.false
    if2.true) if2.true
    (same-room a.work.now)

pub returns : goal.returns
returns c =
    let number-order = c.number_order in
    let holds = c.holds in
    let if1 = c.if-x-ne0 in
    let if2 = c.if-y-ne0 in
    let pre = c.requires in
    let a = c.args in
    λ v w j k hv hw.
    left-slot a.a _ _
    (compare-gives (comparison_by a.code) v w a.x a.y j k hv hw _ _ number-order.ensures holds.ensures
    if1.false if2.false)
    pre.1 (same-room a.work.now) c.set_truth.ensures
