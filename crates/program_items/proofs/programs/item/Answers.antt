use native.Mathlib.Omega.{arith}
use Rattle.semantics.specs.Moves.{begin as begin-section, main as main-section, end as end-section}
use Rattle.program_items.proofs.Items.{action-ready, item-begun, item-ended, item-main}
use Rattle.program_items.proofs.programs.item.Goals as goal

pub action-b-requires : goal.action-b-requires
action-b-requires c =
    let a = c.args in
    action-ready a.edition.number a.s.now a.p c.requires a.begin.now a.main.now a.end.now
    (λ z. omega (arith, c.if-kind-eq-BEGIN.true)) _
    c.token_after-u.ensures begin-section

pub returns-then-kind-eq-BEGIN : goal.returns-then-kind-eq-BEGIN
returns-then-kind-eq-BEGIN c =
    let a = c.args in
    item-begun a.edition.number a.s.now a.p c.requires a.begin.now a.main.now a.end.now
    (λ z. omega (arith, c.if-kind-eq-BEGIN.true)) _
    c.token_after-u.ensures _ _ c.if-kind-eq-BEGIN.true c.action-b.ensures

pub action-e-requires : goal.action-e-requires
action-e-requires c =
    let a = c.args in
    action-ready a.edition.number a.s.now a.p c.requires a.begin.now a.main.now a.end.now
    (λ z. omega (arith, c.if-kind-eq-END.true)) _
    c.token_after-v.ensures end-section

pub returns-then-kind-eq-END : goal.returns-then-kind-eq-END
returns-then-kind-eq-END c =
    let a = c.args in
    item-ended a.edition.number a.s.now a.p c.requires a.begin.now a.main.now a.end.now
    (λ z. omega (arith, c.if-kind-eq-END.true)) _
    c.token_after-v.ensures _ _ c.if-kind-eq-END.true c.action-e.ensures

pub main_item-r-requires : goal.main_item-r-requires
main_item-r-requires c =
    let h = c.requires in (
      record { good = h.good; known = h.known; small = h.small; count = h.counts main-section },
      c.if-kind-eq-BEGIN.false,
      c.if-kind-eq-END.false,
    )

pub returns : goal.returns
returns c =
    let a = c.args in
    item-main a.edition.number a.s.now a.p c.requires a.begin.now a.main.now a.end.now _ _ _
    c.main_item-r.ensures
