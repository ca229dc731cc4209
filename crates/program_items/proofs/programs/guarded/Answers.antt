use mathlib.Core.Path.{sym, ap, ◌∙◌}
use mathlib.Core.Bool.{Bool, ◌||◌}
use native.Mathlib.Omega.{arith}
use lib.Dec.{eqb}
use Rattle.program_items.proofs.Patterns.{pattern-failed, pattern-ready, pattern-small, pattern-printed, pattern-unread, action-small, pattern-read}
use Rattle.program_items.proofs.programs.guarded.Goals as goal

pub returns-then-e-ne0 : goal.returns-then-e-ne0
returns-then-e-ne0 c =
    let a = c.args in
    pattern-failed a.edition.number a.s.now a.t a.n a.section.now c.requires _ _
    c.tier-e.ensures c.if-e-ne0.true

pub is_ender-requires : goal.is_ender-requires
is_ender-requires c =
    let a = c.args in
    (pattern-ready a.edition.number a.s.now a.t a.n a.section.now c.requires _ _
    c.tier-e.ensures c.if-e-ne0.false).known

pub overflow_add-j : goal.overflow_add-j
overflow_add-j c =
    let a = c.args in
    omega (
      arith,
      pattern-small a.edition.number a.s.now a.t a.n a.section.now c.requires _ _
          c.tier-e.ensures c.if-e-ne0.false,
    )

pub emit_print-count-requires : goal.emit_print-count-requires
emit_print-count-requires c =
    let a = c.args in
    omega (
      arith,
      pattern-small a.edition.number a.s.now a.t a.n a.section.now c.requires _ _
          c.tier-e.ensures c.if-e-ne0.false,
    )

pub emit-requires : goal.emit-requires
emit-requires c =
    let a = c.args in
    omega (
      arith,
      pattern-small a.edition.number a.s.now a.t a.n a.section.now c.requires _ _
          c.tier-e.ensures c.if-e-ne0.false,
      c.emit_print-count.ensures.0,
    )

pub returns-then-is_ender-kind : goal.returns-then-is_ender-kind
returns-then-is_ender-kind c =
    let a = c.args in
    pattern-printed a.edition.number a.s.now a.t a.n a.section.now c.requires _ _
    c.tier-e.ensures c.if-e-ne0.false _ _ _ _
    (ap (λ (x : Bool). x || eqb c.tier-e.result.token.kind 0) (sym c.is_ender.ensures)
    ∙ c.if-is_ender-kind.true) c.emit_print-count.ensures.0
    c.emit_print-count.ensures.1 c.emit.ensures.1 c.ok.ensures

pub overflow_add-j-2 : goal.overflow_add-j-2
overflow_add-j-2 c =
    let a = c.args in
    omega (
      arith,
      pattern-small a.edition.number a.s.now a.t a.n a.section.now c.requires _ _
          c.tier-e.ensures c.if-e-ne0.false,
    )

pub action-r-requires : goal.action-r-requires
action-r-requires c =
    let a = c.args in
    pattern-ready a.edition.number a.s.now a.t a.n a.section.now c.requires _ _
    c.tier-e.ensures c.if-e-ne0.false

pub returns-then-r-ne0 : goal.returns-then-r-ne0
returns-then-r-ne0 c =
    let a = c.args in
    pattern-unread a.edition.number a.s.now a.t a.n a.section.now c.requires _ _
    c.tier-e.ensures c.if-e-ne0.false
    (ap (λ (x : Bool). x || eqb c.tier-e.result.token.kind 0) (sym c.is_ender.ensures)
    ∙ c.if-is_ender-kind.false) _ _ c.action-r.ensures c.if-r-ne0.true

pub emit-requires-2 : goal.emit-requires-2
emit-requires-2 c =
    let a = c.args in
    let c0 = pattern-small a.edition.number a.s.now a.t a.n a.section.now c.requires _ _
    c.tier-e.ensures c.if-e-ne0.false in
    let r0 = action-small a.edition.number a.s.now a.t a.n a.section.now c.requires _ _
    c.tier-e.ensures c.if-e-ne0.false
    (ap (λ (x : Bool). x || eqb c.tier-e.result.token.kind 0) (sym c.is_ender.ensures)
    ∙ c.if-is_ender-kind.false) _ _ c.action-r.ensures c.if-r-ne0.false in
    omega (arith, c0, r0)

pub returns : goal.returns
returns c =
    let a = c.args in
    pattern-read a.edition.number a.s.now a.t a.n a.section.now c.requires _ _
    c.tier-e.ensures c.if-e-ne0.false
    (ap (λ (x : Bool). x || eqb c.tier-e.result.token.kind 0) (sym c.is_ender.ensures)
    ∙ c.if-is_ender-kind.false) _ _ c.action-r.ensures c.if-r-ne0.false _
    c.emit-2.ensures.1
