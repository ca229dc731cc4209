use mathlib.Core.Path.{refl}
use native.Mathlib.Omega.{arith}
use Rattle.program_simple.proofs.Printing.{list-start, list-failed, list-small, list_done, list-passing, list-nearer, list-more}
use Rattle.program_simple.proofs.simple.print_list.Goals as goal

pub loop-edition-init : goal.loop-edition-init
loop-edition-init c =
    let a = c.args in (
      refl,
      list-start a.edition.number a.s.now a.levels a.n a.u a.section.now
          c.requires.0,
    )

pub tier-r-requires : goal.tier-r-requires
tier-r-requires c =
    let p = c.loop-edition.invariant.1 in (
      p.ready,
      omega (arith, p.few, p.ready.small, p.ready.good.ordered, p.ready.good.within, c.requires.1),
      omega arith,
    )

pub returns-then-r-ne0 : goal.returns-then-r-ne0
returns-then-r-ne0 c =
    let a = c.args in
    list-failed a.edition.number a.s.now a.levels a.n a.u a.section.now _ _ _ _
    c.loop-edition.invariant.1 _ _ c.tier-r.ensures c.if-r-ne0.true

pub overflow_add-d : goal.overflow_add-d
overflow_add-d c =
    let a = c.args in
    omega (
      arith,
      list-small a.edition.number a.s.now a.levels a.n a.u a.section.now _ _ _ _
          c.loop-edition.invariant.1 _ _ c.tier-r.ensures
          c.if-r-ne0.false,
    )

pub emit-end-requires : goal.emit-end-requires
emit-end-requires c =
    let a = c.args in
    omega (
      arith,
      list-small a.edition.number a.s.now a.levels a.n a.u a.section.now _ _ _ _
          c.loop-edition.invariant.1 _ _ c.tier-r.ensures
          c.if-r-ne0.false,
    )

pub returns-then-t-ne-COMMA : goal.returns-then-t-ne-COMMA
returns-then-t-ne-COMMA c =
    let a = c.args in
    list_done a.edition.number a.s.now a.levels a.n a.u a.section.now _ _ _ _
    c.loop-edition.invariant.1 _ _ c.tier-r.ensures c.if-r-ne0.false
    _ _ _ _ c.if-t-ne-COMMA.true refl c.emit-end.ensures.0 c.emit-end.ensures.1 c.ok.ensures

pub past_newlines-first-requires : goal.past_newlines-first-requires
past_newlines-first-requires c =
    let a = c.args in
    list-passing a.edition.number a.s.now a.levels a.n a.u a.section.now _ _ _ _
    c.loop-edition.invariant.1 _ _ c.tier-r.ensures c.if-r-ne0.false
    c.if-t-ne-COMMA.false _ _ c.token_after.ensures refl

pub loop-edition-smaller : goal.loop-edition-smaller
loop-edition-smaller c =
    let a = c.args in
    list-nearer a.edition.number a.s.now a.levels a.n a.u a.section.now _ _ _ _
    c.loop-edition.invariant.1 _ _ c.tier-r.ensures c.if-r-ne0.false
    c.if-t-ne-COMMA.false _ _ c.token_after.ensures c.past_newlines-first.ensures

pub loop-edition-preserved : goal.loop-edition-preserved
loop-edition-preserved c =
    let a = c.args in (
      omega (arith, c.loop-edition.invariant.0, c.tier-r.auto.section),
      list-more a.edition.number a.s.now a.levels a.n a.u a.section.now _ _ _ _
          c.loop-edition.invariant.1 _ _ c.tier-r.ensures c.if-r-ne0.false
          c.if-t-ne-COMMA.false _ _ c.token_after.ensures c.past_newlines-first.ensures,
    )
