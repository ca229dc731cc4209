use mathlib.Core.Path.{refl}
use native.Mathlib.Omega.{arith}
use Rattle.semantics.specs.Moves.{begin as begin-section, main as main-section, end as end-section}
use Rattle.program_tokens.specs.Tokens.{token_at}
use Rattle.program_parser.proofs.Tokens.{good-at}
use Rattle.program_items.specs.Programs.{each}
use Rattle.program_simple.proofs.Answers.{token-ready}
use Rattle.program_items.proofs.Items.{each-section}
use Rattle.program_items.proofs.Whole.{program-start, counts-small, program-done, program-onward, program-failed, item-ready, passed-ready, program-nearer, program-more}
use Rattle.program_items.proofs.programs.read_program.Goals as goal

pub past_newlines-first-requires : goal.past_newlines-first-requires
past_newlines-first-requires c =
    let a = c.args in
    token-ready a.edition.number a.s.now _ (token_at a.edition.number a.s.now 0) 0 c.token_at.ensures
    (good-at a.edition.number a.s.now 0 (omega arith))

pub loop-edition-init : goal.loop-edition-init
loop-edition-init c =
    let a = c.args in (
      refl,
      refl,
      refl,
      program-start a.edition.number a.s.now (each a.begin.now a.main.now a.end.now) _ _ _
          c.token_at.ensures
          c.past_newlines-first.ensures refl (each-section _ refl refl refl),
    )

pub emit-b-requires : goal.emit-b-requires
emit-b-requires c =
    let a = c.args in
    omega (
      arith,
      counts-small a.edition.number a.s.now _ _ _ c.loop-edition.invariant.3 c.requires
          begin-section,
    )

pub emit-m-requires : goal.emit-m-requires
emit-m-requires c =
    let a = c.args in
    omega (arith, counts-small a.edition.number a.s.now _ _ _ c.loop-edition.invariant.3 c.requires main-section)

pub emit-e-requires : goal.emit-e-requires
emit-e-requires c =
    let a = c.args in
    omega (arith, counts-small a.edition.number a.s.now _ _ _ c.loop-edition.invariant.3 c.requires end-section)

pub returns-then-t-eq-TEXT_END : goal.returns-then-t-eq-TEXT_END
returns-then-t-eq-TEXT_END c =
    let a = c.args in
    program-done a.edition.number a.s.now _ _ _ c.loop-edition.invariant.3 _ _ c.if-t-eq-TEXT_END.true refl
    (each-section _ c.emit-b.ensures.0 c.emit-m.ensures.0 c.emit-e.ensures.0)
    (each-section _ c.emit-b.ensures.1 c.emit-m.ensures.1 c.emit-e.ensures.1)

pub item-q-requires : goal.item-q-requires
item-q-requires c =
    let a = c.args in
    program-onward a.edition.number a.s.now _ _ _ c.loop-edition.invariant.3 c.if-t-eq-TEXT_END.false c.requires

pub returns-then-q-ne0 : goal.returns-then-q-ne0
returns-then-q-ne0 c =
    let a = c.args in
    program-failed a.edition.number a.s.now _ _ _ c.loop-edition.invariant.3 c.if-t-eq-TEXT_END.false c.requires _ _
    c.item-q.ensures c.if-q-ne0.true

pub past-u-requires : goal.past-u-requires
past-u-requires c =
    let a = c.args in
    item-ready a.edition.number a.s.now _ _ _ c.loop-edition.invariant.3 c.if-t-eq-TEXT_END.false c.requires _ _
    c.item-q.ensures c.if-q-ne0.false

pub as_operand-next-requires : goal.as_operand-next-requires
as_operand-next-requires c =
    let a = c.args in
    passed-ready a.edition.number a.s.now _ _ _ c.loop-edition.invariant.3 c.if-t-eq-TEXT_END.false c.requires _ _
    c.item-q.ensures c.if-q-ne0.false _ c.past-u.ensures

pub loop-edition-smaller : goal.loop-edition-smaller
loop-edition-smaller c =
    let a = c.args in
    program-nearer a.edition.number a.s.now _ _ _ c.loop-edition.invariant.3 c.if-t-eq-TEXT_END.false c.requires _ _
    c.item-q.ensures c.if-q-ne0.false _ c.past-u.ensures _
    c.as_operand-next.ensures

pub loop-edition-preserved : goal.loop-edition-preserved
loop-edition-preserved c =
    let a = c.args in (
      omega (arith, c.item-q.auto.begin, c.loop-edition.invariant.0),
      omega (arith, c.item-q.auto.main, c.loop-edition.invariant.1),
      omega (arith, c.item-q.auto.end, c.loop-edition.invariant.2),
      program-more a.edition.number a.s.now _ _ _ c.loop-edition.invariant.3 c.if-t-eq-TEXT_END.false c.requires _ _
          c.item-q.ensures c.if-q-ne0.false _ c.past-u.ensures _
          c.as_operand-next.ensures _ refl (each-section _ refl refl refl),
    )
