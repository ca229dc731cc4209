-- `exists` meets its contract: if the table is sealed, live is what may come next at i after the starts before i, and
-- no walk could stop before i.
use mathlib.Core.Bool.{true, false}
use mathlib.Core.Path.{refl, sym, ◌∙◌}
use native.Mathlib.Omega.{arith}
use borrow.Author.Count.{below_more}
use Rattle.ere_exists.proofs.Anywhere.{pending, ends, all-stop, turn}
use Rattle.ere_exists.proofs.Anywhere.{yes as stops-early}
use Rattle.ere_exists.proofs.Passing.{skip-within, skip-live, skip-stops}
use Rattle.ere_exists.proofs.any.exists.Goals as goal

pub loop-i-init : goal.loop-i-init
unfolding pending
loop-i-init c = (omega arith, c.may_be_empty-empty.ensures, (λ S. refl), λ k h. absurd (omega arith))

pub bounds-text-i : goal.bounds-text-i
bounds-text-i c = omega arith

pub overflow_add-i : goal.overflow_add-i
overflow_add-i c = omega arith

pub next_start-i-requires : goal.next_start-i-requires
next_start-i-requires c = (c.requires.0, omega arith)

pub loop-i-smaller-then-passed : goal.loop-i-smaller-then-passed
loop-i-smaller-then-passed c = omega (arith, c.next_start-i.ensures)

pub loop-i-preserved-then-passed : goal.loop-i-preserved-then-passed
loop-i-preserved-then-passed c =
    let a = c.args in
    let l = c.loop-i in
    let passes = sym c.passed.ensures ∙ c.if-passed.true in (
      skip-within a.t.now a.text.now c.may_be_empty-empty.result l.invariant.1 (λ k. (c.shared_slice_known-2-1.given k).fits) l.i _ l.live l.invariant.2
          passes c.next_start-i.ensures c.loop-i-test.true,
      l.invariant.1,
      skip-live a.t.now a.text.now c.may_be_empty-empty.result l.invariant.1 (λ k. (c.shared_slice_known-2-1.given k).fits) l.i _ l.live l.invariant.2
          passes c.next_start-i.ensures,
      skip-stops a.t.now a.text.now c.may_be_empty-empty.result l.invariant.1 (λ k. (c.shared_slice_known-2-1.given k).fits) l.i _ l.live l.invariant.2
          passes c.next_start-i.ensures l.invariant.3,
    )

pub stops-requires : goal.stops-requires
stops-requires c = tt

pub returns-then-stops : goal.returns-then-stops
returns-then-stops c =
    stops-early _ _ c.loop-i.i c.loop-i-test.true
    (λ S. all-stop _ _ _ _ (c.loop-i.invariant.2 S) _ c.with_entry-all.ensures false _ c.stops.ensures c.if-stops.true)

pub bounds-text-i-else-passed : goal.bounds-text-i-else-passed
bounds-text-i-else-passed c = omega arith

pub overflow_add-i-else-passed : goal.overflow_add-i-else-passed
overflow_add-i-else-passed c = omega arith

pub loop-i-smaller : goal.loop-i-smaller
loop-i-smaller c = omega arith

pub loop-i-preserved : goal.loop-i-preserved
loop-i-preserved c =
    let i = c.loop-i.invariant in (
      omega arith,
      i.1,
      (λ S. turn _ _ _ _ (i.2 S) _ c.with_entry-all.ensures _ c.step-next.ensures),
      below_more _ _ i.3 (λ S. all-stop _ _ _ _ (i.2 S) _ c.with_entry-all.ensures false _ c.stops.ensures c.if-stops.false),
    )

pub stops-requires-2 : goal.stops-requires-2
stops-requires-2 c = tt

pub returns : goal.returns
returns c =
    let i = c.loop-i.invariant in
    ends _ _ _ (omega arith) _ i.3 (λ S. sym (all-stop _ _ _ _ (i.2 S) _ c.with_entry-all-2.ensures true _ c.stops-2.ensures refl))
