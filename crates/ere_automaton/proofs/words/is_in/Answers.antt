-- `is_in` meets its contract: `hit` tells of the places before i, and blocks from i on end with the last place.
use Rattle.std.proofs.Common.{refl, arith}
use Rattle.ere_automaton.proofs.Spelling.{looked-none, looked-more, looked-all}
use Rattle.ere_automaton.proofs.words.is_in.Goals as goal

pub bounds-d-23 : goal.bounds-d-23
bounds-d-23 c = omega (arith, c.requires.0)

pub overflow_sub-end : goal.overflow_sub-end
overflow_sub-end c = omega (arith, c.requires.2)

pub overflow_sub-end-2 : goal.overflow_sub-end-2
overflow_sub-end-2 c = omega (arith, c.requires.2)

pub overflow_add-step : goal.overflow_add-step
overflow_add-step c = omega (arith, c.requires.3)

pub overflow_add-step-2 : goal.overflow_add-step-2
overflow_add-step-2 c = omega arith

pub loop-i-init : goal.loop-i-init
loop-i-init c =
    let a = c.args in (
      looked-none a.d.now a.x.now a.last a.tests,
      omega arith,
      omega arith,
      omega arith,
      omega arith,
      λ h. absurd (omega arith),
    )

pub in_block-hit-requires : goal.in_block-hit-requires
in_block-hit-requires c = let p = c.requires in (p.0, p.1, omega (arith, p.2), refl)

pub overflow_add-i : goal.overflow_add-i
overflow_add-i c = let l = c.loop-i in omega (arith, l.invariant.2, c.requires.3)

pub loop-i-smaller : goal.loop-i-smaller
loop-i-smaller c = let l = c.loop-i in omega (arith, l.invariant.1, l.invariant.2)

pub loop-i-preserved : goal.loop-i-preserved
loop-i-preserved c =
    let a = c.args in
    let p = c.requires in
    let l = c.loop-i in
    let b = c.in_block-hit in (
      looked-more a.d.now a.x.now a.last a.tests l.i l.step l.hit b.result b.ensures
          (omega (arith, p.2)) l.invariant.2 l.invariant.0,
      omega arith,
      omega arith,
      omega (arith, l.invariant.2),
      omega (arith, l.invariant.2, l.invariant.4),
      λ h. refl,
    )

pub returns : goal.returns
returns c =
    let a = c.args in
    let l = c.loop-i in
    let z = l.invariant.5 (omega arith) in
    looked-all a.d.now a.x.now a.last a.tests l.i l.hit
    (omega (arith, l.invariant.3, l.invariant.4, c.requires.2)) l.invariant.0
