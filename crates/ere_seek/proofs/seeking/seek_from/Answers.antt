-- `seek_from` meets its contract: no start from `from` to s has a match.
use mathlib.Core.Path.{refl}
use mathlib.Core.Logic.{⊎_elim}
use Prim.Native.Nat.{◌+◌}
use native.Mathlib.Nat.{le_refl}
use native.Mathlib.Omega.{arith}
use lib.ListN.{length}
use lib.Dec.{eqb}
use Rattle.ere_seek.proofs.Bareness.{bare-end}
use Rattle.ere_seek.proofs.Leftmost.{found_from, none_from, bares-one, bares-to, longest-none}
use Rattle.ere_seek.proofs.seeking.seek_from.Goals as goal

pub loop-s-init : goal.loop-s-init
loop-s-init c = (c.requires.2, λ t D H b. b)

pub overflow_add-at : goal.overflow_add-at
overflow_add-at c = omega arith

pub candidate-s-requires : goal.candidate-s-requires
candidate-s-requires c = (c.requires.0, omega arith, omega arith)

pub overflow_add-at-then-s-x : goal.overflow_add-at-then-s-x
overflow_add-at-then-s-x c = omega arith

pub longest-e-requires : goal.longest-e-requires
longest-e-requires c = (c.requires.0, omega arith, omega arith)

pub overflow_add-result : goal.overflow_add-result
overflow_add-result c = omega arith

pub overflow_sub-result : goal.overflow_sub-result
overflow_sub-result c = omega arith

pub returns-then-s-e : goal.returns-then-s-e
returns-then-s-e c =
    let a = c.args in
    let d = a.d.now in
    let x = a.x.now in
    let l = c.loop-s in
    let s = c.candidate-s.result in
    found_from d x a.at a.from s (length x) c.longest-e.result
    c.candidate-s.ensures.inside c.if-s-e.true
    c.longest-e.ensures
    (λ t D H b. bares-to t d x a.at l.s s D H (l.invariant.1 t D H b) c.candidate-s.ensures)

pub overflow_add-s : goal.overflow_add-s
overflow_add-s c = omega (arith, c.candidate-s.ensures.inside)

pub loop-s-smaller : goal.loop-s-smaller
loop-s-smaller c =
    let l = c.loop-s in
    let s = c.candidate-s.ensures in
    omega (arith, s.on, s.inside, c.loop-s-test.true)

pub loop-s-preserved : goal.loop-s-preserved
loop-s-preserved c =
    let a = c.args in
    let d = a.d.now in
    let x = a.x.now in
    let l = c.loop-s in
    let s = c.candidate-s.result in (
      omega (arith, c.candidate-s.ensures.inside),
      λ t D H b.
          bares-one t x a.at s
          (bares-to t d x a.at l.s s D H (l.invariant.1 t D H b) c.candidate-s.ensures)
          (⊎_elim
          (λ w.
          longest-none t d x a.at s (eqb (a.at + s) 0) D refl (length x) w.longest-e.result w.longest-e.ensures
          (le_refl (length x)) w.if-s-e.false)
          (λ w. bare-end t x a.at s w.if-s-x.false)
          c.if-s-x.branch-raw),
    )

pub returns : goal.returns
returns c =
    let a = c.args in
    let l = c.loop-s in
    none_from a.d.now a.x.now a.at a.from l.s c.loop-s-test.false l.invariant.1
