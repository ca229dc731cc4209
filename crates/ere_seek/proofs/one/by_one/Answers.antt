-- `by_one` meets its contract: the start is followed up to l.
use mathlib.Core.Path.{◌≡◌, refl}
use Prim.Native.Nat.{ℕ, ◌+◌, ◌<◌}
use native.Mathlib.Nat.{le_refl}
use native.Mathlib.Omega.{arith}
use lib.ListN.{length, get_or}
use lib.Dec.{eqb}
use Rattle.ere_seek.proofs.Following.{at_next, bounds-next, ready-stepped, means-stepped, means-dead, means-end}
use Rattle.ere_seek.proofs.Following.{followed}
use Rattle.ere_seek.proofs.one.by_one.Goals as goal

pub bounds-d-3 : goal.bounds-d-3
bounds-d-3 c = omega (arith, c.requires.0.ranged.head)

pub overflow_cast-dead : goal.overflow_cast-dead
overflow_cast-dead c = omega (arith, c.shared_slice_known-3-1.given 3)

pub loop-l-init : goal.loop-l-init
loop-l-init c =
    let p = c.requires in (
      p.0,
      record { on = p.1; inside = p.2; from = le_refl _; to = p.1 },
      le_refl _,
      λ s first h M. M,
    )

pub one_more-l-requires : goal.one_more-l-requires
one_more-l-requires c = (c.loop-l.invariant.0, c.loop-l-test.true)

pub returns-then-l-dead : goal.returns-then-l-dead
returns-then-l-dead c =
    let a = c.args in
    let l = c.loop-l in
    let r = c.one_more-l in
    let bytes : (n : ℕ) → get_or a.x.now n 0 < 256 = λ n. (c.shared_slice_known-2-1.given n).fits in
    let h = c.loop-l-test.true in
    let i = l.invariant in
    let d = a.d.now in
    let x = a.x.now in
    let f = eqb (l.l.at + 1) (length x) in
    let B = bounds-next d x f l.l r.result r.ensures a.from.best i.1 h in
    let z = at_next d x f l.l r.result r.ensures in
    followed d x a.from r.result B
    (λ s first until g M.
    means-dead d x bytes s first r.result until c.if-l-dead.true (omega (arith, i.2)) B.inside
    (means-stepped d x f l.l r.result r.ensures bytes s first i.0.state (omega (arith, i.2)) refl
    (i.3 s first g M)))

pub loop-l-smaller : goal.loop-l-smaller
loop-l-smaller c =
    let a = c.args in
    let l = c.loop-l in
    let r = c.one_more-l in
    let f = eqb (l.l.at + 1) (length a.x.now) in
    let z = at_next a.d.now a.x.now f l.l r.result r.ensures in
    let h = c.loop-l-test.true in
    omega arith

pub loop-l-preserved : goal.loop-l-preserved
loop-l-preserved c =
    let a = c.args in
    let l = c.loop-l in
    let r = c.one_more-l in
    let bytes : (n : ℕ) → get_or a.x.now n 0 < 256 = λ n. (c.shared_slice_known-2-1.given n).fits in
    let h = c.loop-l-test.true in
    let i = l.invariant in
    let d = a.d.now in
    let x = a.x.now in
    let f = eqb (l.l.at + 1) (length x) in
    let z = at_next d x f l.l r.result r.ensures in (
      ready-stepped d x f l.l r.result r.ensures bytes a.k i.0,
      bounds-next d x f l.l r.result r.ensures a.from.best i.1 h,
      omega (arith, i.2),
      λ s first g M.
          means-stepped d x f l.l r.result r.ensures bytes s first i.0.state (omega (arith, i.2)) refl
          (i.3 s first g M),
    )

pub returns : goal.returns
returns c =
    let a = c.args in
    let l = c.loop-l in
    let bytes : (n : ℕ) → get_or a.x.now n 0 < 256 = λ n. (c.shared_slice_known-2-1.given n).fits in
    let i = l.invariant in
    let z : l.l.at ≡ length a.x.now = omega (arith, c.loop-l-test.false, i.1.inside) in
    followed a.d.now a.x.now a.from l.l i.1
    (λ s first until g M. means-end a.d.now a.x.now bytes s first l.l until z (i.3 s first g M))
