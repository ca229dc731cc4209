-- `by_two` meets its contract: the start is followed up to l.
use mathlib.Core.Path.{refl}
use Prim.Native.Nat.{ℕ, ◌<◌}
use native.Mathlib.Nat.{le_refl}
use native.Mathlib.Omega.{arith}
use lib.ListN.{get_or}
use borrow.Author.Tests.{leb-true}
use Rattle.lists.proofs.Tests.{and-true}
use Rattle.ere_seek.proofs.Following.{at-two, bounds-two, ready-two, means-two, paired-goes, paired-up}
use Rattle.ere_seek.proofs.one.by_two.Goals as goal

pub bounds-d-3 : goal.bounds-d-3
bounds-d-3 c = omega (arith, c.requires.0.ready.ranged.head)

pub overflow_cast-dead : goal.overflow_cast-dead
overflow_cast-dead c = omega (arith, c.shared_slice_known-3-1.given 3)

pub loop-l-init : goal.loop-l-init
loop-l-init c = (c.requires.0.ready, c.requires.0.bounds, λ first M. M)

pub overflow_add-l : goal.overflow_add-l
overflow_add-l c = omega (arith, c.loop-l.invariant.1.inside)

pub two_more-l-requires : goal.two_more-l-requires
two_more-l-requires c =
    (c.loop-l.invariant.0, c.requires.1, c.loop-l-test.true)

pub returns-then-l-dead : goal.returns-then-l-dead
returns-then-l-dead c =
    let a = c.args in
    let l = c.loop-l in
    let r = c.two_more-l in
    let bytes : (n : ℕ) → get_or a.x.now n 0 < 256 = λ n. (c.shared_slice_known-2-1.given n).fits in
    let e = r.ensures in
    let h = c.loop-l-test.true in
    let i = l.invariant in
    let d = a.d.now in
    let x = a.x.now in
    paired-goes d x bytes a.s a.until a.from r.result
    (ready-two d x bytes l.l r.result e a.s i.1 h a.k i.0).state
    (bounds-two d x bytes l.l r.result e a.s i.1 h)
    (λ first M. means-two d x bytes l.l r.result e a.s i.1 h a.k i.0 first (i.2 first M))

pub returns-then-until-l : goal.returns-then-until-l
returns-then-until-l c =
    let a = c.args in
    let l = c.loop-l in
    let r = c.two_more-l in
    let bytes : (n : ℕ) → get_or a.x.now n 0 < 256 = λ n. (c.shared_slice_known-2-1.given n).fits in
    let m = and-true _ _ c.if-until-l.true in
    let d = a.d.now in
    let x = a.x.now in
    let B = bounds-two d x bytes l.l r.result r.ensures a.s l.invariant.1 c.loop-l-test.true in
    let z = at-two d x bytes l.l r.result r.ensures a.s l.invariant.1 c.loop-l-test.true in
    let u = leb-true a.until r.result.at m.0 in
    let h = c.loop-l-test.true in
    paired-up d x a.s a.until a.from _ refl
    (record { on = B.on; inside = B.inside; from = le_refl a.s; to = B.on })
    refl (omega arith)

pub loop-l-smaller : goal.loop-l-smaller
loop-l-smaller c =
    let a = c.args in
    let l = c.loop-l in
    let r = c.two_more-l in
    let bytes : (n : ℕ) → get_or a.x.now n 0 < 256 = λ n. (c.shared_slice_known-2-1.given n).fits in
    let h = c.loop-l-test.true in
    let z = at-two a.d.now a.x.now bytes l.l r.result r.ensures a.s l.invariant.1 h in
    omega arith

pub loop-l-preserved : goal.loop-l-preserved
loop-l-preserved c =
    let a = c.args in
    let l = c.loop-l in
    let r = c.two_more-l in
    let bytes : (n : ℕ) → get_or a.x.now n 0 < 256 = λ n. (c.shared_slice_known-2-1.given n).fits in
    let e = r.ensures in
    let h = c.loop-l-test.true in
    let i = l.invariant in
    let d = a.d.now in
    let x = a.x.now in (
      ready-two d x bytes l.l r.result e a.s i.1 h a.k i.0,
      bounds-two d x bytes l.l r.result e a.s i.1 h,
      λ first M. means-two d x bytes l.l r.result e a.s i.1 h a.k i.0 first (i.2 first M),
    )

pub returns : goal.returns
returns c =
    let a = c.args in
    let l = c.loop-l in
    let bytes : (n : ℕ) → get_or a.x.now n 0 < 256 = λ n. (c.shared_slice_known-2-1.given n).fits in
    paired-goes a.d.now a.x.now bytes a.s a.until a.from l.l l.invariant.0.state l.invariant.1
    l.invariant.2
