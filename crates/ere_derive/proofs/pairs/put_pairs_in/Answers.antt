use Prim.Native.Nat.{◌+◌}
use native.Mathlib.Omega.{arith}
use Rattle.ere_classes.proofs.Framed.{frame-none}
use Rattle.ere_derive.proofs.Composed.{square-below, pairs-frame, pairs-more}
use Rattle.ere_derive.proofs.pairs.put_pairs_in.Goals as goal

pub loop-c-init : goal.loop-c-init
loop-c-init c = (frame-none _ _ _, λ x e h. absurd (omega arith))

pub bounds-d-p : goal.bounds-d-p
bounds-d-p c = let z = c.loop-c.invariant.0.size in omega arith

pub overflow_mul-c : goal.overflow_mul-c
overflow_mul-c c = let z = square-below c.args.k c.loop-c.c c.args.k c.loop-c-test.true in omega arith

pub overflow_add-k-in-loop-c : goal.overflow_add-k-in-loop-c
overflow_add-k-in-loop-c c = let z = square-below c.args.k c.loop-c.c c.args.k c.loop-c-test.true in omega arith

pub overflow_add-p : goal.overflow_add-p
overflow_add-p c = let z = square-below c.args.k c.loop-c.c c.args.k c.loop-c-test.true in omega arith

pub copy_words-requires : goal.copy_words-requires
copy_words-requires c =
    let a = c.args in
    let l = c.loop-c in
    let r = c.requires.2 l.c c.loop-c-test.true in
    let e = l.invariant.0.below (a.p + l.c) (omega arith) in
    let z = l.invariant.0.size in
    let y = square-below a.k l.c a.k c.loop-c-test.true in
    (omega (arith, r.0), omega arith)

pub loop-c-preserved : goal.loop-c-preserved
loop-c-preserved c =
    let a = c.args in
    let l = c.loop-c in
    let r = c.requires.2 l.c c.loop-c-test.true in
    let w = c.copy_words.ensures in (
      pairs-frame a.d.now l.d _ a.k a.p l.c c.loop-c-test.true r.1 l.invariant.0 w.0,
      pairs-more a.d.now l.d _ a.k a.p l.c c.loop-c-test.true r.1 l.invariant.0 l.invariant.1 w.0 w.1,
    )

pub returns : goal.returns
returns c = (c.loop-c.invariant.0, λ x e h m. c.loop-c.invariant.1 x e (omega arith) m)
