use Prim.Native.Nat.{ℕ}
use mathlib.Core.Path.{◌≡◌, subst}
use native.Mathlib.Omega.{arith}
use Rattle.ere_derive.specs.Layout.{PutPairs}
use Rattle.ere_derive.proofs.Composed.{rows-below, pairs-ask, put-pairs-more, put-pairs-none}
use Rattle.ere_derive.proofs.pairs.put_pairs.Goals as goal

pub loop-i-init : goal.loop-i-init
loop-i-init c = put-pairs-none _ _ _ _

pub overflow_mul-stride : goal.overflow_mul-stride
overflow_mul-stride c = let z = rows-below c.args.stride c.loop-i.i c.args.n c.loop-i-test.true in omega arith

pub overflow_add-stride : goal.overflow_add-stride
overflow_add-stride c = let z = rows-below c.args.stride c.loop-i.i c.args.n c.loop-i-test.true in omega arith

pub put_pairs_in-requires : goal.put_pairs_in-requires
put_pairs_in-requires c =
    let a = c.args in
    let l = c.loop-i in
    let z = rows-below a.stride l.i a.n c.loop-i-test.true in
    let y = l.invariant.size in
    (omega (arith, c.requires), omega (arith, c.requires), pairs-ask a.k a.n a.stride c.requires.0 a.d.now l.d l.d l.i c.loop-i-test.true c.requires.3 l.invariant c.requires.1)

pub loop-i-preserved : goal.loop-i-preserved
loop-i-preserved c =
    let a = c.args in
    let l = c.loop-i in
    put-pairs-more a.k a.n a.stride c.requires.0 a.d.now l.d _ l.i c.loop-i-test.true c.requires.3 l.invariant c.put_pairs_in.ensures.0 c.put_pairs_in.ensures.1

pub returns : goal.returns
returns c = let e : c.loop-i.i ≡ c.args.n = omega arith in subst (λ (m : ℕ). PutPairs c.args.k c.args.n c.args.stride m c.args.d.now c.loop-i.d) e c.loop-i.invariant
