-- `pad_tests` meets its contract: the tests from e on are the first, up to k.
use native.Mathlib.Omega.{arith}
use Rattle.ere_shapes.proofs.Spelling.{pads-none, pads-more, pads-all}
use Rattle.ere_shapes.proofs.word.pad_tests.Goals as goal

pub loop-k-init : goal.loop-k-init
loop-k-init c = pads-none c.args.e c.args.d.now

pub loop-k-preserved : goal.loop-k-preserved
loop-k-preserved c =
    let a = c.args in
    let l = c.loop-k in
    pads-more a.e l.k a.d.now l.d (omega arith) (omega arith) (omega arith) (omega arith) l.invariant

pub returns : goal.returns
returns c = pads-all c.args.e c.loop-k.k c.args.d.now c.loop-k.d (omega arith) c.loop-k.invariant
