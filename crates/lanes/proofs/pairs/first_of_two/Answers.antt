-- `first_of_two` meets its contract: the run from `at` on goes to index k and on from there.
use mathlib.Core.Path.{refl, sym, ◌∙◌}
use native.Mathlib.Omega.{arith}
use Rattle.lanes.specs.Pair.{neither}
use Rattle.lanes.proofs.Runs.{run-passed, run-part}
use Rattle.lanes.proofs.pairs.first_of_two.Goals as goal

pub loop-k-init : goal.loop-k-init
loop-k-init c = (c.requires, refl)

pub overflow_add-result : goal.overflow_add-result
overflow_add-result c =
    let a = c.args in
    omega arith

pub returns-then-i-lt8 : goal.returns-then-i-lt8
returns-then-i-lt8 c =
    let a = c.args in
    omega (arith, c.loop-k.invariant.1, c.first_pair_in_8-i.ensures, run-part (neither a.a a.b) c.loop-k.k 8 a.s.now)

pub loop-k-preserved : goal.loop-k-preserved
loop-k-preserved c =
    let a = c.args in
    let p = run-part (neither a.a a.b) c.loop-k.k 8 a.s.now in
    (omega arith, omega (arith, c.loop-k.invariant.1, run-passed (neither a.a a.b) c.loop-k.k 8 a.s.now (omega (arith, c.first_pair_in_8-i.ensures, p))))

pub first_pair_by_1-requires : goal.first_pair_by_1-requires
first_pair_by_1-requires c = c.loop-k.invariant.0

pub returns : goal.returns
returns c = c.first_pair_by_1.ensures ∙ sym c.loop-k.invariant.1
