-- `first_pair_by_1` meets its contract: the run from `at` on goes to index k and on from there.
use mathlib.Core.Path.{refl, sym, ap, ◌∙◌}
use mathlib.Core.Bool.{not}
use native.Mathlib.Omega.{arith}
use Rattle.lists.proofs.Leading.{leading-more, leading-stop, leading_end}
use Rattle.lanes.specs.Pair.{neither}
use Rattle.lanes.proofs.pairs.first_pair_by_1.Goals as goal

pub loop-k-init : goal.loop-k-init
loop-k-init c = refl

pub returns-then-is_either : goal.returns-then-is_either
returns-then-is_either c =
    let a = c.args in
    omega (arith, c.loop-k.invariant, leading-stop (neither a.a a.b) a.s.now c.loop-k.k (omega arith) (ap not (sym c.is_either.ensures ∙ c.if-is_either.true)))

pub loop-k-preserved : goal.loop-k-preserved
loop-k-preserved c =
    let a = c.args in
    omega (arith, c.loop-k.invariant, leading-more (neither a.a a.b) a.s.now c.loop-k.k (omega arith) (ap not (sym c.is_either.ensures ∙ c.if-is_either.false)))

pub returns : goal.returns
returns c =
    let a = c.args in
    omega (arith, c.loop-k.invariant, leading_end (neither a.a a.b) a.s.now c.loop-k.k (omega arith))
