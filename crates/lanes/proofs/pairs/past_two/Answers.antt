-- `past_two` meets its contract: the run from `at` on goes to index k and on from there.
use mathlib.Core.Path.{refl, sym, ap}
use mathlib.Core.Bool.{not}
use mathlib.Core.List.{[], ◌∷◌}
use native.Mathlib.Omega.{arith}
use Rattle.lists.specs.Elements.{one_of}
use Rattle.lists.proofs.Leading.{leading-more, leading-stop, leading_end}
use Rattle.lists.proofs.Tests.{was-true, was-false}
use Rattle.lanes.proofs.pairs.past_two.Goals as goal

pub loop-k-init : goal.loop-k-init
loop-k-init c = refl

pub returns-then-not-is_either : goal.returns-then-not-is_either
returns-then-not-is_either c =
    let a = c.args in
    omega (arith, c.loop-k.invariant, leading-stop (one_of (a.a ∷ a.b ∷ [])) a.s.now c.loop-k.k (omega arith) (sym (was-false (ap not c.if-not-is_either.true) c.is_either.ensures)))

pub loop-k-preserved : goal.loop-k-preserved
loop-k-preserved c =
    let a = c.args in
    omega (arith, c.loop-k.invariant, leading-more (one_of (a.a ∷ a.b ∷ [])) a.s.now c.loop-k.k (omega arith) (sym (was-true (ap not c.if-not-is_either.false) c.is_either.ensures)))

pub returns : goal.returns
returns c =
    let a = c.args in
    omega (arith, c.loop-k.invariant, leading_end (one_of (a.a ∷ a.b ∷ [])) a.s.now c.loop-k.k (omega arith))
