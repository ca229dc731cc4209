-- `longest_from` meets its contract: live is the set after n bytes, best the longest match of fewer.
use native.Mathlib.Omega.{arith}
use mathlib.Core.Path.{◌≡◌, refl, sym, ◌∙◌}
use Prim.Native.Nat.{◌-◌}
use lib.ListN.{length}
use Rattle.ere_search.specs.Walk.{live_at, longest_to}
use Rattle.ere_search.proofs.Finds.{live_more, best-more, best-end, best-dead}
use Rattle.ere_search.proofs.search.longest_from.Goals as goal

pub loop-n-init : goal.loop-n-init
unfolding live_at longest_to
loop-n-init c = (c.entry-live.ensures, refl)

pub returns-then-dead : goal.returns-then-dead
returns-then-dead c =
    let i = c.loop-n.invariant in
    best-dead _ _ _ _ _ _ _ i.0 _ i.1 _ (omega arith) (sym c.dead.ensures ∙ c.if-dead.true) c.longest-best.ensures

pub loop-n-preserved : goal.loop-n-preserved
loop-n-preserved c =
    let i = c.loop-n.invariant in (
      live_more _ _ _ _ _ _ i.0 _ c.step-next.ensures,
      best-more _ _ _ _ _ _ _ i.0 _ i.1 _ (omega arith) c.longest-best.ensures,
    )

pub returns : goal.returns
returns c =
    let n : c.loop-n.n ≡ length c.args.rest.now - c.args.s = omega arith in
    let i = c.loop-n.invariant in
    best-end _ _ _ _ _ _ _ (rw n at i.0) _ (rw n at i.1) _ (omega arith) c.longest.ensures
