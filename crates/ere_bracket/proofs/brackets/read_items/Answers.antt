-- `read_items` meets its contract: the items that are left, with the words so far, come to what all items come to.
use mathlib.Core.Path.{ap, ◌∙◌}
use mathlib.Core.Bool.{true}
use mathlib.Core.List.{List}
use Prim.Native.Nat.{ℕ}
use native.Mathlib.Omega.{arith}
use lib.ListN.{drop}
use Rattle.ere_bracket.specs.Items.{items_of, worded, leads_to}
use Rattle.ere_bracket.proofs.Steps.{turn-none, goes-same, goes-further, closed-ended}
use Rattle.ere_bracket.proofs.brackets.read_items.Goals as goal

pub empty-words-requires : goal.empty-words-requires
empty-words-requires c = tt

pub loop-at-init : goal.loop-at-init
loop-at-init c =
    let a = c.args in
    (omega arith, ap (λ (w : List ℕ). worded w (items_of true (drop a.from a.ere.now))) c.empty-words.ensures)

pub turn-requires : goal.turn-requires
turn-requires c = omega arith

pub returns-in_err-all : goal.returns-in_err-all
unfolding leads_to
returns-in_err-all c = let i = c.loop-at.invariant in rw c.from_residual.ensures (c.in_err-all.ensures.same ∙ i.1)

pub returns-in-Closed : goal.returns-in-Closed
returns-in-Closed c = let i = c.loop-at.invariant in closed-ended i.0 c.in_ok-all.ensures i.1 c.in-Closed.is

pub loop-at-smaller : goal.loop-at-smaller
loop-at-smaller c =
    let i = c.loop-at.invariant in
    let f = goes-further i.0 c.in_ok-all.ensures i.1 c.in-GoesOn.is in
    omega arith

pub loop-at-preserved : goal.loop-at-preserved
loop-at-preserved c =
    let i = c.loop-at.invariant in
    let f = goes-further i.0 c.in_ok-all.ensures i.1 c.in-GoesOn.is in
    (omega arith, goes-same i.0 c.in_ok-all.ensures i.1 c.in-GoesOn.is)

pub returns : goal.returns
returns c = let i = c.loop-at.invariant in turn-none _ c.args.ere.now c.loop-at.at _ (omega arith) ∙ i.1
