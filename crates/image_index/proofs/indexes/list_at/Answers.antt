-- `list_at` meets its contract: the count that was read, and as many items.
use native.Mathlib.Omega.{arith}
use Rattle.image_index.proofs.Indexing.{list-missing, list-unfit, list-there}
use Rattle.image_index.proofs.indexes.list_at.Goals as goal
use Rattle.image_index.proofs.indexes.list_at.Goals.{then-most-n-via-then-most-n, then-most-n-via-else-most-n+then-n-least}

pub returns-in_default : goal.returns-in_default
returns-in_default c =
    let a = c.args in
    list-missing a.edition a.kind a.image.now a.at a.index.now c.in_default.ensures

pub returns-then-most-n : goal.returns-then-most-n
returns-then-most-n c =
    let a = c.args in
    list-unfit a.edition a.kind a.image.now a.at a.index.now _ _ c.in-Some.ensures
    (λ low high.
    elim c.then-most-n.branch [
      | then-most-n-via-then-most-n w ↦ omega (arith, c.most.ensures, w.if-most-n.true, high)
      | then-most-n-via-else-most-n+then-n-least w ↦ omega (arith, w.least.ensures, w.if-n-least.true, low)
    ])

pub items_at-requires : goal.items_at-requires
items_at-requires c = (c.in-Some.ensures.2, c.requires.1)

pub returns : goal.returns
returns c =
    let a = c.args in
    list-there a.edition a.kind a.image.now a.at _ _ _ c.in-Some.ensures (omega (arith, c.least.ensures, c.if-n-least.false))
    (omega (arith, c.most.ensures, c.if-most-n.false)) _ c.items_at.ensures
