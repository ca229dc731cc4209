-- `part_of` meets its contract: the first position and the one after the last, both cut to the text.
use mathlib.Core.Path.{ap, ◌∙◌}
use Prim.Native.Nat.{ℕ, min}
use native.Mathlib.Omega.{arith}
use Rattle.run_texts.proofs.Between.{between-part, between_none}
use Rattle.run_texts.proofs.texts.part_of.Goals as goal

pub returns-then-last-first : goal.returns-then-last-first
returns-then-last-first c =
    let index-from = c.index_from-first in
    let a = c.args in
    let el = c.min-last.ensures ∙ ap (λ (m : ℕ). min m a.n) c.index_from-end.ensures in
    (omega arith, between_none a.x a.y _ _ a.n index-from.ensures el c.if-last-first.true)

pub returns : goal.returns
returns c =
    let index-from = c.index_from-first in
    let a = c.args in
    let el = c.min-last.ensures ∙ ap (λ (m : ℕ). min m a.n) c.index_from-end.ensures in
    (omega (arith, el, c.if-last-first.false), between-part a.x a.y _ _ a.n index-from.ensures el)
