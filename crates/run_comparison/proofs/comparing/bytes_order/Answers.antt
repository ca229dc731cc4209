-- `bytes_order` meets its contract: k bytes are passed, and the order of what is left is the order of all.
use Prim.Native.Nat.{ℕ, min, ◌<◌, ◌≤◌}
use mathlib.Core.List.{List}
use native.Mathlib.Omega.{arith}
use mathlib.Core.Path.{◌≡◌, refl, sym, ap₂, ◌∙◌}
use lib.ListN.{length, drop, drop_of_length-le}
use Rattle.std.specs.Cmp.{ranked}
use Rattle.std.specs.Ordering.{MatchOrdering}
use Rattle.std.specs.declared.cmp.Ordering.{Ordering}
use Rattle.std.specs.declared.cmp.Ordering.TheVariants.{Less, Equal, Greater}
use Rattle.buffer.specs.Order.{ordering}
use Rattle.buffer.proofs.Parts.{drop-next}
use Rattle.buffer.proofs.Ordering.{less-at, more-at, same_at}
use Rattle.run_comparison.proofs.comparing.bytes_order.Goals as goal

pub loop-k-init : goal.loop-k-init
loop-k-init c = (omega arith, omega arith, refl)

pub returns-then-a-k : goal.returns-then-a-k
returns-then-a-k c =
    let a = c.args in
    let l = c.loop-k in
    let n = c.min-n.ensures in
    sym (l.invariant.2 ∙ less-at a.a.now a.b.now l.k (omega arith) (omega arith) (omega arith))

pub returns-then-b-k : goal.returns-then-b-k
returns-then-b-k c =
    let a = c.args in
    let l = c.loop-k in
    let n = c.min-n.ensures in
    sym (l.invariant.2 ∙ more-at a.a.now a.b.now l.k (omega arith) (omega arith) (omega arith))

pub loop-k-preserved : goal.loop-k-preserved
loop-k-preserved c =
    let a = c.args in
    let l = c.loop-k in
    let n = c.min-n.ensures in
    (omega arith, omega arith, l.invariant.2 ∙ same_at a.a.now a.b.now l.k (omega arith) (omega arith) (omega arith))

-- where one text is passed to its end, the order is that of the lengths
by-lengths : (a b : List ℕ) (k : ℕ) (r : Ordering) → MatchOrdering r (length a < length b) (length a ≡ length b) (length b < length a)
    → min (length a) (length b) ≤ k → k ≤ length a → k ≤ length b → ordering a b ≡ ordering (drop k a) (drop k b) → r ≡ ordering a b
unfolding ordering
by-lengths a b k Less h m p q e = sym (e ∙ ap₂ ordering (drop_of_length-le a {i = k} (omega arith)) (drop-next b k (omega arith)))
by-lengths a b k Equal h m p q e = sym (e ∙ ap₂ ordering (drop_of_length-le a {i = k} (omega arith)) (drop_of_length-le b {i = k} (omega arith)))
by-lengths a b k Greater h m p q e = sym (e ∙ ap₂ ordering (drop-next a k (omega arith)) (drop_of_length-le b {i = k} (omega arith)))

pub returns : goal.returns
returns c =
    let l = c.loop-k in
    by-lengths _ _ l.k _ (ranked _ _ _ c.cmp.ensures) (omega (arith, c.min-n.ensures)) l.invariant.0 l.invariant.1 l.invariant.2
