-- `find_some` meets its contract: `t` is nowhere below k.
use Prim.Native.Nat.{◌+◌}
use mathlib.Core.Path.{◌≡◌, refl, sym, ◌∙◌}
use mathlib.Core.Bool.{false≢true}
use native.Mathlib.Omega.{arith}
use lib.ListN.{length}
use Rattle.buffer.specs.Parts.{part}
use Rattle.buffer.proofs.Lent.{part-lent}
use Rattle.buffer.proofs.Ordering.{equal-same, same-equal}
use Rattle.buffer.proofs.First.{some-first-part, none-first-part}
use Rattle.lanes.proofs.Standing.{stands_from, stands_after, first-within}
use Rattle.lanes.proofs.parts.find_some.Goals as goal

pub loop-k-init : goal.loop-k-init
loop-k-init c =
    let a = c.args in
    let f = c.first_byte_from-k in
    let some = c.requires in (
      first-within _ 0 f.result a.s.now (omega arith) f.ensures,
      stands_from a.t.now a.s.now some 0 f.result _ refl f.ensures (λ j w. omega arith),
    )

pub returns-then-equal : goal.returns-then-equal
returns-then-equal c =
    let a = c.args in
    let l = c.loop-k in
    let t = a.t.now in
    let s = a.s.now in
    let lent = part-lent s l.k (l.k + length t) (length t) refl in
    let same = sym lent ∙ equal-same _ _ (sym c.equal.ensures ∙ c.if-equal.true) in
    sym (some-first-part t s l.k (record { stands = record { fits = omega arith; same = same }; least = l.invariant.1 }))

pub loop-k-smaller : goal.loop-k-smaller
loop-k-smaller c = omega (arith, c.first_byte_from-k-in-loop-k.ensures)

pub loop-k-preserved : goal.loop-k-preserved
loop-k-preserved c =
    let a = c.args in
    let l = c.loop-k in
    let t = a.t.now in
    let s = a.s.now in
    let f = c.first_byte_from-k-in-loop-k in
    let lent = part-lent s l.k (l.k + length t) (length t) refl in
    let tested = sym c.if-equal.false ∙ c.equal.ensures in
    let not : part l.k (length t) s ≡ t → ⊥ = λ e. false≢true (tested ∙ same-equal _ _ (lent ∙ e)) in
    let some = c.requires in (
      first-within _ (l.k + 1) f.result s (omega arith) f.ensures,
      stands_from t s some (l.k + 1) f.result _ refl f.ensures (stands_after t s l.k not l.invariant.1),
    )

pub returns : goal.returns
returns c =
    let a = c.args in
    let l = c.loop-k in
    sym (none-first-part a.t.now a.s.now (λ j w. let h = l.invariant.1 j w in omega (arith, w.fits)))
