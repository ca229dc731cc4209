-- `join_all` meets its contract: so many fields have been joined.
use native.Mathlib.Omega.{arith}
use Rattle.buffer.specs.Parts.{part}
use mathlib.Core.Path.{◌≡◌, refl, sym, subst}
use Prim.Native.Nat.{ℕ, suc}
use native.Mathlib.Numerals.{add-one}
use Rattle.run_parts.specs.Join.{Turned, Joins}
use Rattle.run_parts.proofs.Joined.{joins-none, join-bound, joins-more, joined-below, between-same}
use Rattle.run_parts.proofs.joining.join_all.Goals as goal

pub loop-i-init : goal.loop-i-init
loop-i-init c = let a = c.args in (omega arith, joins-none a.work.now a.line a.k a.v (part a.from a.n a.work.now))

pub join_one-at-requires : goal.join_one-at-requires
join_one-at-requires c =
    let a = c.args in
    let p = c.requires in
    let b = part a.from a.n a.work.now in (
      omega (arith, c.loop-i.invariant.1.outside.size, p.0),
      p.1,
      omega (arith, c.loop-i-test.true, p.2),
      p.3,
      p.4,
      p.5,
      join-bound a.work.now c.loop-i.work a.line a.k a.v b c.loop-i.i c.loop-i.at p.0 p.1 p.3 (omega (arith, c.loop-i-test.true, p.2)) c.loop-i.invariant.1 a.from a.n a.count refl (omega (arith, p.5)) c.loop-i-test.true p.6,
    )

pub loop-i-preserved : goal.loop-i-preserved
loop-i-preserved c =
    let a = c.args in
    let p = c.requires in
    let b = part a.from a.n a.work.now in
    let z = c.join_one-at.new.work in
    let o =
    subst (Turned c.loop-i.work z a.line a.k a.v c.loop-i.i c.loop-i.at c.join_one-at.result)
    (between-same a.work.now c.loop-i.work a.line a.k a.v b c.loop-i.i c.loop-i.at p.0 p.1 p.3 (omega (arith, c.loop-i-test.true, p.2)) c.loop-i.invariant.1 a.from a.n (omega (arith, p.5))) c.join_one-at.ensures in
    let most = joined-below a.work.now a.line a.k a.v b (suc c.loop-i.i) a.count c.loop-i-test.true in (
      omega (arith, c.loop-i-test.true),
      subst (λ (m : ℕ). Joins a.work.now z a.line a.k a.v b m c.join_one-at.result) (sym (add-one c.loop-i.i))
          (joins-more a.work.now c.loop-i.work a.line a.k a.v b c.loop-i.i c.loop-i.at p.0 p.1 p.3 (omega (arith, c.loop-i-test.true, p.2)) c.loop-i.invariant.1 _ c.join_one-at.result (omega (arith, most, p.6)) o),
    )

pub returns : goal.returns
returns c =
    let a = c.args in
    let p = c.requires in
    let b = part a.from a.n a.work.now in
    let e : c.loop-i.i ≡ a.count = omega (arith, c.loop-i-test.false, c.loop-i.invariant.0) in
    subst (λ (m : ℕ). Joins a.work.now c.loop-i.work a.line a.k a.v b m c.loop-i.at) e c.loop-i.invariant.1
