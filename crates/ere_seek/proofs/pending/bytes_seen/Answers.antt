-- `bytes_seen` meets its contract: s is the state at i, f the last place before it where nothing was pending.
use mathlib.Core.Path.{◌≡◌, sym, subst}
use Prim.Native.Nat.{ℕ, ◌-◌, ◌<◌}
use native.Mathlib.Omega.{arith}
use lib.ListN.{get_or}
use Rattle.ere_automaton.specs.Layout.{State}
use Rattle.ere_seek.specs.Pending.{Ran, RanBy}
use Rattle.ere_seek.proofs.Waiting.{ran-none, ran-at}
use Rattle.ere_seek.proofs.pending.bytes_seen.Goals as goal

pub loop-i-init : goal.loop-i-init
loop-i-init c =
    let a = c.args in
    let z : 0 ≡ a.start - a.start = omega arith in (
      omega arith,
      c.requires.state,
      subst (λ (n : ℕ). RanBy a.d.now a.x.now a.start n a.from a.from) z (ran-none _ _ _ _ _),
    )

pub next-s-requires : goal.next-s-requires
next-s-requires c =
    (c.requires.ranged, c.loop-i.invariant.1)

pub loop-i-preserved : goal.loop-i-preserved
loop-i-preserved c =
    let a = c.args in
    let d = a.d.now in
    let x = a.x.now in
    let l = c.loop-i in
    let bytes : (n : ℕ) → get_or x n 0 < 256 = λ n. (c.shared_slice_known-2-1.given n).fits in
    let e = c.next-s.ensures in (
      omega arith,
      subst (State d) (sym e) (c.requires.ranged.moves l.s (get_or x l.i 0) l.invariant.1 (bytes l.i)),
      ran-at d x a.start a.from.state a.from.seen l.i l.s l.f l.invariant.0 l.invariant.2 a.later _ _
          c.requires.is_later c.either-f.ensures e,
    )

pub returns : goal.returns
returns c =
    let a = c.args in
    let l = c.loop-i in
    let z : l.i ≡ a.end = omega arith in
    let f = a.from in
    subst (λ (n : ℕ). Ran a.d.now a.x.now a.start (n - a.start) f.state f.seen l.s l.f) z
    l.invariant.2
