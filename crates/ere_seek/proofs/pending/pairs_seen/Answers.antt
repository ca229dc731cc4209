-- `pairs_seen` meets its contract: s is the state after 2 j bytes, f the last place where nothing was pending.
use mathlib.Core.Path.{◌≡◌, refl, sym, subst}
use Prim.Native.Nat.{ℕ, ◌+◌, ◌*◌, ◌<◌}
use native.Mathlib.Omega.{arith}
use lib.ListN.{get_or}
use Rattle.ere_seek.specs.Pending.{Ran}
use Rattle.ere_seek.proofs.Following.{ready-next, pair-two}
use Rattle.ere_seek.proofs.Waiting.{ran-none, ran-two}
use Rattle.ere_seek.proofs.pending.pairs_seen.Goals as goal

pub loop-j-init : goal.loop-j-init
loop-j-init c = (c.requires.0.ready, ran-none _ _ _ _ _)

pub pair-s-requires : goal.pair-s-requires
pair-s-requires c =
    (c.loop-j.invariant.0, c.requires.1)

pub loop-j-preserved : goal.loop-j-preserved
loop-j-preserved c =
    let a = c.args in
    let d = a.d.now in
    let x = a.x.now in
    let l = c.loop-j in
    let i = a.i + 2 * l.j in
    let bytes : (n : ℕ) → get_or x n 0 < 256 = λ n. (c.shared_slice_known-2-1.given n).fits in
    let b = get_or x i 0 in
    let e = get_or x (i + 1) 0 in
    let A = l.invariant.0 in
    let o = c.either-f in
    let two = pair-two d a.k l.s b e _ A c.requires.1 (bytes i) (bytes (i + 1)) c.pair-s.ensures in
    let z : 2 * l.j + 2 ≡ 2 * (l.j + 1) = omega arith in (
      ready-next d a.k _ e _ (ready-next d a.k l.s b _ A (bytes i) refl) (bytes (i + 1)) two,
      subst (λ (n : ℕ). Ran d x a.i n a.from.state a.from.seen c.pair-s.result o.result) z
          (subst (λ (q : ℕ). Ran d x a.i (2 * l.j + 2) a.from.state a.from.seen q o.result) (sym two)
          (ran-two d x a.i a.from.state a.from.seen (2 * l.j) l.s l.f l.invariant.1 a.later _
          c.requires.0.is_later
          c.either-f.ensures)),
    )

pub returns : goal.returns
returns c =
    let a = c.args in
    let l = c.loop-j in
    let z : 2 * l.j ≡ 16 = omega arith in
    subst (λ (n : ℕ). Ran a.d.now a.x.now a.i n a.from.state a.from.seen l.s l.f) z l.invariant.1
