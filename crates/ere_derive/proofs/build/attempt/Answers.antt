use native.Mathlib.Nat.{mul-le-mul_left}
use Prim.Native.Nat.{ℕ, ◌+◌, ◌*◌, ◌<◌}
use mathlib.Core.Path.{refl}
use Rattle.ere_automaton.specs.Layout.{rows_at}
use native.Mathlib.Omega.{arith}
use Rattle.ere_derive.proofs.Composed.{rows-below}
use Rattle.ere_derive.proofs.Driving.{stride-wide, unattempted, attempted, rows-closed}
use Rattle.ere_derive.proofs.build.attempt.Goals as goal

pub stride_of-stride-requires : goal.stride_of-stride-requires
stride_of-stride-requires c = c.requires.4.few

pub states_in-most-requires : goal.states_in-most-requires
states_in-most-requires c = let z = stride-wide c.args.k c.args.paired in let p = c.requires in omega (arith, c.stride_of-stride.ensures)

pub returns-in_err-s : goal.returns-in_err-s
returns-in_err-s c = rw c.from_residual.ensures (unattempted _ _ _ _ refl (λ i g h. refl))

pub put_rows-requires : goal.put_rows-requires
put_rows-requires c =
    let z = stride-wide c.args.k c.args.paired in
    let p = c.requires in
    let B = c.in_ok-s.ensures in
    (p.0, p.1, B.begun.few, c.states_in-most.ensures.0, B.size, c.states_in-most.ensures.1, p.3, omega (arith, c.stride_of-stride.ensures))

pub returns-in_err-n : goal.returns-in_err-n
returns-in_err-n c =
    let F = c.in_err-n.ensures.frame in
    rw c.from_residual-in_err-n.ensures (unattempted _ _ _ _ F.size (λ i g h. F.below i h))

pub compose-requires : goal.compose-requires
compose-requires c =
    let R = c.in_ok-n.ensures in
    let z = mul-le-mul_left c.stride_of-stride.result R.has.0 in
    let y = R.frame.size in
    let p = c.requires in
    (c.stride_of-stride.ensures, omega (arith, c.states_in-most.ensures.1), omega arith, rows-closed R.has.2)

pub put_head-requires : goal.put_head-requires
put_head-requires c =
    let p = c.requires in
    let y = c.in_ok-n.ensures.frame.size in
    let x = c.compose.ensures.size in
    let B = c.in_ok-s.ensures.begun in
    let s = c.in_ok-s.s in
    let below : (q : ℕ) → q < c.states_in-most.result → rows_at + c.stride_of-stride.result * q < 65536 =
    λ q h. omega (arith, rows-below c.stride_of-stride.result q c.states_in-most.result h, c.states_in-most.ensures.1) in (
      omega arith,
      omega (arith, p.4.few),
      below s.first (omega (arith, B.is-first.low, B.few)),
      below s.later (omega (arith, B.is_later.low, B.few)),
      below s.accepted (omega (arith, B.is_accepted.low, B.few)),
    )

pub returns : goal.returns
returns c =
    let a = c.args in
    let p = c.requires in
    let s = c.in_ok-s.s in
    attempted a.mode a.t.now a.bytes.now a.k _ _ c.states_in-most.result s.count c.in_ok-n.n c.stride_of-stride.result
    s.accepted s.later s.first a.paired a.d.now _ _ _ c.stride_of-stride.ensures c.states_in-most.ensures.1
    p.4 p.5 p.6 c.in_ok-s.ensures.begun c.in_ok-n.ensures c.compose.ensures c.put_head.ensures
