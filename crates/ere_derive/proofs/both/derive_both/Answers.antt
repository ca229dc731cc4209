use native.Mathlib.Omega.{arith}
use Rattle.ere_derive.proofs.Seeking.{one-room, rest-size, rest-fits, derived-both}
use Rattle.ere_derive.proofs.both.derive_both.Goals as goal

pub put_both-requires : goal.put_both-requires
put_both-requires c =
    let D = c.in_ok-n.ensures in
    let p = c.requires in
    (p.0, one-room _ _ _ _ D, omega (arith, D.made.0))

pub returns-in_err-m : goal.returns-in_err-m
returns-in_err-m c =
    let D = c.in_ok-n.ensures in
    rw c.from_residual-in_err-m.ensures (record { size = rest-size _ _ _ _ D _ c.put_both.ensures _ _ c.in_err-m.ensures; made = tt })

pub overflow_add-result : goal.overflow_add-result
overflow_add-result c =
    let D = c.in_ok-n.ensures in
    let z = rest-fits _ _ _ _ D _ c.put_both.ensures _ _ c.in_ok-m.ensures in
    let p = c.requires in
    omega arith

pub returns : goal.returns
returns c =
    let D = c.in_ok-n.ensures in
    derived-both _ _ _ _ D _ c.put_both.ensures _ _ c.in_ok-m.ensures (c.is_nested.ensures c.if-not-is_nested.false)
