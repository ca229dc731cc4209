-- `derive_by` meets its contract: classes and ranges, and then rows.
use native.Mathlib.Omega.{arith}
use Rattle.ere_derive.proofs.Driving.{derived-on}
use Rattle.ere_derive.proofs.build.derive_by.Goals as goal

pub finish-requires : goal.finish-requires
finish-requires c =
    let p = c.requires in
    let S = c.in_ok-k.ensures in
    let P = S.prepared in
    let K = P.classified in (
      p.0,
      omega (arith, K.few, S.byte_size),
      omega (arith, S.size, P.head),
      omega (arith, S.size, p.1),
      K,
      P.hull,
      λ h. absurd (omega (arith, P.plain)),
    )

pub returns : goal.returns
returns c = derived-on c.args.d.now c.in_ok-k.ensures.size c.finish.ensures.derived
