-- `prepare` meets its contract: classes, and then ranges.
use mathlib.Core.Path.{◌∙◌}
use native.Mathlib.Omega.{arith}
use Rattle.ere_derive.proofs.build.prepare.Goals as goal

pub put_hull-requires : goal.put_hull-requires
put_hull-requires c =
    let p = c.requires in
    let C = c.in_ok-k.ensures in
    let K = C.classified in
    (p.0, omega (arith, K.few, C.byte_size, p.1), omega (arith, C.size, c.if-d-lt-ROWS.false), K)

pub returns : goal.returns
returns c =
    let C = c.in_ok-k.ensures in
    let H = c.put_hull.ensures in
    record {
      byte_size = C.byte_size;
      size = H.size ∙ C.size;
      prepared = record { head = c.if-d-lt-ROWS.false; classified = H.classified; hull = H.hull; plain = H.plain };
    }
