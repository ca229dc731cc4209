use mathlib.Core.Path.{◌≡◌, refl, ◌∙◌}
use native.Mathlib.Omega.{arith}
use Rattle.ere_classes.proofs.Columns.{classed-none, classified}
use Rattle.ere_classes.proofs.classes.put_classes.Goals as goal

pub loop-b-init : goal.loop-b-init
loop-b-init c = (omega arith, refl, c.used_places-n.ensures, classed-none _ _ _ _ _)

pub loop-b-preserved : goal.loop-b-preserved
loop-b-preserved c =
    let r = c.classify-k.ensures in
    let i = c.loop-b.invariant in
    (omega arith, r.column_size ∙ i.1, i.2, r.classed i.3)

pub returns : goal.returns
returns c =
    let l = c.loop-b in
    let i = l.invariant in
    let e : l.b ≡ 256 = omega arith in
    record {
      byte_size = l.auto.bytes;
      size = l.auto.d;
      classified = classified c.args.t.now c.used_places-n.result l.columns l.k l.bytes l.d i.2 i.0 (rw e at i.3);
    }
