use Prim.Native.Nat.{ℕ, ◌+◌}
use mathlib.Core.Path.{◌≡◌, refl, sym, subst, ◌∙◌}
use native.Mathlib.Omega.{arith}
use lib.ListN.{get_or}
use Rattle.ere_sets.specs.Growth.{Leads}
use Rattle.ere_classes.proofs.Columns.{up_to}
use Rattle.ere_sets.proofs.Grown.{grows_none, grows-on, leads-on}
use Rattle.ere_classes.proofs.Framed.{frame-none, frame_on, frame-wider, frame-set}
use Rattle.ere_derive.proofs.Composed.{row-ended}
use Rattle.ere_derive.proofs.rows.put_row.Goals as goal

pub loop-e-init : goal.loop-e-init
loop-e-init c = (omega arith, refl, grows_none _ _, frame-none _ _ _, λ x h. absurd (omega arith))

pub put_entry-requires : goal.put_entry-requires
put_entry-requires c = let z = c.loop-e.invariant.3.size in let p = c.requires in omega arith

pub returns-in_err-n : goal.returns-in_err-n
returns-in_err-n c =
    rw c.from_residual.ensures (record {
      size = c.in_err-n.ensures.size ∙ c.loop-e.invariant.1;
      frame = frame_on c.loop-e.invariant.3 (frame-wider (omega arith) (omega arith) c.in_err-n.ensures.frame);
      has = tt;
    })

pub loop-e-preserved : goal.loop-e-preserved
loop-e-preserved c =
    let a = c.args in
    let i = c.loop-e.invariant in
    let r = c.in_ok-n.ensures in
    let g = r.has.1 in (
      r.has.0,
      r.size ∙ i.1,
      grows-on i.2 g,
      frame_on i.3 (frame-wider (omega arith) (omega arith) r.frame),
      up_to c.loop-e.e
          (λ x h. subst (λ (q : ℕ). Leads a.mode a.t.now c.put_entry.new.sets c.in_ok-n.n a.stride a.s (get_or a.bytes.now x 0) q)
          (sym (r.frame.below (a.p + x) (omega arith))) (leads-on (i.4 x h) g))
          r.has.2,
    )

pub bounds-d-p : goal.bounds-d-p
bounds-d-p c = let z = c.loop-e.invariant.3.size in omega arith

pub returns : goal.returns
returns c =
    let i = c.loop-e.invariant in
    let z = i.3.size in
    let e : c.loop-e.e ≡ c.args.k = omega arith in
    record {
      size = i.1;
      frame = frame_on i.3 (frame-wider (omega arith) (omega arith) (frame-set c.loop-e.d (c.args.p + c.args.k) _));
      has = (i.0, i.2, row-ended _ _ _ _ _ _ _ c.args.s c.loop-e.d c.args.p _ (omega arith) c.end_mark.ensures (λ x l. i.4 x (omega arith)));
    }
