use Prim.Native.Nat.{ℕ, ◌+◌, ◌*◌}
use mathlib.Core.Path.{◌≡◌, refl, subst, ◌∙◌}
use native.Mathlib.Omega.{arith}
use mathlib.Core.List.{List}
use Rattle.ere_automaton.specs.Layout.{rows_at}
use Rattle.ere_derive.specs.Layout.{RowAt, Rows}
use Rattle.ere_sets.proofs.Grown.{grows_none, grows-on}
use Rattle.ere_classes.proofs.Framed.{frame-none, frame_on, frame-wider}
use Rattle.ere_derive.proofs.Composed.{rows-below, rows_more}
use Rattle.ere_derive.proofs.rows.put_rows.Goals as goal

pub loop-i-init : goal.loop-i-init
loop-i-init c = (omega arith, omega arith, refl, grows_none _ _, frame-none _ _ _, λ j h. absurd (omega arith))

pub set_at-s-requires : goal.set_at-s-requires
set_at-s-requires c = let z = c.loop-i.invariant.2 in let p = c.requires in omega arith

pub overflow_mul-stride : goal.overflow_mul-stride
overflow_mul-stride c = let z = rows-below c.args.stride c.loop-i.i c.args.most (omega arith) in let p = c.requires in omega arith

pub overflow_add-stride : goal.overflow_add-stride
overflow_add-stride c = let z = rows-below c.args.stride c.loop-i.i c.args.most (omega arith) in let p = c.requires in omega arith

pub put_row-requires : goal.put_row-requires
put_row-requires c = let z = rows-below c.args.stride c.loop-i.i c.args.most (omega arith) in let p = c.requires in let y = c.loop-i.invariant.4.size in omega (arith, c.loop-i.invariant.2)

pub returns-in_err-n : goal.returns-in_err-n
returns-in_err-n c =
    let z = rows-below c.args.stride c.loop-i.i c.args.most (omega arith) in
    let p = c.requires in
    rw c.from_residual.ensures (record {
      frame = frame_on c.loop-i.invariant.4 (frame-wider (omega arith) (omega arith) c.in_err-n.ensures.frame);
      size = c.in_err-n.ensures.size ∙ c.loop-i.invariant.2;
      has = tt;
    })

pub loop-i-preserved : goal.loop-i-preserved
loop-i-preserved c =
    let a = c.args in
    let z = rows-below a.stride c.loop-i.i a.most (omega arith) in
    let p = c.requires in
    let i = c.loop-i.invariant in
    let r = c.in_ok-n.ensures in
    let g = r.has.1 in (
      omega (arith, g.more),
      r.has.0,
      r.size ∙ i.2,
      grows-on i.3 g,
      frame_on i.4 (frame-wider (omega arith) (omega arith) r.frame),
      rows_more a.mode a.t.now a.bytes.now a.k c.loop-i.sets c.loop-i.n a.stride c.loop-i.d c.loop-i.i _ _ _ p.7 c.loop-i-test.true i.5 g r.frame
          (subst (λ (s : List ℕ). RowAt a.mode a.t.now a.bytes.now a.k c.put_row.new.sets c.in_ok-n.n a.stride s c.put_row.new.d (rows_at + a.stride * c.loop-i.i))
          c.set_at-s.ensures r.has.2),
    )

pub returns : goal.returns
returns c =
    let a = c.args in
    let i = c.loop-i.invariant in
    let e : c.loop-i.i ≡ c.loop-i.n = omega arith in
    record {
      frame = i.4;
      size = i.2;
      has = (i.1, i.3, subst (λ (m : ℕ). Rows a.mode a.t.now a.bytes.now a.k c.loop-i.sets c.loop-i.n a.stride c.loop-i.d m) e i.5);
    }
