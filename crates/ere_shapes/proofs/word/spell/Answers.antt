-- `spell` meets its contract: the first q bytes are known, and s is what comes after them.
use Prim.Native.Nat.{◌≤◌}
use native.Mathlib.Omega.{arith}
use lib.ListN.{length}
use Rattle.ere_classes.proofs.Framed.{frame-none, frame_on, frame-wider, frame-set}
use Rattle.ere_shapes.proofs.Spelling.{begun-none, begun_more, word-is}
use Rattle.ere_shapes.proofs.word.spell.Goals as goal

pub loop-q-init : goal.loop-q-init
loop-q-init c =
    let a = c.args in
    (omega arith, frame-none 16 24 a.d.now, begun-none a.t.now a.d.now _ c.set_at-s.ensures)

pub returns-then-ends : goal.returns-then-ends
returns-then-ends c =
    let l = c.loop-q in
    let v = l.invariant in
    let r = c.in_ok-range in
    let P = c.pad_tests.ensures in
    let room : 24 ≤ length l.d = omega (arith, v.1.size, c.requires.2) in
    record {
      frame =
          frame_on (frame_on v.1 P.frame) (frame-wider (omega arith) (omega arith) (frame-set _ 23 r.range));
      word = (
        omega arith,
        λ w says.
            word-is c.args.t.now l.d l.e l.q l.s v.2 r.range r.ensures.1 c.step-next.result
            c.step-next.ensures (omega arith) v.0 (omega arith) r.ensures.0 _ P room
            (c.ends.ensures c.if-ends.true) w says,
      );
    }

pub loop-q-preserved : goal.loop-q-preserved
loop-q-preserved c =
    let l = c.loop-q in
    let v = l.invariant in
    let r = c.in_ok-range in
    let T = c.in_ok-e.ensures in (
      T.new.0,
      frame_on v.1 T.frame,
      begun_more c.args.t.now l.d l.e l.q l.s v.2 r.range r.ensures.1 c.step-next.result c.step-next.ensures
          c.in_ok-e.e _ T,
    )
