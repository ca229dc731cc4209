-- `finish` meets its contract: an attempt with pairs, and one without.
use mathlib.Core.Path.{◌∙◌}
use Prim.Native.Nat.{◌+◌}
use native.Mathlib.Omega.{arith}
use Rattle.ere_classes.proofs.Bounded.{classified-on, hull-on}
use Rattle.ere_shapes.proofs.Spelling.{testable-on}
use Rattle.ere_derive.proofs.Driving.{derived-on}
use Rattle.ere_derive.proofs.build.finish.Goals as goal

pub attempt-requires : goal.attempt-requires
attempt-requires c =
    let p = c.requires in
    let A = c.with_pairs.ensures in
    let s = A.derived.size in (
      p.0,
      p.1,
      omega (arith, p.2),
      omega (arith, p.3),
      classified-on _ (λ b h. A.kept (24 + b) (omega arith) (omega arith)) p.4,
      hull-on _ (λ i g h. A.kept i (omega arith) (omega arith)) (A.kept 14 (omega arith) (omega arith)) p.5,
      testable-on c.args.t.now c.args.d.now c.with_pairs.new.d
          (λ i g h. A.kept i (omega arith) (omega arith)) p.6,
    )

pub returns : goal.returns
returns c =
    let A = c.with_pairs.ensures in
    let B = c.attempt.ensures in
    record {
      derived = derived-on c.args.d.now A.derived.size B.derived;
      kept = λ i g h. B.kept i g h ∙ A.kept i g h;
    }
