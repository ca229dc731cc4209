use Prim.Native.Nat.{ℕ}
use mathlib.Core.Path.{subst}
use native.Mathlib.Omega.{arith}
use mathlib.Core.List.{List}
use lib.Seq.{get_or-set_same}
use Rattle.ere_sets.specs.Growth.{Has}
use Rattle.ere_classes.proofs.Framed.{frame-set}
use Rattle.ere_derive.proofs.Composed.{rows-below}
use Rattle.ere_derive.proofs.rows.put_entry.Goals as goal

pub overflow_mul-d : goal.overflow_mul-d
overflow_mul-d c =
    let E = c.in_ok-e.ensures.entered in
    let z = rows-below c.args.stride c.in_ok-e.e.number c.args.most (omega (arith, E.few, E.has.low)) in
    omega arith

pub overflow_add-d : goal.overflow_add-d
overflow_add-d c =
    let E = c.in_ok-e.ensures.entered in
    let z = rows-below c.args.stride c.in_ok-e.e.number c.args.most (omega (arith, E.few, E.has.low)) in
    omega arith

pub overflow_cast-d : goal.overflow_cast-d
overflow_cast-d c =
    let E = c.in_ok-e.ensures.entered in
    let z = rows-below c.args.stride c.in_ok-e.e.number c.args.most (omega (arith, E.few, E.has.low)) in
    omega arith

pub returns : goal.returns
returns c =
    let S = c.in_ok-e.ensures in
    let E = S.entered in
    let e = c.in_ok-e.e in
    record {
      size = S.size;
      frame = frame-set c.args.d.now c.args.p _;
      has = (
        E.few,
        E.grows,
        record {
          number = e.number;
          is = get_or-set_same c.args.d.now c.args.p _ 0 (omega arith);
          has = subst (λ (s : List ℕ). Has c.enter.new.sets e.count e.number s) c.change.ensures E.has;
        },
      );
    }
