use mathlib.Core.Path.{refl, sym}
use native.Mathlib.Omega.{arith}
use lib.Seq.{length-take-le}
use Rattle.ere_derive.proofs.Driving.{unattempted, front-size, front-classified, front-hull, front-tests, front-attempted}
use Rattle.ere_derive.proofs.build.with_pairs.Goals as goal

pub returns-then-pairs-lt-ROWS : goal.returns-then-pairs-lt-ROWS
returns-then-pairs-lt-ROWS c = unattempted _ _ _ _ refl (λ i g h. refl)

pub returns-then-d-pairs : goal.returns-then-d-pairs
returns-then-d-pairs c = unattempted _ _ _ _ refl (λ i g h. refl)

pub slice_bounds-attempt-end-2 : goal.slice_bounds-attempt-end-2
slice_bounds-attempt-end-2 c = sym (length-take-le c.args.pairs c.args.d.now c.if-d-pairs.false)

pub attempt-requires : goal.attempt-requires
attempt-requires c =
    let p = c.requires in
    let a = c.args in
    let z = front-size a.mode a.t.now a.bytes.now a.k a.pairs a.d.now c.if-pairs-lt-ROWS.false c.if-d-pairs.false in
    (p.0, p.1, omega arith, omega arith, front-classified a.mode a.t.now a.bytes.now a.k a.pairs a.d.now c.if-pairs-lt-ROWS.false c.if-d-pairs.false p.4, front-hull a.mode a.t.now a.bytes.now a.k a.pairs a.d.now c.if-pairs-lt-ROWS.false c.if-d-pairs.false p.5, front-tests a.mode a.t.now a.bytes.now a.k a.pairs a.d.now c.if-pairs-lt-ROWS.false c.if-d-pairs.false p.6)

pub returns : goal.returns
returns c =
    let a = c.args in
    front-attempted a.mode a.t.now a.bytes.now a.k a.pairs a.d.now c.if-pairs-lt-ROWS.false c.if-d-pairs.false _ _ c.attempt.ensures
