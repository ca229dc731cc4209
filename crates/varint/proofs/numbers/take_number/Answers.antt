-- `take_number` meets its contract: k groups are read, and what the bytes after them give, with these, is the number.
use Rattle.varint.proofs.Groups.{read-start, take_last, take_more, take-many, read_out, scale-most, scale-some, scale-more, group-fits, group-below}
use Rattle.varint.specs.Take.{TakesAt}
use lib.ListN.{get_or}
use mathlib.Core.Path.{refl, sym, subst}
use native.Mathlib.Omega.{arith}
use Prim.Native.Nat.{◌+◌, ◌-◌}
use Rattle.varint.proofs.numbers.take_number.Goals as goal

pub loop-k-init : goal.loop-k-init
loop-k-init c = (omega (arith, c.requires), omega arith, refl, omega arith, read-start c.args.image.now c.args.at)

pub overflow_add-at : goal.overflow_add-at
overflow_add-at c = omega (arith, c.loop-k.invariant.0)

pub overflow_add-b : goal.overflow_add-b
overflow_add-b c = omega (arith, c.loop-k.invariant.0)

pub bounds-image-at : goal.bounds-image-at
bounds-image-at c = omega (arith, c.loop-k-test.true)

pub overflow_cast-b : goal.overflow_cast-b
overflow_cast-b c = omega (arith, (c.shared_slice_known-in-loop-k-1.given (c.args.at + c.loop-k.k)).fits)

pub overflow_add-at-then-b-lt128 : goal.overflow_add-at-then-b-lt128
overflow_add-at-then-b-lt128 c = omega (arith, c.loop-k-test.true)

pub overflow_add-at-then-b-lt128-2 : goal.overflow_add-at-then-b-lt128-2
overflow_add-at-then-b-lt128-2 c = omega (arith, c.loop-k-test.true)

pub last-requires : goal.last-requires
last-requires c = (c.loop-k.invariant.3, omega (arith, c.loop-k.invariant.2, scale-most c.loop-k.k c.loop-k.invariant.1), c.if-b-lt128.true)

pub returns-then-b-lt128 : goal.returns-then-b-lt128
returns-then-b-lt128 c =
    let a = c.args in
    subst (TakesAt a.image.now a.at) (sym c.last.ensures)
    (take_last a.image.now a.at c.loop-k.k c.loop-k-test.true c.loop-k.value c.loop-k.scale c.loop-k.invariant.4 c.if-b-lt128.true)

pub returns-then-k-eq-GROUPS : goal.returns-then-k-eq-GROUPS
returns-then-k-eq-GROUPS c =
    let a = c.args in
    take-many a.image.now a.at c.loop-k.k c.loop-k-test.true c.loop-k.value c.loop-k.scale c.loop-k.invariant.4 c.loop-k.invariant.2 c.if-k-eq-GROUPS.true (c.shared_slice_known-in-loop-k-1.given (a.at + c.loop-k.k)).fits c.if-b-lt128.false

pub overflow_mul-value : goal.overflow_mul-value
overflow_mul-value c =
    let a = c.args in
    omega (arith, c.loop-k.invariant.2, scale-most c.loop-k.k c.loop-k.invariant.1, group-fits c.loop-k.scale (get_or a.image.now (a.at + c.loop-k.k) 0 - 128) (omega (arith, c.loop-k.invariant.2, scale-most c.loop-k.k c.loop-k.invariant.1)) (omega (arith, (c.shared_slice_known-in-loop-k-1.given (a.at + c.loop-k.k)).fits)))

pub overflow_add-value : goal.overflow_add-value
overflow_add-value c =
    let a = c.args in
    omega (arith, c.loop-k.invariant.2, c.loop-k.invariant.3, scale-most c.loop-k.k c.loop-k.invariant.1, group-fits c.loop-k.scale (get_or a.image.now (a.at + c.loop-k.k) 0 - 128) (omega (arith, c.loop-k.invariant.2, scale-most c.loop-k.k c.loop-k.invariant.1)) (omega (arith, (c.shared_slice_known-in-loop-k-1.given (a.at + c.loop-k.k)).fits)))

pub overflow_mul-scale : goal.overflow_mul-scale
overflow_mul-scale c =
    omega (arith, c.loop-k.invariant.2, scale-most c.loop-k.k c.loop-k.invariant.1)

pub overflow_add-k : goal.overflow_add-k
overflow_add-k c = omega (arith, c.loop-k.invariant.1)

pub loop-k-smaller : goal.loop-k-smaller
loop-k-smaller c = omega (arith, c.loop-k-test.true)

pub loop-k-preserved : goal.loop-k-preserved
loop-k-preserved c =
    let a = c.args in
    let b = (c.shared_slice_known-in-loop-k-1.given (a.at + c.loop-k.k)).fits in (
      omega (arith, c.loop-k-test.true),
      omega (arith, c.loop-k.invariant.1, c.if-k-eq-GROUPS.false),
      scale-more c.loop-k.scale c.loop-k.k c.loop-k.invariant.2,
      group-below c.loop-k.value c.loop-k.scale (get_or a.image.now (a.at + c.loop-k.k) 0 - 128) c.loop-k.invariant.3 (omega (arith, b)),
      take_more a.image.now a.at c.loop-k.k c.loop-k-test.true c.loop-k.value c.loop-k.scale c.loop-k.invariant.4 (omega (arith, c.loop-k.invariant.2, scale-some c.loop-k.k)) b c.if-b-lt128.false,
    )

pub returns : goal.returns
returns c = read_out c.args.image.now c.args.at (c.args.at + c.loop-k.k) c.loop-k.value c.loop-k.scale c.loop-k-test.false c.loop-k.invariant.4
