-- `instruction_entry` meets its contract, by the instruction's numbers.
use native.Mathlib.Omega.{arith}
use Rattle.image_format.proofs.Codes.{count-few}
use Rattle.image_index.specs.declared.indexes.Kind.TheVariants.{Instructions}
use Rattle.image_index.proofs.Entering.{entry-missing, entry-unfit, instruction-fits, instruction-deep, first-far, second-far, unpacked-packed}
use Rattle.image_index.proofs.indexes.instruction_entry.Goals as goal

pub returns-in_err-i : goal.returns-in_err-i
returns-in_err-i c =
    let a = c.args in
    rw c.from_residual.ensures (entry-missing a.edition Instructions a.image.now a.at c.in_err-i.ensures)

pub returns-then-i : goal.returns-then-i
returns-then-i c =
    let a = c.args in
    let r = c.in_ok-i.i in
    entry-unfit a.edition Instructions a.image.now a.at _ _ c.in_ok-i.ensures.found
    (instruction-deep a.edition r.code r.depth r.first r.second c.if-i.true)

pub returns-then-i-2 : goal.returns-then-i-2
returns-then-i-2 c =
    let a = c.args in
    let r = c.in_ok-i.i in
    let y = c.in_ok-i.ensures in
    entry-unfit a.edition Instructions a.image.now a.at _ _ y.found
    (first-far a.edition r.code r.depth r.first r.second y.no_first c.if-i-2.true)

pub returns-then-i-3 : goal.returns-then-i-3
returns-then-i-3 c =
    let a = c.args in
    let r = c.in_ok-i.i in
    let y = c.in_ok-i.ensures in
    entry-unfit a.edition Instructions a.image.now a.at _ _ y.found
    (second-far a.edition r.code r.depth r.first r.second y.no_second c.if-i-3.true)

pub overflow_add-result : goal.overflow_add-result
overflow_add-result c = omega (arith, c.in_ok-i.ensures.known, count-few c.args.edition, c.if-i.false, c.if-i-2.false, c.if-i-3.false)

pub overflow_add-result-2 : goal.overflow_add-result-2
overflow_add-result-2 c = omega (arith, c.in_ok-i.ensures.known, count-few c.args.edition, c.if-i.false, c.if-i-2.false, c.if-i-3.false)

pub overflow_add-result-3 : goal.overflow_add-result-3
overflow_add-result-3 c = omega (arith, c.in_ok-i.ensures.known, count-few c.args.edition, c.if-i.false, c.if-i-2.false, c.if-i-3.false)

pub overflow_cast-result : goal.overflow_cast-result
overflow_cast-result c = omega (arith, c.in_ok-i.ensures.known, count-few c.args.edition, c.if-i.false, c.if-i-2.false, c.if-i-3.false)

pub returns : goal.returns
returns c =
    let a = c.args in
    let r = c.in_ok-i.i in
    let y = c.in_ok-i.ensures in (
      _,
      y.found,
      instruction-fits a.edition r.code r.depth r.first r.second c.if-i.false c.if-i-2.false c.if-i-3.false,
      unpacked-packed a.edition r.code r.depth r.first r.second (omega (arith, y.known, count-few a.edition))
          (omega (arith, c.if-i.false)) c.if-i-2.false,
    )
