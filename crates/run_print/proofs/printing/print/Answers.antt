-- `print` meets its contract: its length first, and then all of it or nothing.
use native.Mathlib.Omega.{arith}
use Rattle.run_print.proofs.Prints.{ofs-in, measured, print-short}
use Rattle.run_print.proofs.Prints.{values-fit, ors-in, ors-fits, print-whole}
use Rattle.run_print.proofs.printing.print.Goals as goal

pub line_length-requires : goal.line_length-requires
line_length-requires c =
    let a = c.args in
    let p = c.requires in (
      omega (arith, c.show-between.ensures.slotted.outside.size, c.show-end.ensures.slotted.outside.size, p.0),
      p.1,
      p.2,
      ofs-in a.work.now _ _ p.0 c.show-between.ensures c.show-end.ensures,
    )

pub returns-then-out-size : goal.returns-then-out-size
returns-then-out-size c =
    let a = c.args in
    let p = c.requires in
    let m =
    measured a.work.now _ _ _ a.first a.n c.show-between.result c.show-end.result c.line_length.result
    p.0 p.2
    c.show-between.ensures c.show-end.ensures c.line_length.ensures.0 c.line_length.ensures.1 in
    print-short a.work.now _ a.out.now a.first a.n c.show-between.result c.show-end.result
    c.line_length.result m
    (omega (arith, c.if-out-size.true))

pub write_values-at-requires : goal.write_values-at-requires
write_values-at-requires c =
    let a = c.args in
    let p = c.requires in
    let m =
    measured a.work.now _ _ _ a.first a.n c.show-between.result c.show-end.result c.line_length.result
    p.0 p.2
    c.show-between.ensures c.show-end.ensures c.line_length.ensures.0 c.line_length.ensures.1 in (
      m.fits,
      p.1,
      p.2,
      m.ofs,
      values-fit a.work.now _ a.out.now a.first a.n c.show-between.result c.show-end.result
          c.line_length.result m
          (omega (arith, c.if-out-size.false)),
    )

pub write_text-requires : goal.write_text-requires
write_text-requires c =
    let a = c.args in
    let p = c.requires in
    let r = c.write_values-at.ensures in
    let m =
    measured a.work.now _ _ _ a.first a.n c.show-between.result c.show-end.result c.line_length.result
    p.0 p.2
    c.show-between.ensures c.show-end.ensures c.line_length.ensures.0 c.line_length.ensures.1 in (
      omega (arith, m.fits, r.0.size),
      omega arith,
      ors-in a.work.now _ a.out.now a.first a.n c.show-between.result c.show-end.result
          c.line_length.result m
          (omega (arith, c.if-out-size.false)) _ _ c.write_values-at.result r.0 r.1 r.2,
      ors-fits a.work.now _ a.out.now a.first a.n c.show-between.result c.show-end.result
          c.line_length.result m
          (omega (arith, c.if-out-size.false)) _ _ c.write_values-at.result r.0 r.1 r.2,
    )

pub returns : goal.returns
returns c =
    let a = c.args in
    let p = c.requires in
    let r = c.write_values-at.ensures in
    let m =
    measured a.work.now _ _ _ a.first a.n c.show-between.result c.show-end.result c.line_length.result
    p.0 p.2
    c.show-between.ensures c.show-end.ensures c.line_length.ensures.0 c.line_length.ensures.1 in
    print-whole a.work.now _ a.out.now a.first a.n c.show-between.result c.show-end.result
    c.line_length.result m
    (omega (arith, c.if-out-size.false)) _ _ c.write_values-at.result r.0 r.1 r.2 _ c.write_text.ensures.0
