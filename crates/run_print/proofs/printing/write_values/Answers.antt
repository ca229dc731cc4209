-- `write_values` meets its contract: the invariant is that the texts so far are the front of the output.
use native.Mathlib.Omega.{arith}
use Rattle.run_print.proofs.Showing.{shown-in}
use Rattle.run_print.proofs.Written.{first_fits, written-first}
use Rattle.run_print.proofs.Written.{written-ofs, next_fits, written_next, written_all}
use Rattle.run_print.proofs.printing.write_values.Goals as goal

pub write_text-at-requires : goal.write_text-at-requires
write_text-at-requires c =
    let a = c.args in
    let p = c.requires in (
      omega (arith, c.show-m.ensures.slotted.outside.size, p.0),
      omega (arith, p.1, p.2),
      shown-in a.work.now _ a.first c.show-m.result c.show-m.ensures,
      first_fits a.work.now _ a.out.now a.first a.n c.show-m.result p.0 p.1 p.2 p.4
          c.show-m.ensures,
    )

pub loop-i-init : goal.loop-i-init
loop-i-init c =
    let a = c.args in
    let p = c.requires in
    written-first a.work.now _ a.out.now _ a.first a.n a.between c.show-m.result
    p.0 p.1 p.2 p.3 p.4 c.show-m.ensures c.write_text-at.ensures.0
    c.write_text-at.result c.write_text-at.ensures.1

pub write_next-at-requires : goal.write_next-at-requires
write_next-at-requires c =
    let a = c.args in
    let p = c.requires in
    let i = c.loop-i in (
      omega (arith, c.show-m.ensures.slotted.outside.size, i.invariant.kept.size),
      omega arith,
      written-ofs a.work.now _ a.out.now _ a.first a.n a.between c.show-m.result
          p.0 p.1 p.2 p.3 p.4 c.show-m.ensures c.write_text-at.ensures.0
          i.work i.out i.i i.at i.invariant,
      next_fits a.work.now _ a.out.now _ a.first a.n a.between c.show-m.result
          p.0 p.1 p.2 p.3 p.4 c.show-m.ensures c.write_text-at.ensures.0
          i.work i.out i.i i.at i.invariant c.loop-i-test.true,
    )

pub loop-i-preserved : goal.loop-i-preserved
loop-i-preserved c =
    let a = c.args in
    let p = c.requires in
    let i = c.loop-i in
    let r = c.write_next-at.ensures in
    written_next a.work.now _ a.out.now _ a.first a.n a.between c.show-m.result
    p.0 p.1 p.2 p.3 p.4 c.show-m.ensures c.write_text-at.ensures.0
    i.work i.out i.i i.at i.invariant c.loop-i-test.true _ _ c.write_next-at.result r.0 r.1 r.2

pub returns : goal.returns
returns c =
    let a = c.args in
    let p = c.requires in
    let i = c.loop-i in
    written_all a.work.now _ a.out.now _ a.first a.n a.between c.show-m.result
    p.0 p.1 p.2 p.3 p.4 c.show-m.ensures c.write_text-at.ensures.0
    i.work i.out i.i i.at i.invariant c.loop-i-test.false
