-- `write_next` meets its contract.
use native.Mathlib.Omega.{arith}
use Rattle.run_print.proofs.Showing.{shown-in, shown-length, kept-shown}
use Rattle.run_print.proofs.Written.{wrote-next}
use Rattle.run_print.proofs.printing.write_next.Goals as goal

pub write_text-requires : goal.write_text-requires
write_text-requires c =
    let a = c.args in
    let p = c.requires in (
      omega (arith, c.show-n.ensures.slotted.outside.size, p.0),
      p.1,
      shown-in a.work.now _ a.i c.show-n.result c.show-n.ensures,
      omega (
        arith,
        c.write_text-from.ensures.1,
        shown-length a.work.now _ a.i c.show-n.result p.0 p.1
            c.show-n.ensures,
        p.3,
      ),
    )

pub returns : goal.returns
returns c =
    let a = c.args in
    let p = c.requires in (
      kept-shown a.work.now _ a.i c.show-n.result p.0 p.1 c.show-n.ensures,
      wrote-next a.work.now _ a.out.now a.i a.between c.show-n.result a.at c.write_text-from.result
          p.0 p.2 c.show-n.ensures p.3 c.write_text-from.ensures.1 c.write_text-from.ensures.0
          c.write_text.ensures.0,
      omega (
        arith,
        c.write_text-from.ensures.1,
        c.write_text.ensures.1,
        shown-length a.work.now _ a.i
            c.show-n.result p.0 p.1 c.show-n.ensures,
      ),
    )
