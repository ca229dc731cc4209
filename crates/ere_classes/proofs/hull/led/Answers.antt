use mathlib.Core.Path.{sym, ◌∙◌}
use native.Mathlib.Omega.{arith}
use Rattle.ere_classes.proofs.Bounded.{led-with, led-past}
use Rattle.ere_classes.proofs.hull.led.Goals.{then-not-is_empty, else-not-is_empty}
use Rattle.ere_classes.proofs.hull.led.Goals as goal

pub loop-c-preserved : goal.loop-c-preserved
loop-c-preserved c =
    let a = c.args in
    let l = c.loop-c in
    elim c.if-not-is_empty.branch [
      | then-not-is_empty w ↦ rw w.out-is (led-with a.t.now a.bytes.now l.c a.s a.start l.out (omega arith) l.invariant)
      | else-not-is_empty w ↦ rw w.out-is (led-past a.t.now a.bytes.now l.c a.s a.start l.out (sym c.step.ensures ∙ c.is_empty.ensures w.if-not-is_empty.false) l.invariant)
    ]
