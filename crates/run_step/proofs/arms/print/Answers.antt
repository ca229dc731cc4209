-- `print` meets its contract: the rest of the output is lent, and comes back.
use mathlib.Core.Path.{sym, ap, ◌∙◌}
use Prim.Native.Nat.{◌-◌}
use native.Mathlib.Omega.{arith}
use lib.ListN.{length, length-drop}
use Rattle.buffer.proofs.Lent.{tail-lent}
use Rattle.std.specs.Prelude.{Result}
use Prim.Native.Nat.{ℕ}
use Rattle.run_print.specs.Prints.{written}
use Rattle.run_step.specs.Machine.{printed_to}
use Rattle.run_step.proofs.Printing.{rest-came}
use Rattle.run_step.proofs.arms.print.Goals as goal

pub overflow_add-r : goal.overflow_add-r
overflow_add-r c =
    let a = c.args in
    let o = a.output.now in
    let n = a.m.written in
    let fits = (c.print-p.ensures a.m.line).safe.2 in
    let told = c.in-Ok.is in
    let pre = c.requires in
    let good = c.well_formed in
    omega (arith, fits, ap written told, pre, good, ap length (tail-lent o n), length-drop n o)

pub returns-in-Ok : goal.returns-in-Ok
returns-in-Ok c =
    let a = c.args in
    let o = a.output.now in
    let n = a.m.written in
    let p = c.print-p in
    let t = p.new.out in
    let told = c.in-Ok.is in (
      p.result,
      t,
      c.on.ensures ∙ ap (λ (q : Result ℕ ℕ). printed_to a.m q (a.m.depth - a.n)) (sym told),
      rest-came o n t,
      rw (tail-lent o n) at p.ensures,
    )

pub returns-in-Err : goal.returns-in-Err
returns-in-Err c =
    let a = c.args in
    let o = a.output.now in
    let n = a.m.written in
    let p = c.print-p in
    let t = p.new.out in
    let told = c.in-Err.is in (
      p.result,
      t,
      c.stop.ensures ∙ ap (λ (q : Result ℕ ℕ). printed_to a.m q (a.m.depth - a.n)) (sym told),
      rest-came o n t,
      rw (tail-lent o n) at p.ensures,
    )
