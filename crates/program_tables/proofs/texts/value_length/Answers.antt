-- `value_length`: what is counted and what is left are the value's bytes.
use mathlib.Core.Path.{ap}
use native.Mathlib.Omega.{arith}
use lib.ListN.{length}
use Rattle.program_tables.proofs.Values.{value-end}
use Rattle.program_tables.proofs.texts.value_length.Goals as goal

pub loop-i-init : goal.loop-i-init
loop-i-init c = (omega arith, omega arith)

pub value_at-v-requires : goal.value_at-v-requires
value_at-v-requires c =
    let l = c.loop-i in
    (c.loop-i-test.true, c.requires (omega (arith, l.invariant.0, c.loop-i-test.true)))

pub overflow_add-n : goal.overflow_add-n
overflow_add-n c =
    let l = c.loop-i in
    omega (arith, l.invariant.0, c.loop-i-test.true)

pub loop-i-smaller : goal.loop-i-smaller
loop-i-smaller c =
    let v = c.value_at-v.ensures in
    omega (arith, v.further, v.within)

pub loop-i-preserved : goal.loop-i-preserved
loop-i-preserved c =
    let v = c.value_at-v.ensures in
    let l = c.loop-i in (
      omega (arith, l.invariant.0, v.further),
      omega (arith, l.invariant.1, ap length v.one),
    )

pub returns : goal.returns
returns c =
    let a = c.args in
    let l = c.loop-i in
    omega (arith, l.invariant.1, ap length (value-end a.s.now l.i a.stop a.escapes c.loop-i-test.false))
