-- `put_value`: the room with what is left from the index on is the room with the whole value.
use mathlib.Core.Path.{refl, sym, ap, ◌∙◌}
use native.Mathlib.Omega.{arith}
use lib.ListN.{length}
use borrow.Author.Rules.{rules}
use Rattle.program_tables.proofs.Values.{value-end, put_next, put-none}
use Rattle.program_tables.proofs.texts.put_value.Goals as goal

pub loop-i-init : goal.loop-i-init
loop-i-init c = (omega arith, (omega arith, (refl, (refl, refl))))

pub value_at-v-requires : goal.value_at-v-requires
value_at-v-requires c =
    let l = c.loop-i in
    (c.loop-i-test.true, c.requires.0 (omega (arith, l.invariant.1.0, c.loop-i-test.true)))

pub overflow_add-n : goal.overflow_add-n
overflow_add-n c =
    let l = c.loop-i in
    omega (arith, l.invariant.0, l.invariant.1.0, c.requires.1, c.loop-i-test.true)

pub loop-i-smaller : goal.loop-i-smaller
loop-i-smaller c =
    let v = c.value_at-v.ensures in
    omega (arith, v.further, v.within)

pub loop-i-preserved : goal.loop-i-preserved
loop-i-preserved c =
    let l = c.loop-i in
    let v = c.value_at-v.ensures in (
      omega (arith, l.invariant.0, v.further),
      (
        omega (arith, l.invariant.1.0, v.further),
        (
          omega (arith, l.invariant.1.1.0, ap length v.one),
          (
            l.invariant.1.1.1.0 ∙ put_next l.room l.n v.one c.put_byte.ensures,
            search rules,
          ),
        ),
      ),
    )

pub returns : goal.returns
returns c =
    let a = c.args in
    let l = c.loop-i in
    let none = value-end a.s.now l.i a.stop a.escapes c.loop-i-test.false in (
      omega (arith, l.invariant.1.1.0, ap length none),
      sym (l.invariant.1.1.1.0 ∙ put-none l.room l.n none),
    )
