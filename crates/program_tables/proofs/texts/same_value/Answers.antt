-- `same_value`: what is left of both is equal as the whole of both is.
use mathlib.Core.Path.{refl, sym, ◌∙◌}
use native.Mathlib.Omega.{arith}
use Rattle.program_tables.proofs.Values.{both-inside, same_next, same_differs, same_ends}
use Rattle.program_tables.proofs.texts.same_value.Goals as goal

pub loop-i-init : goal.loop-i-init
loop-i-init c = (omega arith, (omega arith, refl))

pub value_at-x-requires : goal.value_at-x-requires
value_at-x-requires c =
    let l = c.loop-i in
    let t = both-inside l.i c.args.p l.j c.args.q c.loop-i-test.true in
    (t.0, c.requires.0 (omega (arith, l.invariant.0, t.0)))

pub value_at-y-requires : goal.value_at-y-requires
value_at-y-requires c =
    let l = c.loop-i in
    let t = both-inside l.i c.args.p l.j c.args.q c.loop-i-test.true in
    (t.1, c.requires.1 (omega (arith, l.invariant.1.0, t.1)))

pub returns-then-x-y : goal.returns-then-x-y
returns-then-x-y c =
    let l = c.loop-i in
    let x = c.value_at-x.ensures in
    let y = c.value_at-y.ensures in
    sym (l.invariant.1.1 ∙ same_differs x.one y.one c.if-x-y.true)

pub loop-i-smaller : goal.loop-i-smaller
loop-i-smaller c =
    let x = c.value_at-x.ensures in
    omega (arith, x.further, x.within)

pub loop-i-preserved : goal.loop-i-preserved
loop-i-preserved c =
    let l = c.loop-i in
    let x = c.value_at-x.ensures in
    let y = c.value_at-y.ensures in (
      omega (arith, l.invariant.0, x.further),
      (
        omega (arith, l.invariant.1.0, y.further),
        l.invariant.1.1 ∙ same_next x.one y.one c.if-x-y.false,
      ),
    )

pub returns : goal.returns
returns c =
    let a = c.args in
    let l = c.loop-i in
    sym (l.invariant.1.1
    ∙ same_ends a.s.now a.escapes l.i a.p l.j a.q
    (λ h. c.requires.0 (omega (arith, l.invariant.0, h))) (λ h. c.requires.1 (omega (arith, l.invariant.1.0, h)))
    c.loop-i-test.false)
