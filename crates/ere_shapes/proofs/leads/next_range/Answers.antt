-- `next_range` meets its contract: outside of the range no byte leads on, and in it all lead to the same.
use mathlib.Core.Path.{sym, ◌∙◌}
use native.Mathlib.Omega.{arith}
use Rattle.lists.proofs.Tests.{or-false}
use Rattle.ere_shapes.proofs.Ranges.{both_bits, range-leads}
use Rattle.ere_shapes.proofs.leads.next_range.Goals as goal

pub returns : goal.returns
returns c =
    let a = c.args in
    let r = c.in_ok-low in
    let none = or-false _ _ c.if-has.false in (
      omega (arith, r.ensures),
      range-leads a.t.now a.bytes.now a.k a.d.now a.s c.requires.3 c.led.result c.alike.result r.low r.high
          c.led.ensures r.ensures.0 r.ensures.1 r.ensures.2 r.ensures.3 c.step-next.result c.step-next.ensures
          c.alike.ensures (c.are_in.ensures c.if-not-are_in.false)
          (both_bits a.s (sym c.has.ensures ∙ none.0) (sym c.has-2.ensures ∙ none.1)),
    )
